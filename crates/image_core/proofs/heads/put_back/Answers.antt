use Rattle.std.proofs.Common.{◌≡◌, ◌∙◌, ◌++◌, ◌≤◌, List, ℕ, ap, refl, take, replicate, arith}
use Rattle.byte_streams.proofs.Taken.{TakesFront-first}
use Rattle.definitions.specs.Streams.{TakesAll}
use Rattle.elf_core.specs.Elf.{note_bytes, padding, section_bytes}
use Rattle.image_core.specs.Identity.{identity_of}
use Rattle.image_core.proofs.Outcomes.{on_ok_then}
use Rattle.image_core.proofs.Pieces.{both_all, first_front, second_front, zeros_of}
use Rattle.image_core.proofs.heads.put_back.Goals as goal

pub returns-in_err-put_all-clause-front : goal.returns-in_err-put_all-clause-front
returns-in_err-put_all-clause-front g c =
    let a = note_bytes (identity_of c.args.info.now) in
    let b = section_bytes c.args.runs in
    let z = replicate (padding c.args.runs) 0 in
    let old = g.S.Sink.taken c.args.out.now in
    let new = g.S.Sink.taken c.put_all.new.sink in
    let is : c.as_bytes-2.result.now ≡ a = c.as_bytes-2.ensures ∙ c.note.ensures ∙ ap (λ (page : List ℕ). note_bytes (take 396 page)) c.as_bytes.ensures.bytes in
    TakesFront-first (a ++ b) z old new (first_front a b c.as_bytes-2.result.now old new is c.in_err-put_all.ensures.front)

pub returns-in_err-put_all-2-clause-front : goal.returns-in_err-put_all-2-clause-front
returns-in_err-put_all-2-clause-front g c =
    let a = note_bytes (identity_of c.args.info.now) in
    let b = section_bytes c.args.runs in
    let z = replicate (padding c.args.runs) 0 in
    let old = g.S.Sink.taken c.args.out.now in
    let mid = g.S.Sink.taken c.put_all.new.sink in
    let new = g.S.Sink.taken c.put_all-2.new.sink in
    let is : c.as_bytes-2.result.now ≡ a = c.as_bytes-2.ensures ∙ c.note.ensures ∙ ap (λ (page : List ℕ). note_bytes (take 396 page)) c.as_bytes.ensures.bytes in
    TakesFront-first (a ++ b) z old new
    (second_front a b c.as_bytes-2.result.now c.as_bytes-3.result.now old mid new is (c.as_bytes-3.ensures ∙ c.section.ensures) c.in_ok-put_all.ensures.whole c.in_err-put_all-2.ensures.front)

pub returns-clause-whole : goal.returns-clause-whole
returns-clause-whole g c =
    let a = note_bytes (identity_of c.args.info.now) in
    let b = section_bytes c.args.runs in
    let z = replicate (padding c.args.runs) 0 in
    let old = g.S.Sink.taken c.args.out.now in
    let mid = g.S.Sink.taken c.put_all.new.sink in
    let then = g.S.Sink.taken c.put_all-2.new.sink in
    let new = g.S.Sink.taken c.put_all-3.new.sink in
    let is : c.as_bytes-2.result.now ≡ a = c.as_bytes-2.ensures ∙ c.note.ensures ∙ ap (λ (page : List ℕ). note_bytes (take 396 page)) c.as_bytes.ensures.bytes in
    let few : c.padding.result ≤ 4096 = omega (arith, c.padding.ensures.few) in
    let zeros = zeros_of c.padding.result c.as_bytes-4.result.now few (c.as_bytes-4.ensures.bytes ∙ c.zero.ensures) ∙ ap (λ (k : ℕ). replicate k 0) c.padding.ensures.count in
    let both = both_all a b c.as_bytes-2.result.now c.as_bytes-3.result.now old mid then is (c.as_bytes-3.ensures ∙ c.section.ensures) c.in_ok-put_all.ensures.whole c.in_ok-put_all-2.ensures.whole in
    on_ok_then c.put_all-3.result
    (λ (whole : TakesAll (take c.padding.result c.as_bytes-4.result.now) then new). both_all (a ++ b) z (a ++ b) (take c.padding.result c.as_bytes-4.result.now) old then new refl zeros both whole)
    c.put_all-3.ensures.whole

pub returns-clause-front : goal.returns-clause-front
returns-clause-front g c =
    let a = note_bytes (identity_of c.args.info.now) in
    let b = section_bytes c.args.runs in
    let z = replicate (padding c.args.runs) 0 in
    let old = g.S.Sink.taken c.args.out.now in
    let mid = g.S.Sink.taken c.put_all.new.sink in
    let then = g.S.Sink.taken c.put_all-2.new.sink in
    let new = g.S.Sink.taken c.put_all-3.new.sink in
    let is : c.as_bytes-2.result.now ≡ a = c.as_bytes-2.ensures ∙ c.note.ensures ∙ ap (λ (page : List ℕ). note_bytes (take 396 page)) c.as_bytes.ensures.bytes in
    let few : c.padding.result ≤ 4096 = omega (arith, c.padding.ensures.few) in
    let zeros = zeros_of c.padding.result c.as_bytes-4.result.now few (c.as_bytes-4.ensures.bytes ∙ c.zero.ensures) ∙ ap (λ (k : ℕ). replicate k 0) c.padding.ensures.count in
    let both = both_all a b c.as_bytes-2.result.now c.as_bytes-3.result.now old mid then is (c.as_bytes-3.ensures ∙ c.section.ensures) c.in_ok-put_all.ensures.whole c.in_ok-put_all-2.ensures.whole in
    second_front (a ++ b) z (a ++ b) (take c.padding.result c.as_bytes-4.result.now) old then new refl zeros both c.put_all-3.ensures.front
