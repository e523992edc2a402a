use Rattle.std.proofs.Common.{◌≡◌, ◌∙◌, ◌++◌, ◌≤◌, ℕ, ap, refl, take, replicate, arith}
use Rattle.byte_streams.proofs.Taken.{TakesFront-first}
use Rattle.definitions.specs.Streams.{TakesAll}
use Rattle.elf_core.specs.Elf.{note_bytes, padding, section_bytes}
use Rattle.dump_core.specs.Cores.{identity_bytes}
use Rattle.dump_core.proofs.Pieces.{both_all, on_ok_then, second_front, zeros_of}
use Rattle.dump_core.proofs.heads.put_back.Goals as goal

pub returns-in_err-put_all-2-clause-front : goal.returns-in_err-put_all-2-clause-front
returns-in_err-put_all-2-clause-front g c =
    let a = note_bytes (identity_bytes c.args.ident.now) in
    let b = section_bytes c.args.runs in
    let z = replicate (padding c.args.runs) 0 in
    let old = g.K.Sink.taken c.args.out.now in
    let mid = g.K.Sink.taken c.put_all.new.sink in
    let new = g.K.Sink.taken c.put_all-2.new.sink in
    let is : c.as_bytes.result.now ≡ a = c.as_bytes.ensures ∙ c.note.ensures ∙ ap note_bytes (c.as_slice.ensures.value ∙ c.identity_bytes.ensures.bytes) in
    TakesFront-first (a ++ b) z old new
    (second_front a b c.as_bytes.result.now c.as_bytes-2.result.now old mid new is (c.as_bytes-2.ensures ∙ c.section.ensures) c.in_ok-put_all.ensures.whole c.in_err-put_all-2.ensures.front)

pub returns-clause-whole : goal.returns-clause-whole
returns-clause-whole g c =
    let a = note_bytes (identity_bytes c.args.ident.now) in
    let b = section_bytes c.args.runs in
    let z = replicate (padding c.args.runs) 0 in
    let old = g.K.Sink.taken c.args.out.now in
    let mid = g.K.Sink.taken c.put_all.new.sink in
    let then = g.K.Sink.taken c.put_all-2.new.sink in
    let new = g.K.Sink.taken c.put_all-3.new.sink in
    let is : c.as_bytes.result.now ≡ a = c.as_bytes.ensures ∙ c.note.ensures ∙ ap note_bytes (c.as_slice.ensures.value ∙ c.identity_bytes.ensures.bytes) in
    let few : c.padding.result ≤ 4096 = omega (arith, c.padding.ensures.few) in
    let zeros = zeros_of c.padding.result c.as_bytes-3.result.now few (c.as_bytes-3.ensures.bytes ∙ c.zero.ensures) ∙ ap (λ (k : ℕ). replicate k 0) c.padding.ensures.count in
    let both = both_all a b c.as_bytes.result.now c.as_bytes-2.result.now old mid then is (c.as_bytes-2.ensures ∙ c.section.ensures) c.in_ok-put_all.ensures.whole c.in_ok-put_all-2.ensures.whole in
    on_ok_then c.put_all-3.result
    (λ (whole : TakesAll (take c.padding.result c.as_bytes-3.result.now) then new). both_all (a ++ b) z (a ++ b) (take c.padding.result c.as_bytes-3.result.now) old then new refl zeros both whole)
    c.put_all-3.ensures.whole

pub returns-clause-front : goal.returns-clause-front
returns-clause-front g c =
    let a = note_bytes (identity_bytes c.args.ident.now) in
    let b = section_bytes c.args.runs in
    let z = replicate (padding c.args.runs) 0 in
    let old = g.K.Sink.taken c.args.out.now in
    let mid = g.K.Sink.taken c.put_all.new.sink in
    let then = g.K.Sink.taken c.put_all-2.new.sink in
    let new = g.K.Sink.taken c.put_all-3.new.sink in
    let is : c.as_bytes.result.now ≡ a = c.as_bytes.ensures ∙ c.note.ensures ∙ ap note_bytes (c.as_slice.ensures.value ∙ c.identity_bytes.ensures.bytes) in
    let few : c.padding.result ≤ 4096 = omega (arith, c.padding.ensures.few) in
    let zeros = zeros_of c.padding.result c.as_bytes-3.result.now few (c.as_bytes-3.ensures.bytes ∙ c.zero.ensures) ∙ ap (λ (k : ℕ). replicate k 0) c.padding.ensures.count in
    let both = both_all a b c.as_bytes.result.now c.as_bytes-2.result.now old mid then is (c.as_bytes-2.ensures ∙ c.section.ensures) c.in_ok-put_all.ensures.whole c.in_ok-put_all-2.ensures.whole in
    second_front (a ++ b) z (a ++ b) (take c.padding.result c.as_bytes-3.result.now) old then new refl zeros both c.put_all-3.ensures.front
