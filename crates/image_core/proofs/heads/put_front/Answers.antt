use Rattle.std.proofs.Common.{◌≡◌, ◌∙◌, ℕ, List, ap}
use Rattle.definitions.specs.Streams.{TakesAll}
use Rattle.elf_core.specs.Elf.{file_header_bytes, note_header_bytes}
use Rattle.image_core.specs.Identity.{machine_of}
use Rattle.image_core.proofs.Outcomes.{on_ok_then}
use Rattle.image_core.proofs.Pieces.{both_all, first_front, second_front}
use Rattle.image_core.proofs.heads.put_front.Goals as goal

pub returns-in_err-put_all-clause-front : goal.returns-in_err-put_all-clause-front
returns-in_err-put_all-clause-front g c =
    let a = file_header_bytes (machine_of c.args.info.now) c.args.runs in
    let is : c.as_bytes.result.now ≡ a = c.as_bytes.ensures ∙ c.file_header.ensures ∙ ap (λ (m : ℕ). file_header_bytes m c.args.runs) c.machine_of.ensures in
    first_front a (note_header_bytes c.args.runs) c.as_bytes.result.now (g.S.Sink.taken c.args.out.now) (g.S.Sink.taken c.put_all.new.sink) is c.in_err-put_all.ensures.front

pub returns-clause-whole : goal.returns-clause-whole
returns-clause-whole g c =
    let a = file_header_bytes (machine_of c.args.info.now) c.args.runs in
    let b = note_header_bytes c.args.runs in
    let old = g.S.Sink.taken c.args.out.now in
    let mid = g.S.Sink.taken c.put_all.new.sink in
    let new = g.S.Sink.taken c.put_all-2.new.sink in
    let is : c.as_bytes.result.now ≡ a = c.as_bytes.ensures ∙ c.file_header.ensures ∙ ap (λ (m : ℕ). file_header_bytes m c.args.runs) c.machine_of.ensures in
    on_ok_then c.put_all-2.result
    (λ (whole : TakesAll c.as_bytes-2.result.now mid new). both_all a b c.as_bytes.result.now c.as_bytes-2.result.now old mid new is (c.as_bytes-2.ensures ∙ c.note_header.ensures) c.in_ok-put_all.ensures.whole whole)
    c.put_all-2.ensures.whole

pub returns-clause-front : goal.returns-clause-front
returns-clause-front g c =
    let a = file_header_bytes (machine_of c.args.info.now) c.args.runs in
    let b = note_header_bytes c.args.runs in
    let old = g.S.Sink.taken c.args.out.now in
    let mid = g.S.Sink.taken c.put_all.new.sink in
    let new = g.S.Sink.taken c.put_all-2.new.sink in
    let is : c.as_bytes.result.now ≡ a = c.as_bytes.ensures ∙ c.file_header.ensures ∙ ap (λ (m : ℕ). file_header_bytes m c.args.runs) c.machine_of.ensures in
    second_front a b c.as_bytes.result.now c.as_bytes-2.result.now old mid new is (c.as_bytes-2.ensures ∙ c.note_header.ensures) c.in_ok-put_all.ensures.whole c.put_all-2.ensures.front
