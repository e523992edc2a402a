use Rattle.std.proofs.Common.{◌≡◌, ◌∙◌, ℕ, ap}
use Rattle.elf_core.specs.Elf.{file_header_bytes, note_header_bytes}
use Rattle.dump_core.specs.Cores.{machine_of}
use Rattle.dump_core.proofs.Pieces.{second_front}
use Rattle.dump_core.proofs.heads.put_front.Goals as goal

pub returns-clause-front : goal.returns-clause-front
returns-clause-front g c =
    let a = file_header_bytes (machine_of c.args.ident.now) c.args.runs in
    let b = note_header_bytes c.args.runs in
    let old = g.K.Sink.taken c.args.out.now in
    let mid = g.K.Sink.taken c.put_all.new.sink in
    let new = g.K.Sink.taken c.put_all-2.new.sink in
    let is : c.as_bytes.result.now ≡ a = c.as_bytes.ensures ∙ c.file_header.ensures ∙ ap (λ (m : ℕ). file_header_bytes m c.args.runs) c.machine_of.ensures in
    second_front a b c.as_bytes.result.now c.as_bytes-2.result.now old mid new is (c.as_bytes-2.ensures ∙ c.note_header.ensures) c.in_ok-put_all.ensures.whole c.put_all-2.ensures.front
