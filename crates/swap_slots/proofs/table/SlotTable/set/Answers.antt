use Rattle.std.proofs.Common.{◌∙◌, ap, ap₂}
use Rattle.definitions.specs.Bytes.{with_number}
use Rattle.definitions.specs.Tables.{with_entry, with_frame, frame}
use Rattle.swap_slots.proofs.table.SlotTable.set.Goals as goal

pub returns-clause-entry : goal.returns-clause-entry
unfolding with_entry
returns-clause-entry c =
    let frames = c.args.frames.now in
    c.put_u32.ensures
    ∙ ap₂ (λ p at. with_frame frames p (with_number 4 (frame frames p) at c.word.result)) c.place-p.ensures.frame c.place-p.ensures.offset
    ∙ ap (with_entry frames c.args.self.now.first c.args.slot) c.word.ensures
