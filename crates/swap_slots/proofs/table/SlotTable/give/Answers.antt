use Rattle.definitions.proofs.FreeSlots.{IsSlot}
use Rattle.swap_slots.proofs.Matching.{matches_given}
use Rattle.swap_slots.proofs.table.SlotTable.give.Goals as goal

pub returns-clause-matches : goal.returns-clause-matches
returns-clause-matches c =
    let at : IsSlot c.args.self.now.slots c.args.self.now.first c.args.frames.now c.args.slot =
    record { pages = c.set.ensures.pages; has_table = c.requires.table; within = c.requires.slot } in
    rw (c.set.ensures.entry, c.insert.ensures)
    (matches_given c.args.frames.now c.args.self.now c.args.runs.now c.args.slot c.requires.matches at)
