use Rattle.std.proofs.Common.{◌∙◌, ap, arith}
use Rattle.std.specs.List.{slice_get}
use Rattle.definitions.proofs.FreeSlots.{IsSlot}
use Rattle.swap_slots.specs.Entries.{word_of}
use Rattle.swap_slots.proofs.Matching.{free_numbers, first_within, matches_taken}
use Rattle.swap_slots.proofs.table.SlotTable.take.Goals as goal

pub returns-in_err-slot-clause-least : goal.returns-in_err-slot-clause-least
returns-in_err-slot-clause-least c =
    c.from_residual.ensures ∙ c.in_err-slot.ensures
    ∙ ap (λ xs. slice_get xs 0) (free_numbers c.args.frames.now c.args.self.now c.args.runs.now c.requires.matches)

pub set-requires-clause-slot : goal.set-requires-clause-slot
set-requires-clause-slot c =
    first_within c.args.frames.now c.args.self.now c.args.runs.now c.in_ok-slot.slot c.requires.matches c.in_ok-slot.ensures

pub remove-requires : goal.remove-requires
remove-requires c =
    let within = first_within c.args.frames.now c.args.self.now c.args.runs.now c.in_ok-slot.slot c.requires.matches c.in_ok-slot.ensures in
    omega (arith, c.requires.matches.room)

pub returns-clause-least : goal.returns-clause-least
returns-clause-least c =
    c.in_ok-slot.ensures ∙ ap (λ xs. slice_get xs 0) (free_numbers c.args.frames.now c.args.self.now c.args.runs.now c.requires.matches)

pub returns-clause-matches : goal.returns-clause-matches
returns-clause-matches c =
    let slot = c.in_ok-slot.slot in
    let at : IsSlot c.args.self.now.slots c.args.self.now.first c.args.frames.now slot = record {
      pages = c.set.ensures.pages;
      has_table = c.requires.table;
      within = first_within c.args.frames.now c.args.self.now c.args.runs.now slot c.requires.matches c.in_ok-slot.ensures;
    } in
    rw (c.set.ensures.entry, c.remove.ensures)
    (matches_taken c.args.frames.now c.args.self.now c.args.runs.now slot (word_of c.args.owner) c.requires.matches at c.requires.owner)
