use Rattle.std.proofs.Common.{◌≡◌, length}
use Rattle.definitions.specs.Tables.{image_slots}
use Rattle.definitions.specs.Tables.{with_entries}
use Rattle.swap_slots.specs.Table.{Matches}
use Rattle.swap_slots.proofs.table.SlotTable.give_image.Given as goal

-- the slots of the image below `slot` are free
abbrev pub invariant-loop-slot : goal.invariant-loop-slot
invariant-loop-slot l = record {
  given : l.frames ≡ with_entries l.initial.frames l.self.first (image_slots l.slot l.self.first l.initial.frames) 0;
  matches : Matches l.frames l.self l.runs;
  room : l.runs.room ≡ l.initial.runs.room;
  len : length l.frames ≡ length l.initial.frames;
}
