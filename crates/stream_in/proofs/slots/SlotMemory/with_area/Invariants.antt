use Rattle.std.proofs.Common.{◌≡◌, ◌∷◌, length, take}
use Rattle.definitions.specs.Tables.{with_entries}
use Rattle.stream_in.proofs.slots.SlotMemory.with_area.Given as goal

abbrev pub invariant-loop-slot : goal.invariant-loop-slot
invariant-loop-slot l = record {
  set : l.frames ≡ with_entries l.fn.self.frames 0 (0 ∷ take l.slot-index l.slot-items) 131072;
  size : length l.frames ≡ length l.fn.self.frames;
}
