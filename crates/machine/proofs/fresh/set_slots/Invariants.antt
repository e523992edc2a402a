use Rattle.std.proofs.Common.{◌≡◌}
use Rattle.std.specs.List.{range_with_len}
use Rattle.plain_machine.specs.FreshMemory.{with_each_entry}
use Rattle.machine.specs.FreshSlots.{slot_of_area}
use Rattle.machine.proofs.fresh.set_slots.Given as goal

abbrev pub invariant-loop-slot : goal.invariant-loop-slot
invariant-loop-slot l = l.frames ≡ with_each_entry (slot_of_area l.area) (range_with_len 0 l.slot) l.hw.slot_table l.fn.frames
