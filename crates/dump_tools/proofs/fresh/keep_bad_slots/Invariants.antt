use Rattle.std.proofs.Common.{◌≡◌}
use Rattle.std.specs.List.{range_with_len}
use Rattle.plain_machine.specs.FreshMemory.{with_each_entry}
use Rattle.dump_tools.specs.KeptSlots.{kept_slot}
use Rattle.dump_tools.proofs.fresh.keep_bad_slots.Given as goal

abbrev pub invariant-loop-slot : goal.invariant-loop-slot
invariant-loop-slot l = l.frames ≡ with_each_entry (kept_slot l.hw l.before) (range_with_len 0 l.slot) l.hw.slot_table l.fn.frames
