use Rattle.std.proofs.Common.{◌≡◌}
use Rattle.std.specs.List.{range_with_len}
use Rattle.plain_machine.specs.FreshMemory.{with_each_entry}
use Rattle.image_machine.specs.Machines.{entry_with}
use Rattle.image_machine.proofs.in_use.set_in_use.Given as goal

abbrev pub invariant-loop-p : goal.invariant-loop-p
invariant-loop-p l = l.frames ≡ with_each_entry (entry_with l.hw l.saved.members) (range_with_len 0 l.p) l.hw.frame_table l.initial.frames
