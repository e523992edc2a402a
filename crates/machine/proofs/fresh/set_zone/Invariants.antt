use Rattle.std.proofs.Common.{◌≡◌, ◌-◌}
use Rattle.std.specs.List.{range_with_len}
use Rattle.plain_machine.specs.FreshMemory.{with_each_entry, fresh_entry}
use Rattle.machine.proofs.fresh.set_zone.Given as goal

abbrev pub invariant-loop-p : goal.invariant-loop-p
invariant-loop-p l = l.frames ≡ with_each_entry (fresh_entry l.hw) (range_with_len l.start (l.p - l.start)) l.hw.frame_table l.fn.frames
