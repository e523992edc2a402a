use Rattle.std.proofs.Common.{◌≡◌, ◌-◌, ◌≤◌, length, filter}
use Rattle.std.specs.List.{range_with_len}
use Rattle.frame_table.specs.Tests.{free_by_entry}
use Rattle.frame_table.proofs.view.free_in_zone.Given as goal

abbrev pub invariant-loop-p : goal.invariant-loop-p
invariant-loop-p l =
    (l.free ≡ length (filter (free_by_entry l.view.table l.view.frames.now) (range_with_len l.start (l.p - l.start))))
    × (l.free ≤ l.p - l.start)
