use Rattle.std.proofs.Common.{◌≡◌, ◌-◌, ◌≤◌, length, filter}
use Rattle.std.specs.List.{range_with_len}
use Rattle.frame_table.specs.Tests.{saveable_by_entry}
use Rattle.frame_table.proofs.reclaim.saveable_in_zone.Given as goal

abbrev pub invariant-loop-p : goal.invariant-loop-p
invariant-loop-p l =
    (l.saved ≡ length (filter (saveable_by_entry l.view.table l.view.frames.now) (range_with_len l.start (l.p - l.start))))
    × (l.saved ≤ l.p - l.start)
