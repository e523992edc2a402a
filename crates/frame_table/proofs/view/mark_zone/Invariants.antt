use Rattle.std.proofs.Common.{◌≡◌, ◌-◌, ◌++◌, filter}
use Rattle.std.specs.List.{range_with_len}
use Rattle.frame_table.specs.Tests.{saveable_by_entry}
use Rattle.frame_table.proofs.view.mark_zone.Given as goal

abbrev pub invariant-loop-p : goal.invariant-loop-p
invariant-loop-p l = record {
  zones : l.set.zones ≡ l.fn.set.zones;
  members : l.set.members ≡ l.fn.set.members ++ filter (saveable_by_entry l.view.table l.view.frames.now) (range_with_len l.start (l.p - l.start));
}
