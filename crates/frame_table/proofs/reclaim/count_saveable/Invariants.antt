use Rattle.std.proofs.Common.{◌≡◌, length, take, filter}
use Rattle.definitions.specs.Zones.{numbers}
use Rattle.frame_table.specs.Tests.{saveable_by_entry}
use Rattle.frame_table.proofs.reclaim.count_saveable.Given as goal

abbrev pub invariant-loop-zone : goal.invariant-loop-zone
invariant-loop-zone l = l.count ≡ length (filter (saveable_by_entry l.table l.frames) (numbers (take l.zone-index l.zones)))
