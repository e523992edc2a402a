use Rattle.std.proofs.Common.{◌≡◌, length, take, filter}
use Rattle.definitions.specs.Zones.{numbers}
use Rattle.frame_table.specs.Tests.{free_by_entry}
use Rattle.frame_table.proofs.view.count_free.Given as goal

abbrev pub invariant-loop-zone : goal.invariant-loop-zone
invariant-loop-zone l = l.count ≡ length (filter (free_by_entry l.view.table l.view.frames.now) (numbers (take l.zone-index l.view.zones.now)))
