use Rattle.std.proofs.Common.{◌≡◌, take, filter}
use Rattle.definitions.specs.Zones.{numbers}
use Rattle.frame_table.specs.Tests.{saveable_by_entry}
use Rattle.frame_table.proofs.view.mark_all.Given as goal

abbrev pub invariant-loop-zone : goal.invariant-loop-zone
invariant-loop-zone l = record {
  zones : l.set.zones ≡ l.view.zones.now;
  members : l.set.members ≡ filter (saveable_by_entry l.view.table l.view.frames.now) (numbers (take l.zone-index l.view.zones.now));
}
