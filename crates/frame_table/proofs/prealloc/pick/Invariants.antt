use Rattle.std.proofs.Common.{◌≡◌, ℕ, ◌-◌, List, length, take, filter}
use Rattle.definitions.specs.Zones.{numbers}
use Rattle.frame_table.specs.Tests.{free_by_entry}
use Rattle.frame_table.proofs.prealloc.pick.Given as goal

abbrev pub invariant-loop-zone : goal.invariant-loop-zone
invariant-loop-zone l =
    let free : List ℕ = filter (free_by_entry l.view.table l.view.frames.now) (numbers (take l.zone-index l.view.zones.now)) in
    record {
      zones : l.set.zones ≡ l.view.zones.now;
      members : l.set.members ≡ take l.n free;
      left : l.left ≡ l.n - length free;
    }
