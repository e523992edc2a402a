use Rattle.std.proofs.Common.{◌≡◌, ℕ, ◌-◌, ◌++◌, List, length, take, filter}
use Rattle.std.specs.List.{range_with_len}
use Rattle.frame_table.specs.Tests.{free_by_entry}
use Rattle.frame_table.proofs.prealloc.pick_in_zone.Given as goal

abbrev pub invariant-loop-p : goal.invariant-loop-p
invariant-loop-p l =
    let free : List ℕ = filter (free_by_entry l.view.table l.view.frames.now) (range_with_len l.start (l.p - l.start)) in
    record {
      zones : l.set.zones ≡ l.fn.set.zones;
      members : l.set.members ≡ l.fn.set.members ++ take l.most free;
      left : l.left ≡ l.most - length free;
    }
