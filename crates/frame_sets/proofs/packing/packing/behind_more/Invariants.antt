use Rattle.std.proofs.Common.{◌≡◌, ◌+◌, drop}
use Rattle.frame_sets.specs.Left.{left_in}
use Rattle.frame_sets.specs.Places.{count_below}
use Rattle.frame_sets.proofs.packing.packing.behind_more.Given as goal

abbrev pub invariant-loop : goal.invariant-loop
invariant-loop l = record {
  left : left_in l.members ≡ drop (count_below l.set.members l.from + l.counter) l.set.members;
  past : count_below l.set.members l.past ≡ count_below l.set.members l.from + l.counter;
}
