use Rattle.std.proofs.Common.{◌≡◌, ◌+◌}
use Rattle.frame_sets.specs.Places.{count_below}
use Rattle.frame_sets.proofs.Walk.{IsPassed}
use Rattle.frame_sets.proofs.packing.packing.behind.Given as goal

abbrev pub invariant-loop-w : goal.invariant-loop-w
invariant-loop-w l = IsPassed l.set l.w l.from × (count_below l.set.members l.from + l.left ≡ l.count)
