use Rattle.std.proofs.Common.{◌≡◌, ◌++◌}
use Rattle.frame_sets.specs.Left.{left_in}
use Rattle.placement.proofs.Clearing.{IsCleared}
use Rattle.placement.proofs.waiting.sets.zero_apart.Given as goal

abbrev pub invariant-loop-p : goal.invariant-loop-p
invariant-loop-p l = record {
  cleared : IsCleared l.set.members l.kept.members l.yielded l.fn.frames l.frames;
  left : l.yielded ++ left_in l.p-iterator ≡ l.set.members;
}
