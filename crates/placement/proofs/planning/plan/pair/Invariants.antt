use Rattle.std.proofs.Common.{◌≡◌, ◌≤◌, ◌+◌, ◌++◌, length, take, drop, vec_len, vec_capacity}
use Rattle.std.specs.List.{zip}
use Rattle.frame_sets.specs.Left.{left_in}
use Rattle.placement.specs.Walk.{HasPassed, unreserved}
use Rattle.placement.proofs.planning.plan.pair.Given as goal

abbrev pub invariant-loop-original : goal.invariant-loop-original
invariant-loop-original l = record {
  sources : HasPassed (unreserved l.origs.members l.free.members l.bounce) l.from (l.skip + length l.yielded);
  targets : l.yielded ++ left_in l.original-iterator ≡ l.origs.members;
  moves : l.moves.items ≡ zip (take (length l.yielded) (drop l.skip (unreserved l.origs.members l.free.members l.bounce))) (take (length l.yielded) l.origs.members);
  len : vec_len l.moves ≡ length l.yielded;
  room : vec_capacity l.fn.moves ≤ vec_capacity l.moves;
}
