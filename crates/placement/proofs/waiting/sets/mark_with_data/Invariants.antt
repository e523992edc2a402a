use Rattle.std.proofs.Common.{◌≡◌, ◌++◌}
use Rattle.frame_sets.specs.Left.{left_in}
use Rattle.placement.specs.Waiting.{with_data}
use Rattle.placement.proofs.waiting.sets.mark_with_data.Given as goal

abbrev pub invariant-loop-p : goal.invariant-loop-p
invariant-loop-p l = record {
  zones : l.set.zones ≡ l.fn.set.zones;
  members : l.set.members ≡ with_data l.origs.members l.yielded;
  left : l.yielded ++ left_in l.p-iterator ≡ l.zeros.members;
}
