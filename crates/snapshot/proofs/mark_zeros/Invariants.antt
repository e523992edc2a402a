use Rattle.std.proofs.Common.{◌≡◌, ◌++◌, filter}
use Rattle.frame_sets.specs.Left.{left_in}
use Rattle.snapshot.specs.Taken.{is_zero_frame}
use Rattle.snapshot.proofs.mark_zeros.Given as goal

abbrev pub invariant-loop-p : goal.invariant-loop-p
invariant-loop-p l = record {
  zones : l.zeros.zones ≡ l.fn.zeros.zones;
  members : l.zeros.members ≡ filter (is_zero_frame l.frames) l.yielded;
  left : l.yielded ++ left_in l.p-iterator ≡ l.origs.members;
}
