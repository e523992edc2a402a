use Rattle.std.proofs.Common.{◌≡◌, length, drop}
use Rattle.frame_sets.specs.Left.{left_in}
use Rattle.snapshot.proofs.Progress.{IsProgress}
use Rattle.snapshot.proofs.atomic_copy.copy_all.Given as goal

abbrev pub invariant-loop-original : goal.invariant-loop-original
invariant-loop-original l = record {
  sources : left_in l.original-iterator.a ≡ drop (length l.yielded) l.origs.members;
  targets : left_in l.original-iterator.b ≡ drop (length l.yielded) l.copies.members;
  progress : IsProgress l.origs.members l.copies.members l.initial.frames l.frames (length l.yielded);
}
