use Rattle.std.proofs.Common.{ℕ, ◌-◌, ◌≤◌, ◌++◌, List, length, take}
use Rattle.stream_in.specs.Taken.{AreBounded, HasTaken}
use Rattle.stream_in.proofs.checking.taking.Taking.with_piece.Given as goal

abbrev pub decreases-loop-i : goal.decreases-loop-i
decreases-loop-i l = length l.piece - l.i

abbrev pub invariant-loop-i : goal.invariant-loop-i
invariant-loop-i l = record {
  within : l.i ≤ length l.piece;
  bounded : AreBounded l.next;
  taken : (bs : List ℕ) → HasTaken bs l.fn.self → HasTaken (bs ++ take l.i l.piece) l.next;
}
