use Rattle.std.proofs.Common.{◌≡◌, ℕ, length, Contains}
use Rattle.definitions.specs.Tables.{frame}
use Rattle.placement.specs.Joining.{LiesBelow}
use Rattle.placement.proofs.Writing.{Written}
use Rattle.placement.proofs.relocation.runs.write_runs.Given as goal

abbrev pub invariant-loop-next : goal.invariant-loop-next
invariant-loop-next l = record {
  written : Written l.frames l.list l.bounce l.moves l.run l.next-index;
  below : LiesBelow 65536 l.run;
  list : l.list.frames ≡ l.fn.list.frames;
  others : (p : ℕ) → (Contains l.fn.list.frames p → ⊥) → frame l.frames p ≡ frame l.fn.frames p;
  size : length l.frames ≡ length l.fn.frames;
}
