use Rattle.std.proofs.Common.{◌≡◌, ◌<◌, ℕ, List, length}
use Rattle.std.specs.List.{Contains}
use Rattle.definitions.specs.Bytes.{filled_page}
use Rattle.definitions.specs.Tables.{frame}
use Rattle.resume_core.proofs.begin.fill_apart.Given as goal

-- the page frames before p that aren't in the set are filled
pub record IsFilledTo (members : List ℕ) (old now : List (List ℕ)) (p : ℕ) : Type 0 where
  pub filled : (q : ℕ) → q < p → (Contains members q → ⊥) → frame now q ≡ filled_page 165
  pub size : length now ≡ length old

abbrev pub invariant-loop-p : goal.invariant-loop-p
invariant-loop-p l = IsFilledTo l.set.members l.fn.frames l.frames l.p
