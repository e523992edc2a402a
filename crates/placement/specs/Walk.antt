-- A walk over an ascending list of page frames, from each to the next.
use Rattle.std.specs.Prelude.{◌≤◌, ◌<◌, ℕ, ◌==◌, ◌||◌, List, length, filter, nat_lt, slice_index}
use Rattle.std.specs.List.{list_any}

-- The walk has passed the first k numbers: those are below p, and the others aren't.
pub record HasPassed (numbers : List ℕ) (p k : ℕ) : Type 0 where
  pub below : (j : ℕ) → j < k → slice_index numbers j < p
  pub above : (j : ℕ) → k ≤ j → j < length numbers → p ≤ slice_index numbers j

-- The free page frames that aren't reserved: those above the bounce frame, which is the highest reserved one, and the
-- originals.
unfoldable pub unreserved : List ℕ → List ℕ → ℕ → List ℕ
unreserved origs free bounce = filter (λ p. nat_lt bounce p || list_any (λ q. p == q) origs) free
