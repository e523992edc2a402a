-- What a contract sees of a machine's free slots.
use Rattle.std.specs.Prelude.{◌≡◌, ◌≤◌, ℕ, ◌+◌, ◌∷◌, List, filter, nat_le}
use Rattle.definitions.specs.FreeRuns.{runs_of}

-- the number of slots that it was created for, and the maximal runs of free slots, ascending, as pairs (first, count)
pub record SlotRuns : Type 0 where
  pub room : ℕ
  pub runs : List (ℕ × ℕ)

-- the slots that are at least p
unfoldable pub from_slot : ℕ → List ℕ → List ℕ
from_slot p slots = filter (λ s. nat_le p s) slots

-- the first run of the slots from p on; the other runs lie after it
pub record IsFirstRun (slots : List ℕ) (p room : ℕ) (run : ℕ × ℕ) : Type 0 where
  pub within : run.0 + run.1 ≤ room
  pub splits : runs_of (from_slot p slots) ≡ run ∷ runs_of (from_slot (run.0 + run.1) slots)
