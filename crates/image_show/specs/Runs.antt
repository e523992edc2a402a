-- The runs of a list of numbers, as far as they are known.
use Rattle.std.specs.Prelude.{◌≡◌, ℕ, ◌+◌, List, [], ◌∷◌, ◌++◌, Option, Some, None}
use Rattle.definitions.specs.FreeRuns.{runs_of}

abbrev pub list_of : {A : Type 0} → Option A → List A
list_of None = []
list_of (Some x) = x ∷ []

-- how many numbers a run has, and the number after its last one
abbrev pub count_of : Option (ℕ × ℕ) → ℕ
count_of None = 0
count_of (Some run) = run.1

abbrev pub end_of : Option (ℕ × ℕ) → ℕ
end_of None = 0
end_of (Some run) = run.0 + run.1

-- These are the runs of the numbers: those that have ended, and the last one, which may go on. Without any number there
-- is no last run.
pub record IsUpTo (numbers : List ℕ) (last : Option (ℕ × ℕ)) (ended : List (ℕ × ℕ)) : Type 0 where
  pub runs : runs_of numbers ≡ ended ++ list_of last
  pub begun : last ≡ None → ended ≡ []
