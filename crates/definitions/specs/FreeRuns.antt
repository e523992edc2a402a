-- The free slots of a table, in runs.
use Rattle.std.specs.Prelude.{ℕ, ◌+◌, ◌-◌, ◌==◌, List, [], ◌∷◌, if◌then◌else◌}
use Rattle.definitions.specs.Tables.{free_slots}

-- A number put in front of runs: it joins the first run if that run begins right after it.
abbrev pub in_front : ℕ → List (ℕ × ℕ) → List (ℕ × ℕ)
in_front s [] = (s, 1) ∷ []
in_front s (run ∷ runs) = if run.0 == s + 1 then (s, run.1 + 1) ∷ runs else ((s, 1) ∷ run ∷ runs)

-- the maximal runs of an ascending list of numbers, a pair (first, count) each
unfoldable pub runs_of : List ℕ → List (ℕ × ℕ)
runs_of [] = []
runs_of (s ∷ slots) = in_front s (runs_of slots)

-- the maximal runs of free slots
abbrev pub free_runs : ℕ → ℕ → List (List ℕ) → List (ℕ × ℕ)
free_runs slots table frames = runs_of (free_slots slots table frames)
