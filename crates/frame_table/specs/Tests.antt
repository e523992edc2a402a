-- The tests of a page frame by its entry in the frame table, as used in the lists of saveable and of free page frames.
use Rattle.std.specs.Prelude.{ℕ, ◌==◌, Bool, List}
use Rattle.definitions.specs.Tables.{entry_at, page_flags, is_saveable}

abbrev pub saveable_by_entry : ℕ → List (List ℕ) → ℕ → Bool
saveable_by_entry table frames p = is_saveable (page_flags (entry_at frames table p))

abbrev pub free_by_entry : ℕ → List (List ℕ) → ℕ → Bool
free_by_entry table frames p = entry_at frames table p == 1
