-- The atomic copy (copy_data_pages, kernel/power/snapshot.c): each original is copied into the copy frame at the same
-- index.
use Rattle.std.specs.Prelude.{◌≡◌, ℕ, ◌<◌, List, length, slice_index, Contains}
use Rattle.definitions.specs.Tables.{frame}

-- The k-th copy has what the k-th original had, and every other page frame is as before.
pub record AreCopied (origs copies : List ℕ) (old new : List (List ℕ)) : Type 0 where
  pub size : length new ≡ length old
  pub copied : (k : ℕ) → k < length copies → frame new (slice_index copies k) ≡ frame old (slice_index origs k)
  pub others : (p : ℕ) → (Contains copies p → ⊥) → frame new p ≡ frame old p

-- no page frame is in both sets
abbrev pub AreDisjoint : List ℕ → List ℕ → Type 0
AreDisjoint xs ys = (p : ℕ) → Contains xs p → Contains ys p → ⊥
