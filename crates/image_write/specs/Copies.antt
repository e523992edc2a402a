-- The pages of an image that have data: the copies of originals that weren't all zero, in the order of the originals.
use Rattle.std.specs.Prelude.{◌≡◌, ◌≤◌, ◌==◌, ℕ, List, length, map, filter, take, zip, not, Bool}
use Rattle.std.specs.List.{list_any}
use Rattle.definitions.specs.Tables.{frame}
use Rattle.frame_sets.specs.Places.{count_below}

-- the originals with their copy frames, except those whose page was all zero
abbrev pub has_data : List ℕ → ℕ × ℕ → Bool
has_data zeros pair = not (list_any (λ q. q == pair.0) zeros)

abbrev pub with_data : List ℕ → List ℕ → List ℕ → List (ℕ × ℕ)
with_data origs copies zeros = filter (has_data zeros) (zip origs copies)

-- the pages of the copies with data
abbrev pub data_pages : List (List ℕ) → List ℕ → List ℕ → List ℕ → List (List ℕ)
data_pages frames origs copies zeros = map (λ pair. frame frames pair.1) (with_data origs copies zeros)

-- How far the copies are read: the first `passed` pairs of an original and its copy, which are those below the numbers
-- `orig` and `copy`; `found` of them have data.
pub record IsPassed (origs copies zeros : List ℕ) (orig copy passed found : ℕ) : Type 0 where
  pub within : passed ≤ length origs
  pub origs_below : count_below origs orig ≡ passed
  pub copies_below : count_below copies copy ≡ passed
  pub counted : length (filter (has_data zeros) (take passed (zip origs copies))) ≡ found
