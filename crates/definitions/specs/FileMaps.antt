-- The file map of a swap file: where on the device the runs of its slots lie.
use Rattle.std.specs.Prelude.{◌≡◌, ◌⊎◌, ◌≤◌, ◌<◌, ℕ, ◌+◌, ◌-◌, List, length}
use Rattle.definitions.specs.Slots.{extent_at, slots_before, slots_of}

-- the two extents share no block
abbrev pub LieApart : ℕ × ℕ × ℕ → ℕ × ℕ × ℕ → Type 0
LieApart e f = (e.2 + e.1 ≤ f.2) ⊎ (f.2 + f.1 ≤ e.2)

-- Extent i begins at slot 0 or where the extent before it ends, isn't empty, ends at a block number that fits 32 bits,
-- and shares no block with an earlier extent. It begins at block 0 only if it begins at slot 0: for any other slot that
-- number means "no block".
pub record IsInOrder (extents : List (ℕ × ℕ × ℕ)) (i : ℕ) : Type 0 where
  pub start : (extent_at extents i).0 ≡ slots_before extents i
  pub some : 1 ≤ (extent_at extents i).1
  pub fits : (extent_at extents i).2 + (extent_at extents i).1 ≤ 4294967295
  pub apart : (j : ℕ) → j < i → LieApart (extent_at extents j) (extent_at extents i)
  pub header : (extent_at extents i).2 ≡ 0 → (extent_at extents i).0 ≡ 0

-- 1 to 64 extents
pub record AreFew (extents : List (ℕ × ℕ × ℕ)) : Type 0 where
  pub some : 1 ≤ length extents
  pub few : length extents ≤ 64

-- the extents of a swap area of `slots` slots
pub record IsFileMap (extents : List (ℕ × ℕ × ℕ)) (slots : ℕ) : Type 0 where
  pub count : AreFew extents
  pub each : (i : ℕ) → i < length extents → IsInOrder extents i
  pub covers : slots_of extents ≡ slots

-- Why a list of extents is refused: it has none or more than 64 (index 0); or the extent at this index is the first
-- that isn't in order; or all are in order but don't cover exactly the slots (the index after the last).
abbrev pub IsExtentFault : List (ℕ × ℕ × ℕ) → ℕ → ℕ → Type 0
IsExtentFault extents slots at =
    (((length extents ≡ 0) ⊎ (64 < length extents)) × (at ≡ 0))
    ⊎ (AreFew extents × (at < length extents) × ((i : ℕ) → i < at → IsInOrder extents i) × (IsInOrder extents at → ⊥))
    ⊎ (AreFew extents × (at ≡ length extents) × ((i : ℕ) → i < at → IsInOrder extents i)
    × (slots_of extents ≡ slots → ⊥))
