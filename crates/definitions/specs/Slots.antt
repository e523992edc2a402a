-- Slots of a swap area, and the blocks of the device that they lie on.
use Rattle.std.specs.Prelude.{ℕ, zero, suc, ◌+◌, ◌-◌, List, [], ◌∷◌, length, slice_index_or, nat_lt, if◌then◌else◌}

-- The block of slot s. An extent is (start page, length, start block), in ascending order (struct swap_extent,
-- include/linux/swap.h). A slot lies in the last extent that doesn't start above it; slots past the last extent
-- continue it.
abbrev pub block_of : List (ℕ × ℕ × ℕ) → ℕ → ℕ
block_of [] s = s
block_of (e ∷ []) s = e.2 + (s - e.0)
block_of (e ∷ next ∷ extents) s = if nat_lt s next.0 then e.2 + (s - e.0) else block_of (next ∷ extents) s

-- Extents of a swap area, each (start page, length, start block).

-- extent i, from 0
abbrev pub extent_at : List (ℕ × ℕ × ℕ) → ℕ → ℕ × ℕ × ℕ
extent_at extents i = slice_index_or extents i (0, 0, 0)

-- the slot after an extent
abbrev pub extent_end : ℕ × ℕ × ℕ → ℕ
extent_end e = e.0 + e.1

-- the number of slots that the first i extents cover, if each begins where the one before ends
abbrev pub slots_before : List (ℕ × ℕ × ℕ) → ℕ → ℕ
slots_before extents zero = 0
slots_before extents (suc i) = extent_end (extent_at extents i)

-- the number of slots of a file map
abbrev pub slots_of : List (ℕ × ℕ × ℕ) → ℕ
slots_of extents = slots_before extents (length extents)
