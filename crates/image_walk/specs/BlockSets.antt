-- A set of blocks as words of 64 bits: block b is bit b mod 64 of word b / 64.
use Rattle.std.specs.Prelude.{◌≡◌, ℕ, ◌/◌, ◌%◌, Bool, ◌==◌, ◌||◌, List, slice_index}
use Rattle.std.specs.Int.{bit_at}

abbrev pub has_block : List ℕ → ℕ → Bool
has_block words b = bit_at (slice_index words (b / 64)) (b % 64) == 1

-- exactly this block is added
abbrev pub AddsBlock : ℕ → List ℕ → List ℕ → Type 0
AddsBlock block old new = (b : ℕ) → has_block new b ≡ ((b == block) || has_block old b)
