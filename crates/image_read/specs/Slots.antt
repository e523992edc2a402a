-- Blocks of slots.
use Rattle.std.specs.Prelude.{◌≡◌, ℕ, ◌≤◌, List}
use Rattle.definitions.specs.Slots.{block_of}

-- a slot from 1 to the last lies on this block
abbrev pub HasSlotOn : List (ℕ × ℕ × ℕ) → ℕ → ℕ → Type 0
HasSlotOn extents last block = (s : ℕ) × (1 ≤ s) × (s ≤ last) × (block_of extents s ≡ block)
