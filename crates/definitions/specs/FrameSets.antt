-- Sets of page frames, as ascending lists of their numbers, and as bits in blocks of 4096 bytes (struct memory_bitmap,
-- kernel/power/snapshot.c).
use Rattle.std.specs.Prelude.{ℕ, ◌+◌, ◌-◌, ◌*◌, ◌/◌, ◌%◌, ◌<◌, ◌↔◌, ◌==◌, List, ◌∷◌, ◌++◌, map, filter, min, not}
use Rattle.std.specs.Prelude.{nat_lt, slice_index, Contains, IsBitSet}
use Rattle.std.specs.List.{range_with_len, flat_map}

-- the set with p added
unfoldable pub inserted : List ℕ → ℕ → List ℕ
inserted members p = filter (λ q. nat_lt q p) members ++ p ∷ filter (λ q. nat_lt p q) members

-- the set without p
unfoldable pub removed : List ℕ → ℕ → List ℕ
removed members p = filter (λ q. not (q == p)) members

-- Block j of a zone, as a pair (first number, count). It has a bit for each of 32768 page frames of the zone
-- (BM_BITS_PER_BLOCK); the last block has a bit for each page frame that is left.
abbrev pub zone_block : ℕ × ℕ → ℕ → ℕ × ℕ
zone_block zone j = (zone.0 + 32768 * j, min 32768 (zone.1 - 32768 * j))

-- the blocks of a zone, as many as its page frames need
unfoldable pub zone_blocks : ℕ × ℕ → List (ℕ × ℕ)
zone_blocks zone = map (zone_block zone) (range_with_len 0 ((zone.1 + 32767) / 32768))

-- the blocks of all zones, in order
unfoldable pub blocks : List (ℕ × ℕ) → List (ℕ × ℕ)
blocks zones = flat_map zone_blocks zones

-- bit k of a block's 64-bit words is 1
abbrev pub IsBlockBitSet : List ℕ → ℕ → Type 0
IsBlockBitSet words k = IsBitSet (slice_index words (k / 64)) (k % 64)

-- The words of a block: a bit is 1 if and only if its page frame is in the set. Bits past the block's last page frame
-- are 0.
abbrev pub HoldsBits : List ℕ → ℕ × ℕ → List ℕ → Type 0
HoldsBits members block words =
    (k : ℕ) → k < 32768 → IsBlockBitSet words k ↔ ((k < block.1) × Contains members (block.0 + k))
