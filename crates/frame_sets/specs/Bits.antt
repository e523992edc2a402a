-- The bits of a block: 512 words of 64 bits, bit k being bit k mod 64 of word k / 64.
use Rattle.std.specs.Prelude.{◌≡◌, ℕ, ◌/◌, ◌%◌, ◌-◌, ◌<◌, ◌≤◌, ◌↔◌, List, [], slice_index, slice_index_or}
use Rattle.std.specs.Int.{bit_at}
use Rattle.definitions.specs.Zones.{zone_at}
use Rattle.definitions.specs.ZoneFacts.{InZone}

-- the block of p among blocks with these page frames, and the place of its bit there
pub record IsPlace (runs : List (ℕ × ℕ)) (p : ℕ) (place : ℕ × ℕ) : Type 0 where
  pub at : InZone runs p place.0
  pub bit : place.1 ≡ p - (zone_at runs place.0).0

-- bit k of a block, 0 or 1
abbrev pub bit_of : List ℕ → ℕ → ℕ
bit_of words k = bit_at (slice_index words (k / 64)) (k % 64)

-- no bit from `from` up to `to` is 1
abbrev pub AllClear : List ℕ → ℕ → ℕ → Type 0
AllClear words from to = (i : ℕ) → from ≤ i → i < to → bit_of words i ≡ 0

-- bit k is the first from `from` on that is 1
pub record IsFirstBit (words : List ℕ) (from k : ℕ) : Type 0 where
  pub at_or_after : from ≤ k
  pub within : k < 32768
  pub set : bit_of words k ≡ 1
  pub before : AllClear words from k

-- bit k is now v, and the others are as before
pub record ChangesBit (k v : ℕ) (old new : List ℕ) : Type 0 where
  pub this : bit_of new k ≡ v
  pub others : (i : ℕ) → (i ≡ k → ⊥) → bit_of new i ≡ bit_of old i

-- every bit is 0
abbrev pub IsEmptyBlock : List ℕ → Type 0
IsEmptyBlock words = (k : ℕ) → bit_of words k ≡ 0

-- bit k is 1 if and only if k is below the count
abbrev pub HasFirstBits : ℕ → List ℕ → Type 0
HasFirstBits count words = (k : ℕ) → (bit_of words k ≡ 1) ↔ (k < count)

-- in each block exactly the bits of its page frames are 1
abbrev pub AreFilled : List (ℕ × ℕ) → List (List ℕ) → Type 0
AreFilled runs bits = (j : ℕ) → HasFirstBits (zone_at runs j).1 (slice_index_or bits j [])
