-- Bits of 64-bit words: bit k is bit k mod 64 of word k / 64.
use Rattle.std.specs.Prelude.{◌≡◌, ℕ, ◌*◌, ◌/◌, ◌%◌, ◌<◌, ◌≤◌, List, length, slice_index}
use Rattle.std.specs.Int.{bit_at}

-- bit k, 0 or 1
abbrev pub bit_of : List ℕ → ℕ → ℕ
bit_of words k = bit_at (slice_index words (k / 64)) (k % 64)

-- no bit from `from` up to `to` is 1
abbrev pub AllClear : List ℕ → ℕ → ℕ → Type 0
AllClear words from to = (i : ℕ) → from ≤ i → i < to → bit_of words i ≡ 0

-- no bit of word w is 1
abbrev pub IsClearWord : List ℕ → ℕ → Type 0
IsClearWord words w = (i : ℕ) → i / 64 ≡ w → bit_of words i ≡ 0

-- bit k is the first from `from` on that is 1
pub record IsFirstBit (words : List ℕ) (from k : ℕ) : Type 0 where
  pub at_or_after : from ≤ k
  pub within : k < 64 * length words
  pub set : bit_of words k ≡ 1
  pub before : AllClear words from k

-- bit k is now v, and the others are as before
pub record ChangesBit (k v : ℕ) (old new : List ℕ) : Type 0 where
  pub this : bit_of new k ≡ v
  pub others : (i : ℕ) → (i ≡ k → ⊥) → bit_of new i ≡ bit_of old i
