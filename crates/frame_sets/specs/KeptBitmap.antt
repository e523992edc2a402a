-- How a set of page frames is kept: for each block its page frames and its bits.
use Rattle.std.specs.Prelude.{◌≡◌, ◌==◌, ℕ, ◌-◌, ◌<◌, Bool, List, [], length, filter, nat_lt, slice_index_or}
use Rattle.std.specs.List.{position_or_len}
use Rattle.definitions.specs.Zones.{numbers, zone_end, zone_at}
use Rattle.definitions.specs.ZoneFacts.{AreZones}
use Rattle.definitions.specs.FrameSets.{blocks}
use Rattle.frame_sets.specs.Bits.{bit_of}
use Rattle.frame_sets.specs.FrameSet.{FrameSet}
use Rattle.frame_sets.specs.declared.bitmap.Bitmap.TheInside.{Inside}

-- the block that has the bit of p: the first that ends above it
abbrev pub block_of : List (ℕ × ℕ) → ℕ → ℕ
block_of runs p = position_or_len (λ run. nat_lt p (zone_end run)) runs

abbrev pub bits_at : List (List ℕ) → ℕ → List ℕ
bits_at bits b = slice_index_or bits b []

-- the bit of p is 1
abbrev pub has_number : List (ℕ × ℕ) → List (List ℕ) → ℕ → Bool
has_number runs bits p = bit_of (bits_at bits (block_of runs p)) (p - (zone_at runs (block_of runs p)).0) == 1

-- the page frames whose bit is 1
unfoldable pub members_of : List (ℕ × ℕ) → List (List ℕ) → List ℕ
members_of runs bits = filter (has_number runs bits) (numbers runs)

abbrev pub kept_set : Inside → FrameSet
kept_set b = record { zones = b.zones; members = members_of b.runs.items b.bits.items }

pub record IsKept (b : Inside) : Type 0 where
  pub zones : AreZones b.zones
  pub runs : b.runs.items ≡ blocks b.zones
  pub bits : length b.bits.items ≡ length b.runs.items
  -- bits past a block's last page frame are 0
  pub past : (j k : ℕ) → bit_of (bits_at b.bits.items j) k ≡ 1 → k < (zone_at b.runs.items j).1
  pub len : b.len ≡ length (members_of b.runs.items b.bits.items)
