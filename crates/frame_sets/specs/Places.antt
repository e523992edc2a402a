-- Places of members in a set of page frames, and their numbers in an image.
use Rattle.std.specs.Prelude.{◌≡◌, ◌≤◌, ◌<◌, ℕ, ◌+◌, ◌-◌, ◌*◌, ◌/◌, ◌%◌, ◌^◌, ◌==◌, Contains, List, [], length, filter}
use Rattle.std.specs.Prelude.{nat_lt, Option, Some, None, if◌then◌else◌}
use Rattle.std.specs.List.{list_any}
use Rattle.std.specs.Int.{bit_at}
use Rattle.definitions.specs.FrameSets.{blocks}
use Rattle.definitions.specs.Zones.{zone_at}
use Rattle.definitions.specs.ZoneFacts.{InZone}
use Rattle.definitions.specs.NumberPages.{zero_bit}
use Rattle.frame_sets.specs.FrameSet.{FrameSet}
use Rattle.definitions.specs.declared.counts.TheConstants.{WORDS_PER_PAGE}

-- how many members lie below a number
unfoldable pub count_below : List ℕ → ℕ → ℕ
count_below members p = length (filter (λ q. nat_lt q p) members)

-- the page frames of a set; none if there is no set
abbrev pub members_in : Option FrameSet → List ℕ
members_in None = []
members_in (Some set) = set.members

-- the number of a page frame in an image: bit 63 is set if its page was all zero
abbrev pub marked_number : List ℕ → ℕ → ℕ
marked_number zeros p = if list_any (λ q. q == p) zeros then p + zero_bit else p

-- the bits of a word that are 1 lie within `width` places from bit `low` on, the first and the last of which are 1
pub record IsSpan (word low width : ℕ) : Type 0 where
  pub some : 0 < width
  pub within : low + width ≤ 64
  pub first : bit_at word low ≡ 1
  pub last : bit_at word (low + width - 1) ≡ 1
  pub below : (t : ℕ) → t < low → bit_at word t ≡ 0
  pub above : (t : ℕ) → low + width ≤ t → bit_at word t ≡ 0

-- the blocks of a set, and the first number of one
abbrev pub runs : FrameSet → List (ℕ × ℕ)
runs set = blocks set.zones

abbrev pub start : FrameSet → ℕ → ℕ
start set b = (zone_at (runs set) b).0

-- the index of the word with a number's bit; the words of all blocks are numbered in order
abbrev pub word_of : FrameSet → ℕ → ℕ → ℕ
word_of set q b = WORDS_PER_PAGE * b + (q - start set b) / 64

-- The value of word w: its bits are the members that it stands for.
pub record IsWord (set : FrameSet) (w word : ℕ) : Type 0 where
  pub within : w / WORDS_PER_PAGE < length (runs set)
  pub fits : word < 2 ^ 64
  pub bit : (q b : ℕ) → Contains set.members q → InZone (runs set) q b → word_of set q b ≡ w →
      bit_at word ((q - start set b) % 64) ≡ 1
  pub member : (t : ℕ) → t < 64 → bit_at word t ≡ 1 →
      InZone (runs set) (start set (w / WORDS_PER_PAGE) + 64 * (w % WORDS_PER_PAGE) + t) (w / WORDS_PER_PAGE)
      × Contains set.members (start set (w / WORDS_PER_PAGE) + 64 * (w % WORDS_PER_PAGE) + t)
