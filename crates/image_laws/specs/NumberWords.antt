-- What the words of the number pages say, and what a marked number says.
use Rattle.std.specs.Prelude.{◌≡◌, ◌↔◌, ℕ, Bool, IsTrue, EachIndex, ◌*◌, ◌<◌, ◌≤◌, List, length, slice_index, Contains}
use Rattle.definitions.specs.NumberPages.{meta_of, number_pages, marked_numbers, number_of_word, word_at, end_value}
use Rattle.definitions.specs.NumberPages.{zero_bit}
use Rattle.definitions.specs.SwapMap.{map_page, map_entry, map_link}
use Rattle.definitions.specs.declared.counts.TheConstants.{MAP_PAGE_ENTRIES, WORDS_PER_PAGE}

-- the words of the number pages: the numbers, then the end value if they don't fill the last page, then zeros
pub record HaveWords (numbers : List ℕ) : Type 0 where
  pub each : (j : ℕ) → j < length numbers → word_at (number_pages numbers) j ≡ slice_index numbers j
  pub ends : length numbers < WORDS_PER_PAGE * meta_of (length numbers) →
      word_at (number_pages numbers) (length numbers) ≡ end_value
  pub rest : (j : ℕ) → length numbers < j → j < WORDS_PER_PAGE * meta_of (length numbers) →
      word_at (number_pages numbers) j ≡ 0

-- A marked number says its page frame, and by bit 63 whether that is one of `zeros`.
pub record AreTold (frames zeros : List ℕ) : Type 0 where
  pub size : length (marked_numbers frames zeros) ≡ length frames
  pub number : (j : ℕ) → j < length frames →
      number_of_word (slice_index (marked_numbers frames zeros) j) ≡ slice_index frames j
  pub mark : (j : ℕ) → j < length frames →
      (zero_bit ≤ slice_index (marked_numbers frames zeros) j) ↔ Contains zeros (slice_index frames j)

-- What a word says wherever it is a marked number: its page frame, and whether that is one of `zeros`.
abbrev pub Tells : ℕ → ℕ → Bool → Type 0
Tells word number marked =
    (frames zeros : List ℕ) (j : ℕ) → EachIndex frames (λ k. slice_index frames k < zero_bit) → j < length frames →
    slice_index (marked_numbers frames zeros) j ≡ word → (number ≡ slice_index frames j)
    × (IsTrue marked ↔ Contains zeros (slice_index frames j))

-- A map page says its entries, then zeros, and its link.
pub record HasEntries (entries : List ℕ) (link : ℕ) : Type 0 where
  pub each : (k : ℕ) → k < length entries → map_entry (map_page entries link) k ≡ slice_index entries k
  pub rest : (k : ℕ) → length entries ≤ k → k < MAP_PAGE_ENTRIES → map_entry (map_page entries link) k ≡ 0
  pub next : map_link (map_page entries link) ≡ link
