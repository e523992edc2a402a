-- The saved pages of an image, by the pages of its stream: page 0 is the info page, and the pages of page frame numbers
-- are followed by the data pages in the same order (snapshot_read_next, kernel/power/snapshot.c). If pages of zeros are
-- skipped (this project's own format), bit 63 of a number says that the page is zeros and has no data page.
use Rattle.std.specs.Prelude.{◌≡◌, ◌≢◌, ℕ, ◌+◌, ◌/◌, ◌%◌, ◌<◌, Bool, true, nat_lt, List, if◌then◌else◌, count_by}
use Rattle.std.specs.List.{range_with_len}
use Rattle.page_core.specs.declared.format.Format.{Format}
use Rattle.page_core.specs.declared.format.Format.TheVariants.{Plain, SkipZeros}
use Rattle.definitions.specs.Bytes.{word, zero_page}
use Rattle.definitions.specs.NumberPages.{meta_of, zero_bit}
use Rattle.image_check.specs.Info.{counts_in}
use Rattle.image_check.specs.Numbers.{frame_of}
use Rattle.definitions.specs.declared.counts.TheConstants.{WORDS_PER_PAGE}

-- how many page frames were saved
abbrev pub count_in : (ℕ → List ℕ) → ℕ
count_in at = (counts_in (at 0)).image_pages

-- the word of saved page frame i, from 0, and the number in it
abbrev pub word_in : (ℕ → List ℕ) → ℕ → ℕ
word_in at i = word (at (1 + i / WORDS_PER_PAGE)) (i % WORDS_PER_PAGE)

abbrev pub number_in : Format → (ℕ → List ℕ) → ℕ → ℕ
number_in format at i = frame_of format (word_in at i)

-- whether the page of a word is a data page
abbrev pub has_page : Format → ℕ → Bool
has_page Plain w = true
has_page SkipZeros w = nat_lt w zero_bit

abbrev pub has_data : Format → (ℕ → List ℕ) → ℕ → Bool
has_data format at i = has_page format (word_in at i)

-- how many of the page frames before it have a data page
abbrev pub data_before : Format → (ℕ → List ℕ) → ℕ → ℕ
data_before format at i = count_by (has_data format at) (range_with_len 0 i)

-- the place of its data page, if it has one, and its page
abbrev pub place_in : Format → (ℕ → List ℕ) → ℕ → ℕ
place_in format at i = 1 + meta_of (count_in at) + data_before format at i

abbrev pub page_in : Format → (ℕ → List ℕ) → ℕ → List ℕ
page_in format at i = if has_data format at i then at (place_in format at i) else zero_page

-- the last page needed for its contents: its data page, or, if it has none, the page of its number
abbrev pub told_at : Format → (ℕ → List ℕ) → ℕ → ℕ
told_at format at i = if has_data format at i then place_in format at i else 1 + i / WORDS_PER_PAGE

-- a page is the saved page of a page frame
pub record IsSaved (format : Format) (at : ℕ → List ℕ) (frame : ℕ) (page : List ℕ) : Type 0 where
  pub index : ℕ
  pub inside : index < count_in at
  pub number : number_in format at index ≡ frame
  pub saved : page ≡ page_in format at index

-- a page frame wasn't saved
abbrev pub IsUnsaved : Format → (ℕ → List ℕ) → ℕ → Type 0
IsUnsaved format at frame = (i : ℕ) → i < count_in at → number_in format at i ≢ frame
