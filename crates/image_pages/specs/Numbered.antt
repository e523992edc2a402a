-- Numbers that were given of an image.
use Rattle.std.specs.Prelude.{◌≡◌, ℕ, ◌+◌, ◌/◌, ◌%◌, ◌<◌, ◌≤◌, List, ◌∷◌, length, slice_index_or, Option}
use Rattle.definitions.specs.Disk.{Content, last_count}
use Rattle.definitions.specs.NumberPages.{meta_of, word_at}
use Rattle.image_check.specs.Info.{counts_in}
use Rattle.image_check.specs.Numbers.{frame_of}
use Rattle.image_pages.specs.Stands.{Stands}
use Rattle.image_pages.specs.Ahead.{listed_data}
use Rattle.image_pages.specs.Found.{page_at}
use Rattle.image_pages.specs.declared.frames.numbers.Numbers.{Numbers}
use Rattle.definitions.specs.declared.counts.TheConstants.{WORDS_PER_PAGE}

-- Nothing is wrong so far with the image that has this header block, and these are its first numbers: those of the
-- number pages that were read.
pub record HasNumbered (content : Option Content) (blocks header : ℕ) (n : Numbers) (given : List ℕ) : Type 0 where
  pub listed : List (List ℕ)
  pub stands : Stands content blocks header n.pages (n.info ∷ listed)
  pub count : (counts_in n.info).image_pages ≡ n.count
  pub room : meta_of n.count + 1 ≤ (counts_in n.info).pages
  pub small : n.count ≤ last_count
  pub few : n.given ≤ n.count
  pub listed_size : length listed ≡ meta_of n.given
  pub newest : 0 < n.given % WORDS_PER_PAGE → n.listed ≡ page_at listed (n.given / WORDS_PER_PAGE)
  pub size : length given ≡ n.given
  pub numbers : (i : ℕ) → i < n.given → slice_index_or given i 0 ≡ frame_of n.pages.format (word_at listed i)

-- More of these numbers have a data page than the image has, which can only happen on a disk that doesn't keep what it
-- holds.
abbrev pub HasTooMany : (content : Option Content) → (blocks header : ℕ) → (n : Numbers) → (given : List ℕ) →
    HasNumbered content blocks header n given → Type 0
HasTooMany content blocks header n given h =
    (counts_in n.info).pages < listed_data n.pages.format h.listed n.given + (meta_of n.count + 1)
