-- Page frames that were given of an image.
use Rattle.std.specs.Prelude.{◌≡◌, ℕ, ◌+◌, ◌<◌, List, [], ◌∷◌, ◌++◌, length, map, slice_index_or, Option, if◌then◌else◌}
use Rattle.page_core.specs.declared.format.Format.{Format}
use Rattle.definitions.specs.Bytes.{zero_page}
use Rattle.definitions.specs.Disk.{Content}
use Rattle.definitions.specs.NumberPages.{meta_of, word_at}
use Rattle.image_check.specs.Info.{counts_in}
use Rattle.image_pages.specs.Stands.{Stands}
use Rattle.image_pages.specs.Ahead.{listed_data}
use Rattle.image_pages.specs.Found.{page_at}
use Rattle.image_pages.specs.Saved.{has_page}
use Rattle.image_pages.specs.Numbered.{HasNumbered}
use Rattle.image_pages.specs.SavedFrames.{SavedFrame}
use Rattle.image_pages.specs.declared.frames.frames.Frames.{Frames}
use Rattle.image_pages.specs.declared.frames.numbers.Numbers.{Numbers}
use Rattle.image_pages.specs.declared.pages.Pages.{Pages}

abbrev pub frame_of : ℕ → List ℕ → SavedFrame
frame_of number page = record { number = number; page = page }

abbrev pub frame_at : List SavedFrame → ℕ → SavedFrame
frame_at given i = slice_index_or given i (frame_of 0 [])

abbrev pub numbers_of : List SavedFrame → List ℕ
numbers_of given = map (λ (g : SavedFrame). g.number) given

-- the page of word i of these number pages, given the data pages
abbrev pub data_page : Format → (listed saved : List (List ℕ)) → ℕ → List ℕ
data_page format listed saved i =
    if has_page format (word_at listed i) then page_at saved (listed_data format listed i) else zero_page

-- Nothing is wrong so far with the image that has this header block, and these are its first saved page frames: their
-- numbers were given, and their pages are the data pages that were read, or zeros. `f.left` data pages are left.
pub record HasGiven (content : Option Content) (blocks header : ℕ) (f : Frames) (given : List SavedFrame) : Type 0 where
  pub numbered : HasNumbered content blocks header f.numbers (numbers_of given)
  pub passed : List (List ℕ)
  pub saved : List (List ℕ)
  pub pages : Stands content blocks header f.pages (f.numbers.info ∷ (passed ++ saved))
  pub passed_size : length passed ≡ meta_of f.numbers.count
  pub saved_size : length saved ≡ listed_data f.numbers.pages.format numbered.listed f.numbers.given
  pub left : (counts_in f.numbers.info).pages ≡ f.left + (length saved + (meta_of f.numbers.count + 1))
  pub frames : (i : ℕ) → i < f.numbers.given →
      (frame_at given i).page ≡ data_page f.numbers.pages.format numbered.listed saved i

-- No number was given yet, and all number pages were read by the other reader.
pub record HasPassed (content : Option Content) (blocks header : ℕ) (n : Numbers) (p : Pages) : Type 0 where
  pub numbered : HasNumbered content blocks header n []
  pub passed : List (List ℕ)
  pub stands : Stands content blocks header p (n.info ∷ passed)
  pub size : length passed ≡ meta_of n.count
