-- The next result of the numbers of an image, with whether the number has a data page.
use Rattle.std.specs.Prelude.{◌≡◌, ℕ, ◌<◌, Bool, List, Option}
use Rattle.definitions.specs.Disk.{Content}
use Rattle.definitions.specs.NumberPages.{word_at}
use Rattle.image_check.specs.Told.{Told}
use Rattle.image_pages.specs.Ends.{IsRefused}
use Rattle.image_pages.specs.Saved.{has_page}
use Rattle.image_pages.specs.Numbered.{HasNumbered}
use Rattle.image_pages.specs.SaysNumber.{AreAllNumbered, IsNextNumber}
use Rattle.image_pages.specs.declared.frames.numbers.NextWord.{NextWord}
use Rattle.image_pages.specs.declared.frames.numbers.NextWord.TheVariants.{Frame, End, Refused}
use Rattle.image_pages.specs.declared.frames.numbers.Numbers.{Numbers}

-- The next number is given, from the word after those before.
pub record IsNextWord (content : Option Content) (blocks header : ℕ) (given : List ℕ) (n : Numbers)
    (h : HasNumbered content blocks header n given) (q : Numbers) (number : ℕ) (has_data : Bool) : Type 0 where
  pub next : IsNextNumber content blocks header given q number
  pub format : q.pages.format ≡ n.pages.format
  pub kept : (i : ℕ) → i < n.given → word_at next.stands.listed i ≡ word_at h.listed i
  pub has : has_data ≡ has_page q.pages.format (word_at next.stands.listed n.given)

abbrev pub SaysWord : (content : Option Content) → (blocks header before now : ℕ) → (told then : Told) →
    (given : List ℕ) → (n : Numbers) → HasNumbered content blocks header n given → Numbers → NextWord → Type 0
SaysWord content blocks header before now told then given n h q (Frame number has_data) =
    (then ≡ told) × IsNextWord content blocks header given n h q number has_data
SaysWord content blocks header before now told then given n h q End =
    (then ≡ told) × AreAllNumbered content blocks header given q
SaysWord content blocks header before now told then given n h q Refused =
    (pages : List (List ℕ)) × IsRefused content blocks header before now told then pages
