-- The next result of the numbers of an image.
use Rattle.std.specs.Prelude.{◌≡◌, ℕ, ◌<◌, ◌^◌, List, [], ◌∷◌, ◌++◌, length, All, Option}
use Rattle.definitions.specs.Disk.{Content}
use Rattle.image_check.specs.Info.{counts_in}
use Rattle.image_check.specs.Told.{Told}
use Rattle.image_pages.specs.Ends.{IsRefused}
use Rattle.image_pages.specs.Numbered.{HasNumbered}
use Rattle.image_pages.specs.SavedNumbers.{AreAllNumbers, AreFirstNumbers}
use Rattle.image_pages.specs.declared.frames.numbers.NextNumber.{NextNumber}
use Rattle.image_pages.specs.declared.frames.numbers.NextNumber.TheVariants.{Frame, End, Refused}
use Rattle.image_pages.specs.declared.frames.numbers.Numbers.{Numbers}

-- The next number is given: it is above those before it, and the address of its page frame has at most 64 bits.
pub record IsNextNumber (content : Option Content) (blocks header : ℕ) (given : List ℕ) (q : Numbers)
    (number : ℕ) : Type 0 where
  pub stands : HasNumbered content blocks header q (given ++ number ∷ [])
  pub above : All (λ (g : ℕ). g < number) given
  pub small : number < 2 ^ 52
  pub first : AreFirstNumbers content header (given ++ number ∷ [])

-- All numbers were given, as many as this info page says.
pub record AreAllNumbered (content : Option Content) (blocks header : ℕ) (given : List ℕ) (q : Numbers) : Type 0 where
  pub stands : HasNumbered content blocks header q given
  pub count : length given ≡ (counts_in q.info).image_pages
  pub all : AreAllNumbers content header given

abbrev pub SaysNumber : Option Content → (blocks header before now : ℕ) → (told then : Told) → List ℕ → Numbers →
    NextNumber → Type 0
SaysNumber content blocks header before now told then given q (Frame number) =
    (then ≡ told) × IsNextNumber content blocks header given q number
SaysNumber content blocks header before now told then given q End =
    (then ≡ told) × AreAllNumbered content blocks header given q
SaysNumber content blocks header before now told then given q Refused =
    (pages : List (List ℕ)) × IsRefused content blocks header before now told then pages
