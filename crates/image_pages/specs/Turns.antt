-- The number pages that are read as their numbers are given, and the end of the data pages.
use Rattle.std.specs.Prelude.{◌≡◌, ℕ, ◌+◌, ◌/◌, ◌%◌, ◌<◌, ◌≤◌, Bool, true, false, List, ◌∷◌, length, Option}
use Rattle.definitions.specs.Disk.{Content}
use Rattle.definitions.specs.NumberPages.{meta_of}
use Rattle.image_check.specs.Info.{counts_in}
use Rattle.image_check.specs.Told.{Told}
use Rattle.image_pages.specs.Chain.{IsWholeStream}
use Rattle.image_pages.specs.Ends.{IsEnded, IsRefused}
use Rattle.image_pages.specs.Stands.{Stands}
use Rattle.image_pages.specs.declared.pages.Pages.{Pages}
use Rattle.image_pages.specs.Found.{page_at}
use Rattle.image_pages.specs.declared.frames.frames.Next.{Next}
use Rattle.image_pages.specs.declared.frames.frames.Next.TheVariants.{Frame, End, Refused}
use Rattle.definitions.specs.declared.counts.TheConstants.{WORDS_PER_PAGE}

-- After `given` numbers these number pages were read, and the newest holds the number given last. There are more
-- numbers.
pub record IsAtNumber (content : Option Content) (blocks header : ℕ) (p : Pages) (info : List ℕ)
    (pages : List (List ℕ)) (given : ℕ) (page : List ℕ) : Type 0 where
  pub stands : Stands content blocks header p (info ∷ pages)
  pub size : length pages ≡ meta_of given
  pub newest : 0 < given % WORDS_PER_PAGE → page ≡ page_at pages (given / WORDS_PER_PAGE)
  pub count : given < (counts_in info).image_pages
  pub room : meta_of (counts_in info).image_pages + 1 ≤ (counts_in info).pages

-- the number page of the next number was read
pub record IsNumberRead (content : Option Content) (blocks header : ℕ) (q : Pages) (info : List ℕ)
    (pages : List (List ℕ)) (given : ℕ) (page : List ℕ) : Type 0 where
  pub all : List (List ℕ)
  pub stands : Stands content blocks header q (info ∷ all)
  pub size : length all ≡ meta_of (given + 1)
  pub newest : page ≡ page_at all (given / WORDS_PER_PAGE)
  pub same : (k : ℕ) → k < length pages → page_at all k ≡ page_at pages k

abbrev pub Turns : Option Content → (blocks header before now : ℕ) → (told then : Told) → List ℕ →
    List (List ℕ) → ℕ → Pages → List ℕ → Bool → Type 0
Turns content blocks header before now told then info pages given q page true =
    (then ≡ told) × IsNumberRead content blocks header q info pages given page
Turns content blocks header before now told then info pages given q page false =
    IsRefused content blocks header before now told then (info ∷ pages)

-- all pages that the info page counts were read
pub record IsFull (content : Option Content) (blocks header : ℕ) (p : Pages) (info : List ℕ)
    (rest : List (List ℕ)) : Type 0 where
  pub stands : Stands content blocks header p (info ∷ rest)
  pub size : length (info ∷ rest) ≡ (counts_in info).pages

abbrev pub Ends : Option Content → (blocks header before now : ℕ) → (told then : Told) → List (List ℕ) → Next → Type 0
Ends content blocks header before now told then pages (Frame number) = ⊥
Ends content blocks header before now told then pages End =
    (then ≡ told) × IsEnded content blocks header before now pages × IsWholeStream content header pages
Ends content blocks header before now told then pages Refused =
    IsRefused content blocks header before now told then pages
