-- What is written of an image that skips pages of zeros.
use Rattle.std.specs.Prelude.{◌≡◌, ℕ, ◌+◌, ◌≤◌, ◌⊎◌, Bool, true, false, List, [], ◌∷◌, ◌++◌, length, map, Option}
use Rattle.std.specs.List.{concat}
use Rattle.page_core.specs.declared.format.Format.TheVariants.{SkipZeros}
use Rattle.definitions.specs.Disk.{Content}
use Rattle.definitions.specs.NumberPages.{meta_of}
use Rattle.definitions.specs.Streams.{TakesAll, TakesFront}
use Rattle.image_check.specs.Info.{counts_in}
use Rattle.image_check.specs.Told.{Told}
use Rattle.image_pages.specs.AreRead.{AreRead}
use Rattle.image_pages.specs.Ends.{IsRefused}
use Rattle.image_pages.specs.Stands.{Stands}
use Rattle.image_pages.specs.declared.pages.Pages.{Pages}
use Rattle.image_pages.specs.Formats.{SavesThere}
use Rattle.image_pages.specs.Found.{page_at}
use Rattle.image_pages.specs.Given.{HasGiven}
use Rattle.image_pages.specs.Numbered.{HasNumbered}
use Rattle.image_pages.specs.SavedFrames.{AreFirstSaved, SavedFrame}
use Rattle.image_pages.specs.Says.{AreAllGiven}
use Rattle.image_pages.specs.declared.frames.frames.Frames.{Frames}
use Rattle.image_pages.specs.declared.frames.numbers.Numbers.{Numbers}
use Rattle.image_stream.specs.Plain.{plain_info, plain_lists}
use Rattle.image_stream.specs.declared.streaming.Streamed.{Streamed}
use Rattle.image_stream.specs.declared.streaming.Streamed.TheVariants.{NoImage, Refused, Whole}

abbrev pub pages_of : List SavedFrame → List (List ℕ)
pages_of frames = map (λ (f : SavedFrame). f.page) frames

-- the info page, the number pages without their marks, and the pages of the page frames
abbrev pub pieces_of : List ℕ → List (List ℕ) → List SavedFrame → List (List ℕ)
pieces_of info listed frames =
    plain_info info
    ∷ (plain_lists (counts_in info).image_pages (page_at (info ∷ listed)) (length listed) ++ pages_of frames)

-- these page frames of the image with this info page were given
abbrev pub AreGiven : Option Content → (blocks header : ℕ) → List ℕ → List SavedFrame → Type 0
AreGiven content blocks header info frames =
    (f : Frames) × (HasGiven content blocks header f frames × (f.numbers.info ≡ info))

-- These pages are made from an info page and number pages that were read, and in which nothing is wrong, and from the
-- first saved page frames that were given, which come after all number pages.
pub record ArePieces (content : Option Content) (blocks header : ℕ) (pieces : List (List ℕ)) : Type 0 where
  pub info : List ℕ
  pub listed : List (List ℕ)
  pub frames : List SavedFrame
  pub saves : SavesThere SkipZeros content blocks header
  pub read : AreRead content blocks header (info ∷ listed)
  pub few : length listed ≤ meta_of (counts_in info).image_pages
  pub first : AreFirstSaved content header frames
  pub inside : length frames ≤ (counts_in info).image_pages
  pub order : (frames ≡ [])
      ⊎ ((length listed ≡ meta_of (counts_in info).image_pages) × AreGiven content blocks header info frames)
  pub made : pieces ≡ pieces_of info listed frames

-- All such pages: nothing is wrong with a whole reading of the image either.
pub record AreAllPieces (content : Option Content) (blocks header before now : ℕ)
    (pieces : List (List ℕ)) : Type 0 where
  pub info : List ℕ
  pub listed : List (List ℕ)
  pub frames : List SavedFrame
  pub saves : SavesThere SkipZeros content blocks header
  pub read : AreRead content blocks header (info ∷ listed)
  pub full : length listed ≡ meta_of (counts_in info).image_pages
  pub all : AreAllGiven content blocks header before now info frames
  pub made : pieces ≡ pieces_of info listed frames

-- only the info page was read, and it counts the given number of page frames
pub record IsAtLists (content : Option Content) (blocks header : ℕ) (p : Pages) (info : List ℕ)
    (count : ℕ) : Type 0 where
  pub stands : Stands content blocks header p (info ∷ [])
  pub counts : (counts_in info).image_pages ≡ count
  pub room : meta_of count + 1 ≤ (counts_in info).pages

-- these number pages were read, and written without their marks
pub record HasLists (content : Option Content) (blocks header : ℕ) (p : Pages) (info : List ℕ) (count k : ℕ)
    (old new : Option (List ℕ)) : Type 0 where
  pub listed : List (List ℕ)
  pub stands : Stands content blocks header p (info ∷ listed)
  pub size : length listed ≡ k
  pub taken : TakesAll (concat (plain_lists count (page_at (info ∷ listed)) k)) old new

-- some of the number pages were read, up to the first name with findings
pub record HasRefusedLists (content : Option Content) (blocks header before now : ℕ) (told then : Told) (info : List ℕ)
    (count : ℕ) (old new : Option (List ℕ)) : Type 0 where
  pub listed : List (List ℕ)
  pub few : length listed ≤ meta_of count
  pub refused : IsRefused content blocks header before now told then (info ∷ listed)
  pub taken : TakesAll (concat (plain_lists count (page_at (info ∷ listed)) (length listed))) old new

abbrev pub WritesLists : Option Content → (blocks header before now : ℕ) → (told then : Told) → List ℕ → ℕ → Pages →
    (old new : Option (List ℕ)) → Bool → Type 0
WritesLists content blocks header before now told then info count q old new true =
    (then ≡ told) × HasLists content blocks header q info count (meta_of count) old new
WritesLists content blocks header before now told then info count q old new false =
    HasRefusedLists content blocks header before now told then info count old new

-- a prefix of the number pages that were read was written
pub record IsListFront (content : Option Content) (blocks header : ℕ) (info : List ℕ) (count : ℕ)
    (old new : Option (List ℕ)) : Type 0 where
  pub listed : List (List ℕ)
  pub few : length listed ≤ meta_of count
  pub read : AreRead content blocks header (info ∷ listed)
  pub taken : TakesFront (concat (plain_lists count (page_at (info ∷ listed)) (length listed))) old new

-- the pages of the first saved page frames were written
pub record HasFrames (content : Option Content) (blocks header : ℕ) (info : List ℕ)
    (frames : List SavedFrame) : Type 0 where
  pub given : AreGiven content blocks header info frames
  pub first : AreFirstSaved content header frames
  pub inside : length frames ≤ (counts_in info).image_pages

abbrev pub WritesFrames : Option Content → (blocks header before now : ℕ) → (told then : Told) → List ℕ →
    (old new : Option (List ℕ)) → Streamed → Type 0
WritesFrames content blocks header before now told then info old new NoImage = ⊥
WritesFrames content blocks header before now told then info old new Whole =
    (then ≡ told) × ((frames : List SavedFrame) × (AreAllGiven content blocks header before now info frames
    × TakesAll (concat (pages_of frames)) old new))
WritesFrames content blocks header before now told then info old new Refused =
    (frames : List SavedFrame) × (HasFrames content blocks header info frames
    × ((pages : List (List ℕ)) × IsRefused content blocks header before now told then pages)
    × TakesAll (concat (pages_of frames)) old new)

abbrev pub IsFrameFront : Option Content → (blocks header : ℕ) → List ℕ → (old new : Option (List ℕ)) → Type 0
IsFrameFront content blocks header info old new =
    (frames : List SavedFrame) × (HasFrames content blocks header info frames
    × TakesFront (concat (pages_of frames)) old new)

-- only the info page was read, and no number was given yet
pub record IsAtRest (content : Option Content) (blocks header : ℕ) (n : Numbers) (p : Pages) : Type 0 where
  pub numbered : HasNumbered content blocks header n []
  pub stands : Stands content blocks header p (n.info ∷ [])
  pub skips : p.format ≡ SkipZeros
