-- The next result of the saved page frames of an image.
use Rattle.std.specs.Prelude.{◌≡◌, ℕ, ◌<◌, ◌^◌, List, [], ◌∷◌, ◌++◌, length, drop, All, Option}
use Rattle.page_core.specs.declared.format.Format.{Format}
use Rattle.definitions.specs.Disk.{Content}
use Rattle.image_check.specs.Told.{Told}
use Rattle.image_pages.specs.AreRead.{AreRead}
use Rattle.image_pages.specs.Chain.{IsWholeStream}
use Rattle.image_pages.specs.Ends.{IsEnded, IsRefused}
use Rattle.image_pages.specs.Formats.{SavesThere}
use Rattle.image_pages.specs.Found.{page_at}
use Rattle.image_pages.specs.Saved.{count_in}
use Rattle.image_pages.specs.Given.{HasGiven, frame_at, frame_of}
use Rattle.image_pages.specs.SavedFrames.{SavedFrame, AreAllSaved, AreFirstSaved, saved_at}
use Rattle.image_pages.specs.declared.frames.frames.Frames.{Frames}
use Rattle.image_pages.specs.declared.frames.frames.Next.{Next}
use Rattle.image_pages.specs.declared.frames.frames.Next.TheVariants.{Frame, End, Refused}

-- The next saved page frame is given: its number is above those before it, and its address has at most 64 bits.
pub record IsNextFrame (content : Option Content) (blocks header : ℕ) (given : List SavedFrame) (q : Frames)
    (f : SavedFrame) : Type 0 where
  pub stands : HasGiven content blocks header q (given ++ f ∷ [])
  pub above : All (λ (g : SavedFrame). g.number < f.number) given
  pub small : f.number < 2 ^ 52
  pub first : AreFirstSaved content header (given ++ f ∷ [])

-- All saved page frames were given, and nothing is wrong with a whole reading of the image, in which these pages were
-- read. The numbers are those of number pages that were read a second time.
pub record AreAllGiven (content : Option Content) (blocks header before now : ℕ) (info : List ℕ)
    (given : List SavedFrame) : Type 0 where
  pub pages : List (List ℕ)
  pub ended : IsEnded content blocks header before now pages
  pub whole : IsWholeStream content header pages
  pub first_page : page_at pages 0 ≡ info
  pub count : length given ≡ count_in (page_at pages)
  pub format : Format
  pub saves : SavesThere format content blocks header
  pub listed : List (List ℕ)
  pub read : AreRead content blocks header (info ∷ listed)
  pub saved : (i : ℕ) → i < length given →
      frame_at given i ≡ saved_at format (page_at ((info ∷ listed) ++ drop (length (info ∷ listed)) pages)) i
  pub all : AreAllSaved content header given

abbrev pub Says : Option Content → (blocks header before now : ℕ) → (told then : Told) → List SavedFrame →
    Frames → List ℕ → Next → Type 0
Says content blocks header before now told then given q page (Frame number) =
    (then ≡ told) × IsNextFrame content blocks header given q (frame_of number page)
Says content blocks header before now told then given q page End =
    (then ≡ told) × AreAllGiven content blocks header before now q.numbers.info given
Says content blocks header before now told then given q page Refused =
    (pages : List (List ℕ)) × IsRefused content blocks header before now told then pages
