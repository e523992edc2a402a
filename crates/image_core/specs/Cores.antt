-- The core file of an image, by the pages of its stream.
use Rattle.std.specs.Prelude.{◌≡◌, ℕ, ◌≤◌, List, length, map, Option, None, IfSome, ⊤}
use Rattle.page_core.specs.declared.format.Format.{Format}
use Rattle.definitions.specs.Disk.{Content, HasRisen, as_it_reads}
use Rattle.definitions.specs.FreeRuns.{runs_of}
use Rattle.definitions.specs.Streams.{TakesAll, TakesFront}
use Rattle.image_check.specs.Told.{Told}
use Rattle.image_pages.specs.Chain.{IsChainPage, IsWholeStream, chain_page}
use Rattle.image_pages.specs.Formats.{chain_format}
use Rattle.image_pages.specs.Ends.{IsEnded}
use Rattle.image_pages.specs.Opens.{IsBad, IsNoImage}
use Rattle.image_pages.specs.Saved.{count_in}
use Rattle.image_pages.specs.SavedFrames.{AreAllSaved, SavedFrame, saved_frames}
use Rattle.image_pages.specs.SavedNumbers.{AreAllNumbers}
use Rattle.elf_core.specs.Elf.{core_bytes}
use Rattle.image_core.specs.Identity.{identity_of, machine_of}
use Rattle.image_core.specs.declared.stop.Stop.{Stop}
use Rattle.image_core.specs.declared.stop.Stop.TheVariants.{NoImage, Refused, TooMany, Changed, Sink}
use Rattle.image_core.specs.declared.stop.Stop.TheVariants.{Memory}

abbrev pub numbers_in : List SavedFrame → List ℕ
numbers_in frames = map (λ (f : SavedFrame). f.number) frames

abbrev pub pages_of : List SavedFrame → List (List ℕ)
pages_of frames = map (λ (f : SavedFrame). f.page) frames

-- the core file of page frames, of the machine that an info page names
abbrev pub core_of_frames : List ℕ → List SavedFrame → List ℕ
core_of_frames info frames = core_bytes (machine_of info) (identity_of info) (numbers_in frames) (pages_of frames)

-- the core file of an image, by its format and the pages of its stream, the first of which is the info page
abbrev pub core_of : Format → (ℕ → List ℕ) → List ℕ
core_of format at = core_of_frames (at 0) (saved_frames format at)

-- The core file was written from what was read: from the info page, the numbers, and the page frames that were read
-- last, up to their end. Nothing is wrong with a whole reading of the image. If the disk tells what it holds, this is
-- the core file of the image that the chain names.
pub record IsWritten (content : Option Content) (blocks header before now : ℕ)
    (old new : Option (List ℕ)) : Type 0 where
  pub info : List ℕ
  pub numbers : List ℕ
  pub frames : List SavedFrame
  pub taken : TakesAll (core_bytes (machine_of info) (identity_of info) numbers (pages_of frames)) old new
  pub first : IsChainPage content header 0 info
  pub numbered : AreAllNumbers content header numbers
  pub saved : AreAllSaved content header frames
  pub same : length frames ≡ length numbers
  pub pages : List (List ℕ)
  pub ended : IsEnded content blocks header before now pages
  pub whole : IsWholeStream content header pages
  pub core : IfSome content (λ held.
      TakesAll (core_of (chain_format (as_it_reads held) header) (chain_page (as_it_reads held) header)) old new)

-- a prefix of the core file was written, if the disk tells what it holds
abbrev pub IsFront : Option Content → ℕ → (old new : Option (List ℕ)) → Type 0
IsFront content header old new =
    IfSome content (λ held.
    TakesFront (core_of (chain_format (as_it_reads held) header) (chain_page (as_it_reads held) header)) old new)

-- the info page counts at least 2^32 - 1 page frames
abbrev pub HasTooMany : Option Content → ℕ → Type 0
HasTooMany content header =
    (info : List ℕ) × IsChainPage content header 0 info × (4294967295 ≤ count_in (λ k. info))

-- Why writing stopped, if the sink had `first` faults before and has `last` faults now. Only on a disk that doesn't
-- tell what it holds can the image be another one when it is read again.
abbrev pub IsStopped : Option Content → (blocks header before now : ℕ) → (told then : Told) → (first last : ℕ) →
    Stop → Type 0
IsStopped content blocks header before now told then first last NoImage = IsNoImage content blocks header told then
IsStopped content blocks header before now told then first last Refused =
    IsBad content blocks header before now told then
IsStopped content blocks header before now told then first last TooMany = HasTooMany content header × (then ≡ told)
IsStopped content blocks header before now told then first last Changed = (content ≡ None) × (then ≡ told)
IsStopped content blocks header before now told then first last Sink = HasRisen first last × (then ≡ told)
IsStopped content blocks header before now told then first last Memory = then ≡ told

-- nothing was written if writing stopped before the image was open
abbrev pub IsUnwritten : (old new : Option (List ℕ)) → Stop → Type 0
IsUnwritten old new NoImage = new ≡ old
IsUnwritten old new TooMany = new ≡ old
IsUnwritten old new Memory = new ≡ old
IsUnwritten old new Refused = ⊤
IsUnwritten old new Changed = ⊤
IsUnwritten old new Sink = ⊤
