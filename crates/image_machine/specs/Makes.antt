-- What is made of an image.
use Rattle.std.specs.Prelude.{◌≡◌, ℕ, List, Option, Contains}
use Rattle.definitions.specs.Disk.{Content}
use Rattle.definitions.specs.Zones.{numbers}
use Rattle.image_check.specs.Told.{Told}
use Rattle.image_pages.specs.SavedFrames.{AreAllSaved, AreFirstSaved, SavedFrame}
use Rattle.image_pages.specs.SavedNumbers.{AreAllNumbers, AreFirstNumbers}
use Rattle.image_pages.specs.Opens.{IsBad, IsNoImage}
use Rattle.image_machine.specs.Layouts.{zones_of}
use Rattle.image_machine.specs.Limits.{PassesAtLast, PassesAtOnce}
use Rattle.image_machine.specs.Loaders.{IsLoaderFor}
use Rattle.image_machine.specs.Machines.{IsMachineFor, PassesWith, numbers_of}
use Rattle.image_machine.specs.declared.heading.Heading.{Heading}
use Rattle.image_machine.specs.declared.heading.Layout.{Layout}
use Rattle.image_machine.specs.declared.limit.Limit.{Limit}
use Rattle.image_machine.specs.declared.limit.Limit.TheVariants as limit
use Rattle.machine.specs.declared.dump.Dump.{Dump as MachineDump}
use Rattle.image_machine.specs.Headings.{HasNoArea, IsHeadingOf}
use Rattle.image_machine.specs.Lays.{pages_of}
use Rattle.image_machine.specs.declared.dump.made.Made.{Made}
use Rattle.image_machine.specs.declared.dump.made.Made.TheVariants.{NoImage, Refused, NoArea, Limit as Passed, Dump}

-- A machine is made from the heading of an area, and from page frames that are read by the chain of a header block. An
-- image that isn't compressed has both in its area. For a compressed one, the page frames are those of the plain image
-- that it expands to, on a disk of its own.

-- The image has no machine of this layout, because this limit is violated: whatever page frames were saved, by the last
-- of the first numbers, or by all of them.
pub data HasLimit (area content : Option Content) (header : ℕ) (layout : Layout) (passed : Limit) : Type 0 where
  at_once : (heading : Heading) → IsHeadingOf area layout.offset heading → PassesAtOnce heading layout passed →
      HasLimit area content header layout passed
  outside : (heading : Heading) (given : List ℕ) (number : ℕ) → IsHeadingOf area layout.offset heading →
      AreFirstNumbers content header given → Contains given number →
      (Contains (numbers (zones_of heading layout)) number → ⊥) → passed ≡ limit.Outside number →
      HasLimit area content header layout passed
  at_last : (heading : Heading) (saved : List ℕ) → IsHeadingOf area layout.offset heading →
      AreAllNumbers content header saved → PassesAtLast heading layout saved passed →
      HasLimit area content header layout passed

-- the dump is that of a loader for the image
pub record IsLoaderFrom (area content : Option Content) (header : ℕ) (layout : Layout)
    (dump : MachineDump) : Type 0 where
  pub heading : Heading
  pub saved : List ℕ
  pub headed : IsHeadingOf area layout.offset heading
  pub read : AreAllNumbers content header saved
  pub loader : IsLoaderFor heading layout saved dump.hw dump.frames

-- the same, of an image that isn't compressed
abbrev pub IsLoaderOf : Option Content → Layout → MachineDump → Type 0
IsLoaderOf content layout dump = IsLoaderFrom content content layout.offset layout dump

-- What was made, if these are the limits and dumps of an image. Findings are those of the header block that is read.
abbrev pub MakesBy : (no_area : Type 0) → (Limit → Type 0) → (MachineDump → Type 0) → Option Content →
    (blocks header before now : ℕ) → (told then : Told) → Made → Type 0
MakesBy no_area limits dumps content blocks header before now told then NoImage =
    IsNoImage content blocks header told then
MakesBy no_area limits dumps content blocks header before now told then Refused =
    IsBad content blocks header before now told then
MakesBy no_area limits dumps content blocks header before now told then NoArea = no_area × (then ≡ told)
MakesBy no_area limits dumps content blocks header before now told then (Passed limit) = (then ≡ told) × limits limit
MakesBy no_area limits dumps content blocks header before now told then (Dump dump) = (then ≡ told) × dumps dump

abbrev pub MakesFrom : (area content : Option Content) → (blocks header before now : ℕ) → (told then : Told) → Layout →
    Made → Type 0
MakesFrom area content blocks header before now told then layout made =
    MakesBy (HasNoArea area layout.offset) (HasLimit area content header layout)
    (IsLoaderFrom area content header layout) content blocks header before now told then made

abbrev pub Makes : Option Content → (blocks before now : ℕ) → (told then : Told) → Layout → Made → Type 0
Makes content blocks before now told then layout made =
    MakesFrom content content blocks layout.offset before now told then layout made

-- The machine that the image saved isn't one of this layout, with or without tables from these page frames on, because
-- this limit is violated: whatever page frames were saved, by the last of the first ones, or by all of them.
pub data HasMachineLimit (area content : Option Content) (header : ℕ) (layout : Layout) (tables : Option (ℕ × ℕ))
    (passed : Limit) : Type 0 where
  passed_at_once : (heading : Heading) → IsHeadingOf area layout.offset heading →
      PassesAtOnce heading layout passed →
      HasMachineLimit area content header layout tables passed
  lies_outside : (heading : Heading) (given : List SavedFrame) (number : ℕ) →
      IsHeadingOf area layout.offset heading → AreFirstSaved content header given →
      Contains (numbers_of (pages_of given)) number →
      (Contains (numbers (zones_of heading layout)) number → ⊥) → passed ≡ limit.Outside number →
      HasMachineLimit area content header layout tables passed
  passed_at_last : (heading : Heading) (saved : List SavedFrame) → IsHeadingOf area layout.offset heading →
      AreAllSaved content header saved → PassesWith heading layout tables (pages_of saved) passed →
      HasMachineLimit area content header layout tables passed

-- The dump is that of the machine which the image saved: its page frames in use are those that the chain names, each
-- with its page.
pub record IsMachineFrom (area content : Option Content) (header : ℕ) (layout : Layout) (tables : Option (ℕ × ℕ))
    (dump : MachineDump) : Type 0 where
  pub heading : Heading
  pub saved : List SavedFrame
  pub headed : IsHeadingOf area layout.offset heading
  pub read : AreAllSaved content header saved
  pub machine : IsMachineFor heading layout tables (pages_of saved) dump.hw dump.frames

abbrev pub IsMachineOf : Option Content → Layout → Option (ℕ × ℕ) → MachineDump → Type 0
IsMachineOf content layout tables dump = IsMachineFrom content content layout.offset layout tables dump

abbrev pub MakesMachineFrom : (area content : Option Content) → (blocks header before now : ℕ) → (told then : Told) →
    Layout → Option (ℕ × ℕ) → Made → Type 0
MakesMachineFrom area content blocks header before now told then layout tables made =
    MakesBy (HasNoArea area layout.offset) (HasMachineLimit area content header layout tables)
    (IsMachineFrom area content header layout tables) content blocks header before now told then made

abbrev pub MakesMachine : Option Content → (blocks before now : ℕ) → (told then : Told) → Layout → Option (ℕ × ℕ) →
    Made → Type 0
MakesMachine content blocks before now told then layout tables made =
    MakesMachineFrom content content blocks layout.offset before now told then layout tables made
