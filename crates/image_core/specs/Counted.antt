-- What a first reading of an image has counted.
use Rattle.std.specs.Prelude.{◌≡◌, ℕ, ◌<◌, List, length, Option}
use Rattle.definitions.specs.Disk.{Content}
use Rattle.definitions.specs.FreeRuns.{runs_of}
use Rattle.image_check.specs.Info.{counts_in}
use Rattle.image_pages.specs.SavedNumbers.{AreAllNumbers}
use Rattle.image_pages.specs.declared.frames.numbers.Numbers.{Numbers}
use Rattle.image_core.specs.declared.counting.Tally.{Tally}

-- the given number of numbers will be given, by the info page
abbrev pub WillGive : Numbers → ℕ → Type 0
WillGive numbers frames = (counts_in numbers.info).image_pages ≡ frames

-- the image has `frames` page frames in all, in `runs` runs
pub record HasCounted (content : Option Content) (header frames runs : ℕ) : Type 0 where
  pub numbers : List ℕ
  pub all : AreAllNumbers content header numbers
  pub size : length numbers ≡ frames
  pub count : runs ≡ length (runs_of numbers)

pub record HasTallied (content : Option Content) (header : ℕ) (tally : Tally) : Type 0 where
  pub counted : HasCounted content header tally.frames tally.runs
  pub few : tally.frames < 4294967295
