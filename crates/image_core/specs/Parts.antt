-- The parts of an image's core file that are written one after another.
use Rattle.std.specs.Prelude.{◌≡◌, ℕ, List, length, Option}
use Rattle.std.specs.List.{concat}
use Rattle.page_core.specs.declared.format.Format.{Format}
use Rattle.definitions.specs.Disk.{Content}
use Rattle.definitions.specs.FreeRuns.{runs_of}
use Rattle.definitions.specs.Streams.{TakesAll}
use Rattle.elf_core.specs.Elf.{loads_bytes, page_offset}
use Rattle.image_pages.specs.Chain.{IsWholeStream}
use Rattle.image_pages.specs.Ends.{IsEnded}
use Rattle.image_pages.specs.SavedFrames.{AreAllSaved, SavedFrame}
use Rattle.image_pages.specs.SavedNumbers.{AreAllNumbers, saved_numbers}
use Rattle.image_core.specs.Cores.{pages_of}
use Rattle.image_core.specs.declared.counting.Tally.{Tally}

-- the program headers of the runs of ascending page frames
abbrev pub loads_over : List ℕ → List ℕ
loads_over numbers = loads_bytes (page_offset (length (runs_of numbers))) (runs_of numbers)

-- the program headers of the page frames that an image saves, by the pages of its stream
abbrev pub loads_of : Format → (ℕ → List ℕ) → List ℕ
loads_of format at = loads_over (saved_numbers format at)

-- the program headers of all page frames were written, as many as were counted
pub record HasLoads (content : Option Content) (header : ℕ) (tally : Tally) (old new : Option (List ℕ)) : Type 0 where
  pub numbers : List ℕ
  pub taken : TakesAll (loads_over numbers) old new
  pub runs : length (runs_of numbers) ≡ tally.runs
  pub size : length numbers ≡ tally.frames
  pub all : AreAllNumbers content header numbers

-- the pages of all page frames were written, as many as were counted, and nothing is wrong with a whole reading of the
-- image
pub record HasPages (content : Option Content) (blocks header before now : ℕ) (tally : Tally)
    (old new : Option (List ℕ)) : Type 0 where
  pub frames : List SavedFrame
  pub taken : TakesAll (concat (pages_of frames)) old new
  pub size : length frames ≡ tally.frames
  pub all : AreAllSaved content header frames
  pub pages : List (List ℕ)
  pub ended : IsEnded content blocks header before now pages
  pub whole : IsWholeStream content header pages
