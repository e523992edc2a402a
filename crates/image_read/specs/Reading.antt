-- How far an image is read.
use Rattle.std.specs.Prelude.{◌≡◌, ◌≤◌, ◌<◌, ◌-◌, ℕ, List, length, Option, None}
use Rattle.page_core.specs.declared.format.Format.{Format}
use Rattle.definitions.specs.declared.info.Info.{Info}
use Rattle.frame_sets.specs.Unpacked.{Unpacked, IsUpTo}
use Rattle.image_format.specs.MapPages.{NumberedPage}
use Rattle.plain_machine.specs.Trace.{place_count}

-- The slots on the blocks of the disk (extents, the last slot, the number of blocks), the format, the number of blocks
-- read, the block to read next, the map that the entries are taken from, the numbers of pages of the stream and of
-- saved page frames (1 and 0 until the info page gives them), the number pages, n once all numbers are accepted, and a
-- page frame below which no page is still to come.
pub record Reading : Type 0 where
  pub extents : List (ℕ × ℕ × ℕ)
  pub last : ℕ
  pub blocks : ℕ
  pub format : Format
  pub steps : ℕ
  pub block : ℕ
  pub map : NumberedPage
  pub pages : ℕ
  pub saved : ℕ
  pub numbers : Unpacked
  pub listed : Option ℕ
  pub frame : ℕ

-- every block that is known of was read
abbrev pub HasReadAll : Reading → Type 0
HasReadAll r = r.steps ≡ place_count r.pages

-- how many more blocks may be read at most: the longest chain, of 65,536 saved pages, has 65,794
abbrev pub places_left : Reading → ℕ
places_left r = 65794 - r.steps

-- What holds between two steps, of the reader and of the page frames that are listed so far: the next block is one of
-- the disk, the page frames are the numbers that were read, and more numbers are wanted until all are accepted.
pub record IsReady (r : Reading) (origs zeros : List ℕ) : Type 0 where
  pub saved : r.saved ≤ 65536
  pub within : r.steps ≤ place_count r.pages
  pub block : r.block < r.blocks
  pub numbers : r.numbers.n ≡ r.saved
  pub count : length origs ≡ r.numbers.read
  pub wanted : 2 ≤ r.steps → r.listed ≡ None → r.numbers.read < r.saved
  pub begun : r.steps < 2 → (r.numbers.last ≡ None) × (r.numbers.read ≡ 0)
  pub listed_up : IsUpTo r.numbers.last origs
  pub marked_up : IsUpTo r.numbers.last zeros

-- a stream has 1 page at least, and at most 65536 saved ones, their number pages and the info page
pub record IsShort (pages : ℕ) : Type 0 where
  pub some : 1 ≤ pages
  pub few : pages ≤ 65665

-- an image of at least one page frame and at most `valid`
pub record FitsIn (valid : ℕ) (info : Info) : Type 0 where
  pub some : 0 < info.image_pages
  pub few : info.image_pages ≤ valid
  pub pages : IsShort info.pages
