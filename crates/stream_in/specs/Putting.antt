-- How far the pages of a stream are written. A page is written when it is full, with the map that it fills; the last
-- map follows the last page.
use Rattle.std.specs.Prelude.{◌≡◌, ◌<◌, ◌≤◌, ◌==◌, ℕ, ◌+◌, ◌%◌, ◌^◌, ◌||◌, Bool, false, IsTrue, List, length}
use Rattle.std.specs.Prelude.{Option, Some, None, ⊤, Result, Err, IsSomeAnd, OnOk, OnErr}
use Rattle.definitions.specs.Disk.{Content, Changes}
use Rattle.plain_machine.specs.Image.{page_of_write, is_map_write, laid_block}
use Rattle.image_write.specs.Writing.{Writing, IsWriting, IsSameImage, BlocksBelow, writes_of}
use Rattle.image_write.specs.declared.write_step.WriteStep.{WriteStep}
use Rattle.image_write.specs.declared.write_step.WriteStep.TheVariants.{More, Done, Fault}
use Rattle.stream_in.specs.Holding.{AreOfMap, MakesMore, writes_after}
use Rattle.stream_in.specs.Outside.{PutsAtRest, FailsAtRest}
use Rattle.stream_in.specs.Slots.{free_of}
use Rattle.stream_in.specs.declared.slots.SlotMemory.{SlotMemory}
use Rattle.stream_in.specs.declared.stop.InStop.{InStop}
use Rattle.stream_in.specs.declared.stop.InStop.TheVariants as stop
use Rattle.stream_in.specs.Grammar.{image_pages, all_pages, are_counts}
use Rattle.definitions.specs.declared.counts.TheConstants.{BLOCKS_PER_MAP, MAP_PAGE_ENTRIES, SPARE_SLOTS}

-- whether a map is written next
abbrev pub is_map_next : WriteStep → Bool
is_map_next (More k writes) = (k % BLOCKS_PER_MAP == MAP_PAGE_ENTRIES) || (k + 1 == writes)
is_map_next Done = false
is_map_next Fault = false

-- One more page is written, with the maps that follow it.
pub record IsPagePut (free : List ℕ) (memory : SlotMemory) (old new : Writing) : Type 0 where
  pub image : IsSameImage old new
  pub table_is : new.table ≡ memory.table
  pub written : new.written ≡ writes_after old.info.pages (page_of_write old.written + 1)
  pub going : new.written < writes_of old.info → IsWriting free memory.frames new

-- the counts on the stream's first page are those of an image
abbrev pub HasCounts : List ℕ → Type 0
HasCounts page = IsTrue (are_counts (image_pages page) (all_pages page))

-- The first page can be written: these slots are free, and their blocks are on the disk and have 32-bit numbers.
pub record CanBegin (free : List ℕ) (memory : SlotMemory) (extents : List (ℕ × ℕ
    × ℕ)) (blocks : ℕ) (page : List ℕ) : Type 0 where
  pub counts : HasCounts page
  pub is_free : free_of memory ≡ free
  pub few : length free < 2 ^ 32
  pub on_disk : BlocksBelow extents free (length free) blocks
  pub named : BlocksBelow extents free (length free) (2 ^ 32)

-- A later page can be written: these slots were free at the first.
pub record CanGoOn (free : List ℕ) (memory : SlotMemory) (extents : List (ℕ × ℕ
    × ℕ)) (blocks : ℕ) (w : Writing) : Type 0 where
  pub writing : IsWriting free memory.frames w
  pub table_is : w.table ≡ memory.table
  pub extents_are : w.extents ≡ extents
  pub on_disk : BlocksBelow extents free (writes_of w.info) blocks
  pub at_page : is_map_write w.info.pages w.written ≡ false

abbrev pub CanPut : List ℕ → SlotMemory → List (ℕ × ℕ × ℕ) → ℕ → List ℕ → Option Writing → Type 0
CanPut free memory extents blocks page None = CanBegin free memory extents blocks page
CanPut free memory extents blocks page (Some w) = CanGoOn free memory extents blocks w

-- how many pages the stream has, and how many of them are written
abbrev pub pages_in : List ℕ → Option Writing → ℕ
pages_in page None = all_pages page
pages_in page (Some w) = w.info.pages

abbrev pub pages_written : Option Writing → ℕ
pages_written None = 0
pages_written (Some w) = page_of_write w.written

abbrev pub writes_made : Option Writing → ℕ
writes_made None = 0
writes_made (Some w) = w.written

abbrev pub first_in : List (ℕ × ℕ × ℕ) → List ℕ → Option Writing → ℕ
first_in extents free None = laid_block extents free 0
first_in extents free (Some w) = w.first

-- the slots suffice for an image that begins
abbrev pub Suffice : List ℕ → List ℕ → Option Writing → Type 0
Suffice free page None = all_pages page + SPARE_SLOTS ≤ length free
Suffice free page (Some w) = ⊤

-- The page is written.
pub record HasPut (free : List ℕ) (memory : SlotMemory) (extents : List (ℕ × ℕ
    × ℕ)) (page : List ℕ) (old : Option Writing) (new : Writing) : Type 0 where
  pub pages : new.info.pages ≡ pages_in page old
  pub written : new.written ≡ writes_after (pages_in page old) (pages_written old + 1)
  pub going : new.written < writes_of new.info → IsWriting free memory.frames new
  pub table_is : new.table ≡ memory.table
  pub extents_are : new.extents ≡ extents
  pub first : new.first ≡ first_in extents free old

-- Fewer slots are free than the image may need.
pub record HasTooFew (free : List ℕ) (page : List ℕ) (old : Option Writing) (told need : ℕ) : Type 0 where
  pub begins : old ≡ None
  pub told_free : told ≡ length free
  pub told_need : need ≡ all_pages page + SPARE_SLOTS
  pub fewer : told < need

-- What the put of a full page reports if the page can be put and these slots are free, with the writer before and after
-- it: the page is written, if the slots suffice, and only to their blocks; or they are too few, or a call of the disk
-- failed.
pub record PutsFull (free : List ℕ) (memory : SlotMemory) (extents : List (ℕ × ℕ
    × ℕ)) (page : List ℕ) (old new : Option Writing) (answer : Result (Unit {0}) InStop)
    (before now : Option Content) : Type 0 where
  pub put : OnOk answer (IsSomeAnd new (λ next. HasPut free memory extents page old next))
  pub enough : OnOk answer (Suffice free page old)
  pub too_few : (told need : ℕ) → answer ≡ Err (stop.NoSlots told need) → HasTooFew free page old told need
  pub done : (pages : ℕ → List ℕ) → AreOfMap extents free → page ≡ pages (pages_written old) →
      OnOk answer (Changes
      (MakesMore extents free (pages_in page old) pages (writes_made old) (writes_made new)) before now)
  pub outside : OnOk answer (Changes (PutsAtRest extents free old) before now)
  pub stopped : OnErr answer (Changes (FailsAtRest extents free old) before now)

-- The writer is at a page: it is the old one, or one that has just begun.
pub record IsAtPage (free : List ℕ) (memory : SlotMemory) (extents : List (ℕ × ℕ
    × ℕ)) (blocks : ℕ) (page : List ℕ) (old : Option Writing) (w : Writing) : Type 0 where
  pub writing : IsWriting free memory.frames w
  pub at_page : is_map_write w.info.pages w.written ≡ false
  pub on_disk : BlocksBelow w.extents free (writes_of w.info) blocks
  pub pages : w.info.pages ≡ pages_in page old
  pub count : page_of_write w.written ≡ pages_written old
  pub made : w.written ≡ writes_made old
  pub table_is : w.table ≡ memory.table
  pub extents_are : w.extents ≡ extents
  pub first_is : w.first ≡ first_in extents free old
  pub enough : Suffice free page old
