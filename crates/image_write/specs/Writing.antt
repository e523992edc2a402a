-- A writer, and how far it has come.
use Rattle.std.specs.Prelude.{◌≡◌, ◌≤◌, ◌<◌, ◌==◌, ◌^◌, ℕ, ◌+◌, ◌-◌, ◌*◌, ◌/◌, ◌%◌, List, [], length, take, drop, All}
use Rattle.std.specs.Prelude.{if◌then◌else◌, slice_index_or}
use Rattle.std.specs.List.Sorted.{IsStrictlyIncreasing}
use Rattle.definitions.specs.Disk.{Content, Writes, FailsToWrite}
use Rattle.definitions.specs.declared.info.Info.{Info}
use Rattle.definitions.specs.NumberPages.{meta_of, marked_numbers}
use Rattle.definitions.specs.Tables.{entry_at}
use Rattle.image_format.specs.MapPages.{MapEntries}
use Rattle.swap_slots.specs.Table.{free_in}
use Rattle.swap_slots.specs.declared.table.SlotTable.{SlotTable}
use Rattle.plain_machine.specs.Image.{maps_of, stream_pages}
use Rattle.plain_machine.specs.Image.{page_place, map_place, laid_block, laid_entries, laid_write}
use Rattle.plain_machine.specs.Image.{is_map_write, page_of_write}
use Rattle.image_write.specs.Copies.{with_data, data_pages, IsPassed}
use Rattle.definitions.specs.declared.counts.TheConstants.{BLOCKS_PER_MAP, MAP_PAGE_ENTRIES}

-- What it writes, where, and how many writes it has made: the block of the first map, the block of the map that is
-- being filled, its entries so far and its link, and the block of the next map once that is taken; and how many of the
-- copies it has passed.
pub record Writing : Type 0 where
  pub info : Info
  pub extents : List (ℕ × ℕ × ℕ)
  pub table : SlotTable
  pub first : ℕ
  pub written : ℕ
  pub block : ℕ
  pub entries : MapEntries
  pub next : ℕ
  pub orig : ℕ
  pub copy : ℕ
  pub passed : ℕ

-- how many writes there are in all
abbrev pub writes_of : Info → ℕ
writes_of info = info.pages + maps_of info.pages

-- how many slots are taken after `written` writes: one for the first map, one for each page, and one for each next map
abbrev pub taken_after : ℕ → ℕ
taken_after written = page_place (page_of_write written)

-- The slots that write k takes: that of its page, and with the 511th page of a map also that of the next map. The write
-- of a map takes none.
abbrev pub slots_of_write : Info → List ℕ → ℕ → List ℕ
slots_of_write info free k =
    if is_map_write info.pages k then []
    else take (if k % BLOCKS_PER_MAP == 510 then 2 else 1) (drop (taken_after k) free)

-- the first `count` of these slots are the image's, and the others are the free slots of the table
pub record HasTaken (free : List ℕ) (count : ℕ) (frames : List (List ℕ)) (table : SlotTable) : Type 0 where
  pub left : free_in frames table ≡ drop count free
  pub taken : All (λ s. entry_at frames table.first s ≡ 65536) (take count free)

-- the blocks of the first `count` of these slots lie below a limit: the number of the disk's blocks, or of those that a
-- 32-bit number can name
abbrev pub BlocksBelow : List (ℕ × ℕ × ℕ) → List ℕ → ℕ → ℕ → Type 0
BlocksBelow extents free count limit = (place : ℕ) → place < count → laid_block extents free place < limit

-- A writer that isn't done, which began with these free slots: it has taken those for what was written, and fills the
-- map of the next write.
pub record IsWriting (free : List ℕ) (frames : List (List ℕ)) (w : Writing) : Type 0 where
  pub ascending : IsStrictlyIncreasing free
  pub few : length free < 2 ^ 32
  pub room : writes_of w.info ≤ length free
  pub blocks : BlocksBelow w.extents free (writes_of w.info) (2 ^ 32)
  pub unfinished : w.written < writes_of w.info
  pub slots : HasTaken free (taken_after w.written) frames w.table
  pub first : w.first ≡ laid_block w.extents free 0
  pub block : w.block ≡ laid_block w.extents free (map_place (w.written / BLOCKS_PER_MAP))
  pub entries : w.entries.entries ≡ laid_entries w.extents free (MAP_PAGE_ENTRIES * (w.written / BLOCKS_PER_MAP))
      (w.written % BLOCKS_PER_MAP)
  pub link : w.entries.link ≡ (if w.written % BLOCKS_PER_MAP == MAP_PAGE_ENTRIES then w.next else 0)
  pub next : w.written % BLOCKS_PER_MAP ≡ MAP_PAGE_ENTRIES →
      w.next ≡ laid_block w.extents free (map_place (w.written / BLOCKS_PER_MAP + 1))

-- the writer can go on, on a disk of `count` blocks
abbrev pub IsReady : ℕ → List (List ℕ) → Writing → Type 0
IsReady count frames w = (free : List ℕ) × IsWriting free frames w × BlocksBelow w.extents free (writes_of w.info) count

-- the next page of a stream, and the next write if it is that of this page: its block and what is written there
abbrev pub page_next : List (List ℕ) → Writing → List ℕ
page_next stream w = slice_index_or stream (page_of_write w.written) []

abbrev pub write_next : List ℕ → Writing → List ℕ → ℕ × List ℕ
write_next free w page = laid_write w.extents free w.info.pages page w.written

-- a write is made, or fails
abbrev pub Makes : ℕ × List ℕ → Content → Content → Type 0
Makes made old new = Writes made.0 made.1 old new

abbrev pub FailsToMake : ℕ × List ℕ → Content → Content → Type 0
FailsToMake made old new = FailsToWrite made.0 made.1 old new

-- the same image in the same places
pub record IsSameImage (old new : Writing) : Type 0 where
  pub info : new.info ≡ old.info
  pub extents : new.extents ≡ old.extents
  pub table : new.table ≡ old.table
  pub first : new.first ≡ old.first

-- the stream of these sets: the info page, the numbers of the originals, and the copies with data
abbrev pub stream_of_sets : Info → List (List ℕ) → List ℕ → List ℕ → List ℕ → List (List ℕ)
stream_of_sets info frames origs copies zeros =
    stream_pages info (marked_numbers origs zeros) (data_pages frames origs copies zeros)

-- The sets are those of the image: as many originals and copies as the info page says, and as many copies with data as
-- its count of pages requires.
pub record AreOfImage (info : Info) (origs copies zeros : List ℕ) : Type 0 where
  pub originals : length origs ≡ info.image_pages
  pub copied : length copies ≡ info.image_pages
  pub pages : info.pages ≡ length (with_data origs copies zeros) + meta_of info.image_pages + 1

-- how many data pages are written after `written` writes
abbrev pub data_written : Info → ℕ → ℕ
data_written info written = page_of_write written - (meta_of info.image_pages + 1)

-- the copies are read as far as they are written
abbrev pub HasReadCopies : List ℕ → List ℕ → List ℕ → Writing → Type 0
HasReadCopies origs copies zeros w = IsPassed origs copies zeros w.orig w.copy w.passed (data_written w.info w.written)

-- no more copies are read
pub record IsSameCursor (old new : Writing) : Type 0 where
  pub orig : new.orig ≡ old.orig
  pub copy : new.copy ≡ old.copy
  pub passed : new.passed ≡ old.passed
