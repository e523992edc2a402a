-- A session, and the bytes that it has taken.
use Rattle.std.specs.Prelude.{◌≡◌, ◌⊎◌, ◌≤◌, ◌<◌, ℕ, ◌+◌, ◌-◌, ◌*◌, ◌/◌, ◌%◌, ◌^◌, List, [], ◌∷◌, length, slice_index}
use Rattle.std.specs.Prelude.{Option, Some, None}
use Rattle.plain_machine.specs.Image.{laid_block}
use Rattle.image_write.specs.Writing.{Writing, IsWriting, BlocksBelow}
use Rattle.stream_in.specs.Grammar.{all_pages}
use Rattle.stream_in.specs.Taken.{HasTaken}
use Rattle.image_format.specs.declared.signature.area.Area.{Area}
use Rattle.stream_in.specs.Area.{AreUsable}
use Rattle.stream_in.specs.Holding.{first_blocks}
use Rattle.stream_in.specs.Holding.{AreOfMap, writes_after}
use Rattle.stream_in.specs.Slots.{free_of}
use Rattle.stream_in.specs.declared.session.StreamIn.{StreamIn}
use Rattle.stream_in.specs.declared.slots.SlotMemory.{SlotMemory}
use Rattle.stream_in.specs.declared.stop.InStop.{InStop}
use Rattle.definitions.specs.declared.counts.TheConstants.{SPARE_SLOTS}

-- the bytes so far of the page that is being filled
abbrev pub HasPage : List ℕ → List ℕ → Type 0
HasPage bs page =
    (i : ℕ) → i < length bs % 4096 → slice_index page i ≡ slice_index bs (length bs - length bs % 4096 + i)

-- The info page isn't whole yet, and these slots are free.
pub record IsUnbegun (free bs : List ℕ) (memory : SlotMemory) : Type 0 where
  pub early : length bs < 4096
  pub is_free : free_of memory ≡ free

-- The whole pages are written to these slots, which suffice, with the maps that they fill.
pub record IsBegun (free bs : List ℕ) (memory : SlotMemory) (extents : List (ℕ × ℕ × ℕ)) (w : Writing) : Type 0 where
  pub late : 4096 ≤ length bs
  pub room : all_pages bs + SPARE_SLOTS ≤ length free
  pub pages : w.info.pages ≡ all_pages bs
  pub written : w.written ≡ writes_after (all_pages bs) (length bs / 4096)
  pub going : length bs < 4096 * all_pages bs → IsWriting free memory.frames w
  pub table_is : w.table ≡ memory.table
  pub extents_are : w.extents ≡ extents
  pub first : w.first ≡ laid_block extents free 0

abbrev pub IsOutput : List ℕ → List ℕ → SlotMemory → List (ℕ × ℕ × ℕ) → Option Writing → Type 0
IsOutput free bs memory extents None = IsUnbegun free bs memory
IsOutput free bs memory extents (Some w) = IsBegun free bs memory extents w

-- A session that isn't stopped has taken exactly these bytes, in which no fault was found. These slots were free when
-- it was opened.
pub record IsFed (free bs : List ℕ) (s : StreamIn) : Type 0 where
  pub taken : HasTaken bs s.checker
  pub going : s.stop ≡ None
  pub page_is : HasPage bs s.page
  pub few : length free < 2 ^ 32
  pub count : s.blocks < 2 ^ 32
  pub on_disk : BlocksBelow s.map free (length free) s.blocks
  pub output : IsOutput free bs s.memory s.map s.writer

abbrev pub IsGoing : StreamIn → Type 0
IsGoing s = (free : List ℕ) × (bs : List ℕ) × IsFed free bs s

abbrev pub IsStopped : StreamIn → Type 0
IsStopped s = (why : InStop) × (s.stop ≡ Some why)

-- each session that is handed out is stopped or going
abbrev pub IsSession : StreamIn → Type 0
IsSession s = IsStopped s ⊎ IsGoing s

-- A session just opened over an area: it has taken no byte, slot s lies on block s, and the area's slots are free.
pub record IsOpened (area : Area) (blocks : ℕ) (s : StreamIn) : Type 0 where
  pub fed : (free : List ℕ) × AreUsable area free × AreOfMap s.map free × IsFed free [] s
  pub map_is : s.map ≡ (0, area.last + 1, 0) ∷ []
  pub blocks_are : s.blocks ≡ blocks

-- A session that writes an image into these slots of this area, and has taken these bytes.
pub record TakesInto (area : Area) (free bs : List ℕ) (s : StreamIn) : Type 0 where
  pub fed : IsFed free bs s
  pub map_is : s.map ≡ first_blocks area
  pub of_map : AreOfMap s.map free
  pub usable : AreUsable area free
