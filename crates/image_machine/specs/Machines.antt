-- The machine that an image saved, with its memory.
use Rattle.std.specs.Prelude.{◌≡◌, ◌↔◌, ℕ, List, length, map, not, ◌&&◌, ◌<◌, ◌⊎◌, if◌then◌else◌, Option, Some, None}
use Rattle.std.specs.Prelude.{Contains, Ok}
use Rattle.std.specs.List.{All, range_with_len}
use Rattle.definitions.specs.Bytes.{IsPage, zero_page}
use Rattle.definitions.specs.Slots.{extent_at}
use Rattle.definitions.specs.Zones.{numbers, top}
use Rattle.machine.specs.FreshSlots.{slot_of_area}
use Rattle.machine.specs.HardFault.{hard_fault}
use Rattle.plain_machine.specs.FreshMemory.{with_each_entry}
use Rattle.plain_machine.specs.Loader.{page_or, saved_page}
use Rattle.plain_machine.specs.Machine.{Fits, Hardware, IsHardware, IsTableFrame, Memory, is_table_frame, saveable}
use Rattle.plain_machine.specs.Machine.{tables_fault}
use Rattle.image_machine.specs.Limits.{AreTables, HasNoRoom}
use Rattle.image_machine.specs.Loaders.{hardware_with}
use Rattle.image_machine.specs.Rows.{is_unsaved}
use Rattle.image_machine.specs.declared.heading.Heading.{Heading}
use Rattle.image_machine.specs.declared.heading.Layout.{Layout}
use Rattle.image_machine.specs.declared.limit.Limit.{Limit}
use Rattle.image_machine.specs.declared.limit.Limit.TheVariants as limit

-- the numbers of the saved page frames, each of which comes with its page
abbrev pub numbers_of : List (ℕ × List ℕ) → List ℕ
numbers_of saved = map (λ (s : ℕ × List ℕ). s.0) saved

-- page frame p of memory that is all zeros but for the saved pages
abbrev pub laid_page : List (ℕ × List ℕ) → ℕ → List ℕ
laid_page saved p = page_or (saved_page saved p) zero_page

unfoldable pub laid : ℕ → List (ℕ × List ℕ) → Memory
laid n saved = map (laid_page saved) (range_with_len 0 n)

-- A valid page frame that wasn't saved and isn't part of a table is free; every other entry is 0: in use, with no owner
-- and no flag.
unfoldable pub entry_with : Hardware → List ℕ → ℕ → ℕ
entry_with h saved p = if is_unsaved h.zones saved p && not (is_table_frame h p) then 1 else 0

-- The saved pages, a frame table which says that they and the tables are in use, and the slot table of a boot.
abbrev pub memory_with : Hardware → (ℕ → ℕ) → List (ℕ × List ℕ) → Memory
memory_with h slots saved =
    with_each_entry slots (range_with_len 0 h.slots) h.slot_table
    (with_each_entry (entry_with h (numbers_of saved)) (range_with_len 0 (top h.zones)) h.frame_table
    (laid (top h.zones) saved))

-- exactly these page frames are saveable
abbrev pub SavesJust : Hardware → Memory → List ℕ → Type 0
SavesJust h m saved = (p : ℕ) → Contains (saveable h m) p ↔ Contains saved p

-- page frame n is the first on which the tables and the image disagree
pub record IsFirstAmiss (h : Hardware) (m : Memory) (saved : List ℕ) (n : ℕ) : Type 0 where
  pub before : (p : ℕ) → p < n → Contains (saveable h m) p ↔ Contains saved p
  pub amiss : Contains (saveable h m) n ↔ Contains saved n → ⊥

-- The memory of the machine, for an image that has its tables from these page frames on, or that has none.
abbrev pub HasMemory : Heading → Layout → Option (ℕ × ℕ) → List (ℕ × List ℕ) → Hardware → Memory → Type 0
HasMemory heading layout None saved h m =
    AreTables heading layout (numbers_of saved) h.frame_table h.slot_table
    × (m ≡ memory_with h (slot_of_area (Ok heading.area)) saved)
    × ((p : ℕ) → IsTableFrame h p → Contains (numbers_of saved) p → ⊥)
HasMemory heading layout (Some tables) saved h m =
    (h ≡ hardware_with heading layout tables.0 tables.1) × (m ≡ laid (top h.zones) saved)
    × SavesJust h m (numbers_of saved)

-- The machine is as the image says, and each saved page frame is in use and has its page. The machine can hibernate: it
-- has all that a dump must hold.
pub record IsMachineFor (heading : Heading) (layout : Layout) (tables : Option (ℕ × ℕ)) (saved : List (ℕ × List ℕ))
    (h : Hardware) (m : Memory) : Type 0 where
  pub is : h ≡ hardware_with heading layout h.frame_table h.slot_table
  pub hardware : IsHardware h
  pub fits : Fits h m
  pub pages : length (numbers h.zones) ≡ heading.physpages
  pub header : (extent_at h.extents 0).2 ≡ layout.offset
  pub inside : (p : ℕ) → Contains (numbers_of saved) p → Contains (numbers h.zones) p
  pub whole : All IsPage (laid (top h.zones) saved)
  pub memory : HasMemory heading layout tables saved h m

-- The limit that is violated by tables that have no room or that no machine has.
abbrev pub PassesByTables : Heading → Layout → List ℕ → Limit → Type 0
PassesByTables heading layout saved (limit.Memory pages) = ⊥
PassesByTables heading layout saved (limit.Slots last) = ⊥
PassesByTables heading layout saved (limit.Zones fault) = ⊥
PassesByTables heading layout saved (limit.Count count pages) = ⊥
PassesByTables heading layout saved (limit.Offset block offset) = ⊥
PassesByTables heading layout saved (limit.Outside number) = ⊥
PassesByTables heading layout saved limit.NoRoom = HasNoRoom heading layout saved
PassesByTables heading layout saved (limit.Hardware fault) =
    (f : ℕ) × ((s : ℕ) × (AreTables heading layout saved f s
    × (hard_fault (hardware_with heading layout f s) ≡ Some fault)))
PassesByTables heading layout saved (limit.TooFew have need) = ⊥
PassesByTables heading layout saved (limit.Tables number) = ⊥

-- The limit that the machine's own tables violate, over the memory in which they lie.
abbrev pub PassesByOwn : Hardware → List (ℕ × List ℕ) → Limit → Type 0
PassesByOwn h saved (limit.Memory pages) = ⊥
PassesByOwn h saved (limit.Slots last) = ⊥
PassesByOwn h saved (limit.Zones fault) = ⊥
PassesByOwn h saved (limit.Count count pages) = ⊥
PassesByOwn h saved (limit.Offset block offset) = ⊥
PassesByOwn h saved (limit.Outside number) = ⊥
PassesByOwn h saved limit.NoRoom = ⊥
PassesByOwn h saved (limit.Hardware fault) = hard_fault h ≡ Some fault
PassesByOwn h saved (limit.TooFew have need) = ⊥
PassesByOwn h saved (limit.Tables number) =
    (hard_fault h ≡ None) × ((tables_fault h (laid (top h.zones) saved) ≡ Some number)
    ⊎ ((tables_fault h (laid (top h.zones) saved) ≡ None)
    × IsFirstAmiss h (laid (top h.zones) saved) (numbers_of saved) number))

abbrev pub PassesWith : Heading → Layout → Option (ℕ × ℕ) → List (ℕ × List ℕ) → Limit → Type 0
PassesWith heading layout None saved passed = PassesByTables heading layout (numbers_of saved) passed
PassesWith heading layout (Some tables) saved passed =
    PassesByOwn (hardware_with heading layout tables.0 tables.1) saved passed
