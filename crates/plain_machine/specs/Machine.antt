-- The machine: its hardware and its memory. In Linux: struct zone (include/linux/mmzone.h), struct page, and struct
-- swap_info_struct (include/linux/swap.h); saveable and free page frames are those of kernel/power/snapshot.c.
use Rattle.std.specs.Prelude.{◌≡◌, ◌≤◌, ◌<◌, ◌⊎◌, ℕ, ◌+◌, ◌/◌, ◌%◌, ◌^◌, All, ◌==◌, ◌&&◌, ◌||◌, Bool, true, not, nat_lt}
use Rattle.std.specs.Prelude.{nat_le, List, ◌++◌, length, filter, Option, if◌then◌else◌, Contains, slice_index_or}
use Rattle.std.specs.List.{list_any, range_with_len, find}
use Rattle.definitions.specs.Bytes.{IsPage}
use Rattle.definitions.specs.Zones.{numbers, top}
use Rattle.definitions.specs.ZoneFacts.{AreZones}
use Rattle.definitions.specs.Tables.{frame, entry_at, page_flags, owner_of, is_free, is_saveable}
use Rattle.definitions.specs.Slots.{block_of}
use Rattle.definitions.specs.FileMaps.{IsFileMap}
use Rattle.definitions.specs.Tables.{saveable_frames, free_frames}
use Rattle.definitions.specs.declared.info.Ident.{Ident}
use Rattle.definitions.specs.declared.counts.TheConstants.{ENTRIES_PER_FRAME}

-- A machine's hardware: zones (start, count), the number of slots (last_page + 1), the first page frames of the frame
-- table and of the slot table, regions (start, count, flags), its identity and hardware signature (0 if there is none),
-- and the extents of its swap area (start page, length, start block).
pub record Hardware : Type 0 where
  pub zones : List (ℕ × ℕ)
  pub slots : ℕ
  pub frame_table : ℕ
  pub slot_table : ℕ
  pub regions : List (ℕ × ℕ × ℕ)
  pub ident : Ident
  pub hw_sig : ℕ
  pub extents : List (ℕ × ℕ × ℕ)

-- The content of each page frame, by its number. What a free page frame holds doesn't count (`IsSameMemory`).
abbrev pub Memory : Type 0
Memory = List (List ℕ)

-- block(s)
abbrev pub block_of_slot : Hardware → ℕ → ℕ
block_of_slot h s = block_of h.extents s

-- how many page frames the machine has (get_num_physpages)
abbrev pub valid_count : Hardware → ℕ
valid_count h = length (numbers h.zones)

-- whether a page frame number is valid
abbrev pub is_valid : Hardware → ℕ → Bool
is_valid h p = list_any (λ q. q == p) (numbers h.zones)

-- the entry of page frame p in the frame table, and of slot s in the slot table as it is stored
abbrev pub frame_entry : Hardware → Memory → ℕ → ℕ
frame_entry h m p = entry_at m h.frame_table p

abbrev pub raw_slot_entry : Hardware → Memory → ℕ → ℕ
raw_slot_entry h m s = entry_at m h.slot_table s

-- slot entries: free, of a task from 1 to 64, of the image, bad
abbrev pub image_slot : ℕ
image_slot = 65536

abbrev pub bad_slot : ℕ
bad_slot = 131072

-- the entry of slot s, with a slot of the image counted as free
abbrev pub slot_entry : Hardware → Memory → ℕ → ℕ
slot_entry h m s = if raw_slot_entry h m s == image_slot then 0 else raw_slot_entry h m s

-- whether slot s is task t's
abbrev pub is_slot_of : Hardware → Memory → ℕ → ℕ → Bool
is_slot_of h m t s = nat_lt s h.slots && (slot_entry h m s == t)

-- Saveable(M), FreeFrames(M), FreeSlots(M)
abbrev pub saveable : Hardware → Memory → List ℕ
saveable h m = saveable_frames h.zones h.frame_table m

abbrev pub unused : Hardware → Memory → List ℕ
unused h m = free_frames h.zones h.frame_table m

abbrev pub unused_slots : Hardware → Memory → List ℕ
unused_slots h m = filter (λ s. slot_entry h m s == 0) (range_with_len 0 h.slots)

-- page frames of the two tables, ascending
abbrev pub table_len : ℕ → ℕ
table_len entries = (entries + 1023) / ENTRIES_PER_FRAME

abbrev pub frame_table_frames : Hardware → List ℕ
frame_table_frames h = range_with_len h.frame_table (table_len (top h.zones))

abbrev pub slot_table_frames : Hardware → List ℕ
slot_table_frames h = range_with_len h.slot_table (table_len h.slots)

abbrev pub table_frames : Hardware → List ℕ
table_frames h =
    if nat_lt h.frame_table h.slot_table then frame_table_frames h ++ slot_table_frames h
    else slot_table_frames h ++ frame_table_frames h

-- page frame f belongs to the table of `entries` entries that begins at page frame `first`; to one of the two tables
pub record IsOfTable (first entries f : ℕ) : Type 0 where
  pub from : first ≤ f
  pub below : f < first + table_len entries

abbrev pub IsTableFrame : Hardware → ℕ → Type 0
IsTableFrame h f = IsOfTable h.frame_table (top h.zones) f ⊎ IsOfTable h.slot_table h.slots f

-- whether page frame p belongs to the table of the given number of entries that begins at `first`; whether to one of
-- the two tables
abbrev pub is_of_table : ℕ → ℕ → ℕ → Bool
is_of_table first entries p = nat_le first p && nat_lt p (first + table_len entries)

abbrev pub is_table_frame : Hardware → ℕ → Bool
is_table_frame h p = is_of_table h.frame_table (top h.zones) p || is_of_table h.slot_table h.slots p

-- whether an entry of the frame table is well formed (Rattle.definitions.specs.Tables.IsWellFormed, as a test)
abbrev pub is_well_formed : ℕ → Bool
is_well_formed entry =
    nat_lt (page_flags entry) 128 && nat_le (owner_of entry) 64 && (not (is_free (page_flags entry)) || (entry == 1))
    && ((page_flags entry == 0) || (page_flags entry == 64) || (owner_of entry == 0))

-- whether slot s may have this entry: free, a task's or bad, and slot 0 is bad
abbrev pub is_slot_entry : ℕ → ℕ → Bool
is_slot_entry s entry = (entry == bad_slot) || (not (s == 0) && nat_le entry 64)

-- whether table frame f is at fault: an entry in it is wrong, or its own entry is, since a table frame must be saveable
-- and have no owner
abbrev pub is_table_at_fault : Hardware → Memory → ℕ → Bool
is_table_at_fault h m f =
    not (is_saveable (page_flags (frame_entry h m f))) || not (owner_of (frame_entry h m f) == 0)
    || list_any (λ p. (h.frame_table + p / ENTRIES_PER_FRAME == f)
    && not (is_well_formed (frame_entry h m p))) (numbers h.zones)
    || list_any (λ s. (h.slot_table + s / ENTRIES_PER_FRAME == f)
    && not (is_slot_entry s (raw_slot_entry h m s))) (range_with_len 0 h.slots)

-- the first table frame at fault
abbrev pub tables_fault : Hardware → Memory → Option ℕ
tables_fault h m = find (is_table_at_fault h m) (table_frames h)

-- [fits]: the tables are well formed.
pub record Fits (h : Hardware) (m : Memory) : Type 0 where
  pub pages : All IsPage m
  pub size : length m ≡ top h.zones
  pub entries : (p : ℕ) → Contains (numbers h.zones) p → is_well_formed (frame_entry h m p) ≡ true
  pub tables : (f : ℕ) → IsTableFrame h f → (is_saveable (page_flags (frame_entry h m f)) ≡ true)
      × (owner_of (frame_entry h m f) ≡ 0)
  pub slots : (s : ℕ) → s < h.slots → is_slot_entry s (raw_slot_entry h m s) ≡ true

-- an identity that an info page can hold: six names of 65 bytes, and a version code of 4 bytes (struct new_utsname)
pub record IsIdent (ident : Ident) : Type 0 where
  pub version_code : ident.version_code < 2 ^ 32
  pub names : length ident.names ≡ 6
  pub each_name : All (λ name. length name ≡ 65) ident.names

-- page frame p is one of a region (start, count, flags)
pub record IsInRegion (r : ℕ × ℕ × ℕ) (p : ℕ) : Type 0 where
  pub from : r.0 ≤ p
  pub below : p < r.0 + r.1

-- A region isn't empty, its flags are even and below 128, and its page frames are valid and of no table.
pub record IsRegion (h : Hardware) (r : ℕ × ℕ × ℕ) : Type 0 where
  pub some : 1 ≤ r.1
  pub few_flags : r.2 < 128
  pub even : r.2 % 2 ≡ 0
  pub valid : (p : ℕ) → IsInRegion r p → Contains (numbers h.zones) p
  pub of_no_table : (p : ℕ) → IsInRegion r p → IsTableFrame h p → ⊥

-- Valid hardware: the page frames of the tables are valid and no page frame is in both, there are at most 64 regions
-- and none overlap, the extents of the swap area cover exactly its slots, and identity and signature fit their fields.
pub record IsHardware (h : Hardware) : Type 0 where
  pub zones : AreZones h.zones
  pub some_slots : 2 ≤ h.slots
  pub few_slots : h.slots ≤ 131072
  pub frame_table : (i : ℕ) → i < table_len (top h.zones) → Contains (numbers h.zones) (h.frame_table + i)
  pub slot_table : (i : ℕ) → i < table_len h.slots → Contains (numbers h.zones) (h.slot_table + i)
  pub apart : (h.frame_table + table_len (top h.zones) ≤ h.slot_table)
      ⊎ (h.slot_table + table_len h.slots ≤ h.frame_table)
  pub few_regions : length h.regions ≤ 64
  pub regions : All (IsRegion h) h.regions
  pub regions_apart : (j k p : ℕ) → j < k → k < length h.regions →
      IsInRegion (slice_index_or h.regions j (0, 0, 0)) p → IsInRegion (slice_index_or h.regions k (0, 0, 0)) p → ⊥
  pub map : IsFileMap h.extents h.slots
  pub ident : IsIdent h.ident
  pub signature : h.hw_sig < 2 ^ 32

-- Two memories are the same: the same page frames are free, and the others have the same pages.
pub record IsSameMemory (h : Hardware) (m n : Memory) : Type 0 where
  pub free : unused h n ≡ unused h m
  pub used : (p : ℕ) → Contains (numbers h.zones) p → (Contains (unused h m) p → ⊥) → frame n p ≡ frame m p

-- tasks are numbered 1 to 64
pub record IsTask (t : ℕ) : Type 0 where
  pub some : 1 ≤ t
  pub few : t ≤ 64
