-- The tables and the free slots at the begin of a hibernation: copies lie outside the slot table, and free slots on blocks of the disk.
use Rattle.std.proofs.Common.{◌≡◌, ◌≤◌, ◌<◌, ℕ, ◌+◌, ◌-◌, ◌/◌, inr, Bool, eqb, List, length, get_or, take, sym, ap, ap₂, ◌∙◌, subst, arith, Contains, None, Result, Ok, Err, IsOk, IfOk}
use Rattle.std.specs.List.{range_with_len}
use Rattle.std.proofs.lemmas.Bool.{false≢true}
use Rattle.std.proofs.lemmas.List.Elements.{Contains-get_or}
use Rattle.std.proofs.lemmas.List.Sums.{count_by-le-length, length-filter}
use Rattle.definitions.specs.Tables.{saveable_frames, free_frames, free_slots}
use Rattle.definitions.specs.NumberPages.{meta_of}
use Rattle.definitions.specs.FreeRuns.{runs_of}
use Rattle.definitions.specs.Tables.{frame, entry_at, page_flags, is_saveable, HasTable}
use Rattle.definitions.specs.Zones.{numbers, top}
use Rattle.definitions.specs.ZoneFacts.{AreZones}
use Rattle.definitions.proofs.FreeSlots.{free_slot}
use Rattle.definitions.proofs.ZoneLists.{Contains-from_free_frames}
use Rattle.definitions.proofs.ZoneNumbers.{below_top, count_at_most, range-bounds, top_at_most, top_is_next}
use Rattle.frame_table.proofs.Picks.{Contains-from_take}
use Rattle.image_format.specs.declared.signature.area.Area.{Area}
use Rattle.swap_slots.specs.Runs.{SlotRuns}
use Rattle.swap_slots.specs.Table.{Matches, free_in}
use Rattle.image_write.specs.Writing.{BlocksBelow, writes_of}
use Rattle.plain_machine.specs.Image.{maps_of}
use Rattle.plain_machine.specs.Machine.{Hardware, Memory, IsHardware, IsOfTable, IsTableFrame, saveable, unused, table_len}
use Rattle.plain_machine.specs.UsableArea.{fit_fault}
use Rattle.plain_machine.specs.declared.no_swap.NoSwap.{NoSwap}
use Rattle.plain_machine.proofs.SameMemory.{filter_agree_within, entry-same, of_slot_table}
use Rattle.machine.specs.Running.{slot_table_of}
use Rattle.protocol_laws.proofs.Places.{usable_fits}
use Rattle.machine.specs.declared.machine.Machine.{Machine}
use Rattle.hib_core.specs.Begin.{IsCounted, pages_of, info_of}
use Rattle.hib_core.specs.declared.hib.Hib.{Hib}
use Rattle.snapshot.specs.Taken.{Taken}
use Rattle.snapshot.specs.declared.Counts.{Counts}

-- The tables lie in memory.

table_lies : (h : Hardware) (frames : Memory) (first n : ℕ) → AreZones h.zones → 0 < n → ((i : ℕ) → i < table_len n → Contains (numbers h.zones) (first + i)) → length frames ≡ top h.zones → HasTable frames first n
table_lies h frames first n zones some valid size =
    let last : table_len n - 1 < table_len n = omega arith in
    let below : first + (table_len n - 1) < top h.zones = below_top h.zones (first + (table_len n - 1)) zones.apart (valid (table_len n - 1) last) in
    omega arith

pub frame_table_lies : (h : Hardware) (frames : Memory) → IsHardware h → length frames ≡ top h.zones → HasTable frames h.frame_table (top h.zones)
frame_table_lies h frames hw size =
    let below = below_top h.zones (top h.zones - 1) hw.zones.apart (top_is_next h.zones hw.zones) in
    table_lies h frames h.frame_table (top h.zones) hw.zones (omega arith) hw.frame_table size

pub slot_table_lies : (h : Hardware) (frames : Memory) → IsHardware h → length frames ≡ top h.zones → HasTable frames h.slot_table h.slots
slot_table_lies h frames hw size = let some = hw.some_slots in table_lies h frames h.slot_table h.slots hw.zones (omega arith) hw.slot_table size

-- How much is counted.

pub saveable_few : (h : Hardware) (frames : Memory) → AreZones h.zones → length (saveable h frames) ≤ 65536
unfolding saveable_frames
saveable_few h frames zones =
    let test : ℕ → Bool = λ p. is_saveable (page_flags (entry_at frames h.frame_table p)) in
    let part = count_by-le-length test (numbers h.zones) in
    let size = length-filter test (numbers h.zones) in
    let count = count_at_most h.zones zones in
    let end = top_at_most h.zones zones in
    omega arith

pub room_for_writes : (n d free : ℕ) → n ≤ 65536 → d ≤ n → d + meta_of n + 1 + 1026 ≤ free → d + meta_of n + 1 + maps_of (d + meta_of n + 1) ≤ free
room_for_writes n d free few le room = omega arith

-- Copies lie outside the tables.

-- no copy is a page frame of a table
pub copy_apart : (machine : Machine) (frames : Memory) (hib : Hib) (counts : Counts) (n : ℕ) (copies : List ℕ) → IsCounted machine frames hib counts → copies ≡ take n (unused machine.hw frames) → (p : ℕ) → Contains copies p → IsTableFrame machine.hw p → ⊥
copy_apart machine frames hib counts n copies counted are p in' of =
    (counted.reserved p of).1 (Contains-from_free_frames machine.hw.zones machine.hw.frame_table frames p (Contains-from_take n (unused machine.hw frames) p (subst (λ (xs : List ℕ). Contains xs p) are in'))).1

pub copies_apart : (machine : Machine) (frames : Memory) (hib : Hib) (counts : Counts) (n : ℕ) (copies : List ℕ) → IsCounted machine frames hib counts → copies ≡ take n (unused machine.hw frames) →
    (p : ℕ) → Contains copies p → IsOfTable machine.hw.slot_table machine.hw.slots p → ⊥
copies_apart machine frames hib counts n copies counted are p in' of = copy_apart machine frames hib counts n copies counted are p in' (inr of)

pub kept_free_slots : (h : Hardware) (frames copied : Memory) → ((p : ℕ) → IsOfTable h.slot_table h.slots p → frame copied p ≡ frame frames p) → free_in copied (slot_table_of h) ≡ free_in frames (slot_table_of h)
unfolding free_slots
kept_free_slots h frames copied kept =
    filter_agree_within (λ s. eqb (entry_at copied h.slot_table s) 0) (λ s. eqb (entry_at frames h.slot_table s) 0) (range_with_len 0 h.slots)
    (λ s in'.
    let bounds = range-bounds 0 h.slots s in' in
    let below = bounds.1 in
    let lt : s < h.slots = omega arith in
    ap (λ (e : ℕ). eqb e 0) (entry-same frames copied h.slot_table s (kept (h.slot_table + s / 1024) (of_slot_table h s lt))))

-- with the copies made, the free slots stay
pub free_slots_stay : (machine : Machine) (frames copied : Memory) (hib : Hib) (counts : Counts) (n : ℕ) (copies : List ℕ) → IsCounted machine frames hib counts → copies ≡ take n (unused machine.hw frames) →
    ((p : ℕ) → (Contains copies p → ⊥) → frame copied p ≡ frame frames p) → free_in copied (slot_table_of machine.hw) ≡ free_in frames (slot_table_of machine.hw)
free_slots_stay machine frames copied hib counts n copies counted are others =
    kept_free_slots machine.hw frames copied (λ p of. others p (λ in'. copies_apart machine frames hib counts n copies counted are p in' of))

pub still_matches : (h : Hardware) (frames copied : Memory) (runs : SlotRuns) → free_in copied (slot_table_of h) ≡ free_in frames (slot_table_of h) → Matches frames (slot_table_of h) runs → Matches copied (slot_table_of h) runs
still_matches h frames copied runs same matches = record { room = matches.room; runs = matches.runs ∙ ap runs_of (sym same) }

pub counted_few : (machine : Machine) (frames : Memory) (hib : Hib) (counts : Counts) → IsHardware machine.hw → IsCounted machine frames hib counts → (counts.n ≤ 65536) × (counts.d ≤ counts.n)
counted_few machine frames hib counts hw counted =
    let few = saveable_few machine.hw frames hw.zones in
    let saved = counted.saved in
    let with_pages = counted.with_pages in (omega arith, omega arith)

-- there is room for all writes
pub room_for_image : (machine : Machine) (frames : Memory) (hib : Hib) (counts : Counts) → IsHardware machine.hw → IsCounted machine frames hib counts → pages_of counts + maps_of (pages_of counts) ≤ length (free_in frames (slot_table_of machine.hw))
room_for_image machine frames hib counts hw counted =
    let few = counted_few machine frames hib counts hw counted in
    room_for_writes counts.n counts.d (length (free_in frames (slot_table_of machine.hw))) few.0 few.1 counted.slots

-- The blocks.

usable_of : (P : Area → Type 0) (area : Result Area NoSwap) → IsOk area → IfOk area P → (a : Area) × P a
usable_of P (Ok area) is holds = (area, holds)
usable_of P (Err why) is holds = absurd (false≢true is)

-- the area that can be used fits the disk
pub area_of : (machine : Machine) → IsOk machine.area → IfOk machine.area (λ area. fit_fault machine.hw machine.blocks area ≡ None) → (area : Area) × (fit_fault machine.hw machine.blocks area ≡ None)
area_of machine is fits = usable_of (λ area. fit_fault machine.hw machine.blocks area ≡ None) machine.area is fits

pub below_more : (extents : List (ℕ × ℕ × ℕ)) (free : List ℕ) (count limit more : ℕ) → limit < more → BlocksBelow extents free count limit → BlocksBelow extents free count more
below_more extents free count limit more lt below = λ place in'. let at = below place in' in omega arith

pub slots_on_disk : (h : Hardware) (frames : Memory) (area : Area) (blocks count : ℕ) → fit_fault h blocks area ≡ None → count ≤ length (free_in frames (slot_table_of h)) → BlocksBelow h.extents (free_in frames (slot_table_of h)) count blocks
slots_on_disk h frames area blocks count fits room = λ place lt.
    let free = free_in frames (slot_table_of h) in
    (usable_fits h blocks area fits).1 (get_or free place 0) (free_slot h.slots h.slot_table frames (get_or free place 0) (Contains-get_or free place 0 (omega arith))).0

-- and so do the blocks of an image
pub image_on_disk : (machine : Machine) (frames : Memory) (hib : Hib) (counts : Counts) → IsHardware machine.hw → IsCounted machine frames hib counts → IfOk machine.area (λ area. fit_fault machine.hw machine.blocks area ≡ None) →
    BlocksBelow machine.hw.extents (free_in frames (slot_table_of machine.hw)) (writes_of (info_of machine.hw counts)) machine.blocks
image_on_disk machine frames hib counts hw counted usable =
    let area = area_of machine counted.area usable in
    slots_on_disk machine.hw frames area.0 machine.blocks (writes_of (info_of machine.hw counts)) area.1 (room_for_image machine frames hib counts hw counted)

-- The snapshot's copies, by the zones and the table that it was told.
pub copies_at : (h : Hardware) (frames : Memory) (zones : List (ℕ × ℕ)) (table : ℕ) (old new : Taken) → zones ≡ h.zones → table ≡ h.frame_table → new ≡ record old { copies = take (length old.origs) (free_frames zones table frames) } →
    new ≡ record old { copies = take (length old.origs) (unused h frames) }
copies_at h frames zones table old new z t e = e ∙ ap₂ (λ (zs : List (ℕ × ℕ)) (k : ℕ). record old { copies = take (length old.origs) (free_frames zs k frames) }) z t

-- what is said of these zones and this table is said of the machine's
pub at_hardware : (h : Hardware) (P : List (ℕ × ℕ) → ℕ → Type 0) (zones : List (ℕ × ℕ)) (table : ℕ) → zones ≡ h.zones → table ≡ h.frame_table → P zones table → P h.zones h.frame_table
at_hardware h P zones table z t p = subst (λ (k : ℕ). P h.zones k) t (subst (λ (zs : List (ℕ × ℕ)). P zs table) z p)

pub at_hardware_back : (h : Hardware) (P : List (ℕ × ℕ) → ℕ → Type 0) (zones : List (ℕ × ℕ)) (table : ℕ) → zones ≡ h.zones → table ≡ h.frame_table → P h.zones h.frame_table → P zones table
at_hardware_back h P zones table z t p = subst (λ (zs : List (ℕ × ℕ)). P zs table) (sym z) (subst (λ (k : ℕ). P h.zones k) (sym t) p)
