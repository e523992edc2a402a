-- Which parts make a machine, and which of them is at fault if they don't.
use Rattle.std.specs.Prelude.{ℕ, ◌+◌, ◌-◌, ◌%◌, ◌==◌, ◌&&◌, ◌||◌, Bool, not, nat_lt, nat_le, List, length, Option, Some}
use Rattle.std.specs.Prelude.{None, if◌then◌else◌, slice_index_or}
use Rattle.std.specs.List.{list_all, list_any, range_with_len}
use Rattle.definitions.specs.Zones.{top, zone_at, zone_end}
use Rattle.definitions.specs.Slots.{extent_at, slots_before, slots_of}
use Rattle.plain_machine.specs.Machine.{Hardware, is_valid, is_table_frame, is_of_table, table_frames}
use Rattle.plain_machine.specs.Machine.{slot_table_frames}
use Rattle.machine.specs.declared.hardware.Parts.{Parts}
use Rattle.machine.specs.declared.hardware.HardFault.{HardFault}
use Rattle.machine.specs.declared.hardware.HardFault.TheVariants.{Zones, Slots, Tables, Regions, Extents}

-- the hardware that these parts make
abbrev pub hardware_of : Parts → Hardware
hardware_of parts = record {
  zones = parts.zones.now;
  slots = parts.slots;
  frame_table = parts.frame_table;
  slot_table = parts.slot_table;
  regions = parts.regions.now;
  ident = parts.ident;
  hw_sig = parts.hw_sig;
  extents = parts.extents.now;
}

-- whether each number below n passes a test
abbrev pub each_below : ℕ → (ℕ → Bool) → Bool
each_below n test = list_all test (range_with_len 0 n)

-- zone j has a page frame, none above 65535, and lies above the zone before (struct zone)
abbrev pub is_zone : List (ℕ × ℕ) → ℕ → Bool
is_zone zones j =
    nat_lt 0 (zone_at zones j).1 && nat_le (zone_end (zone_at zones j)) 65536
    && ((j == 0) || nat_le (zone_end (zone_at zones (j - 1))) (zone_at zones j).0)

-- there are 1 to 16 zones, and each is a valid one
abbrev pub is_zones : Hardware → Bool
is_zones h = nat_lt 0 (length h.zones) && nat_le (length h.zones) 16 && each_below (length h.zones) (is_zone h.zones)

-- slot 0 and at least one more, and at most 131,072
abbrev pub has_slots : Hardware → Bool
has_slots h = nat_le 2 h.slots && nat_le h.slots 131072

-- the page frames of the tables are valid, and the tables share none
abbrev pub has_tables : Hardware → Bool
has_tables h =
    list_all (is_valid h) (table_frames h)
    && not (list_any (is_of_table h.frame_table (top h.zones)) (slot_table_frames h))

-- region j, from 0: its first page frame, its count and its flags
abbrev pub region_at : List (ℕ × ℕ × ℕ) → ℕ → ℕ × ℕ × ℕ
region_at regions j = slice_index_or regions j (0, 0, 0)

-- the page frames of a region, and whether page frame p is one of them
abbrev pub region_frames : ℕ × ℕ × ℕ → List ℕ
region_frames r = range_with_len r.0 r.1

abbrev pub is_in_region : ℕ × ℕ × ℕ → ℕ → Bool
is_in_region r p = nat_le r.0 p && nat_lt p (r.0 + r.1)

-- a region isn't empty, and its flags are even and at most 126
abbrev pub has_flags : ℕ × ℕ × ℕ → Bool
has_flags r = nat_lt 0 r.1 && nat_le r.2 126 && (r.2 % 2 == 0)

-- the region's flags are valid, and its page frames are valid and not those of a table
abbrev pub is_region : Hardware → ℕ × ℕ × ℕ → Bool
is_region h r = has_flags r && list_all (λ p. is_valid h p && not (is_table_frame h p)) (region_frames r)

-- region k is valid and shares no page frame with an earlier region
abbrev pub is_region_at : Hardware → ℕ → Bool
is_region_at h k =
    is_region h (region_at h.regions k)
    && each_below k (λ j. not (list_any (is_in_region (region_at h.regions j)) (region_frames (region_at h.regions k))))

-- there are at most 64 regions, and no page frame lies in two
abbrev pub has_regions : Hardware → Bool
has_regions h = nat_le (length h.regions) 64 && each_below (length h.regions) (is_region_at h)

-- the extents share no block
abbrev pub lie_apart : ℕ × ℕ × ℕ → ℕ × ℕ × ℕ → Bool
lie_apart e f = nat_le (e.2 + e.1) f.2 || nat_le (f.2 + f.1) e.2

-- Extent i begins at slot 0 or where the one before ends, has a slot, ends at a block that a 32-bit number can name,
-- shares no block with an earlier extent, and has block 0 only for slot 0 (struct swap_extent).
abbrev pub is_extent : List (ℕ × ℕ × ℕ) → ℕ → Bool
is_extent extents i =
    ((extent_at extents i).0 == slots_before extents i) && nat_lt 0 (extent_at extents i).1
    && nat_le ((extent_at extents i).2 + (extent_at extents i).1) 4294967295
    && each_below i (λ j. lie_apart (extent_at extents j) (extent_at extents i))
    && (not ((extent_at extents i).2 == 0) || ((extent_at extents i).0 == 0))

-- there are 1 to 64 extents, each in order, and they cover exactly the slots
abbrev pub has_extents : Hardware → Bool
has_extents h =
    nat_lt 0 (length h.extents) && nat_le (length h.extents) 64 && each_below (length h.extents) (is_extent h.extents)
    && (slots_of h.extents == h.slots)

-- the first part at fault, in this order
unfoldable pub hard_fault : Hardware → Option HardFault
hard_fault h =
    if not (is_zones h) then Some Zones
    else (if not (has_slots h) then Some Slots
    else (if not (has_tables h) then Some Tables
    else (if not (has_regions h) then Some Regions
    else (if not (has_extents h) then Some Extents else None))))
