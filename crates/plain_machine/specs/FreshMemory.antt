-- [tables]: the memory of a machine that has just booted, page frame by page frame and entry by entry.
-- In Linux a boot frees all memory to the page allocator except what is reserved: memblock_free_all, mm/memblock.c.
use Rattle.std.specs.Prelude.{ℕ, ◌+◌, ◌*◌, ◌-◌, ◌&&◌, List, [], ◌∷◌, map, flat_map, Option, Some, None, if◌then◌else◌}
use Rattle.std.specs.Prelude.{nat_le, nat_lt}
use Rattle.std.specs.List.{range_with_len, find}
use Rattle.byteorder.specs.Endian.{little_bytes}
use Rattle.definitions.specs.Bytes.{zero_page}
use Rattle.definitions.specs.Tables.{with_entry}
use Rattle.definitions.specs.Zones.{numbers, top}
use Rattle.plain_machine.specs.Loader.{has}
use Rattle.plain_machine.specs.Machine.{Hardware, Memory, is_of_table, is_table_frame}
use Rattle.definitions.specs.declared.counts.TheConstants.{ENTRIES_PER_FRAME}

-- An entry of the frame table: 0 for a page frame of a table, the region's flags for one of a region, else free.
abbrev pub region_flags : Option (ℕ × ℕ × ℕ) → ℕ
region_flags None = 1
region_flags (Some r) = r.2

unfoldable pub fresh_entry : Hardware → ℕ → ℕ
fresh_entry h p =
    if is_table_frame h p then 0 else region_flags (find (λ r. nat_le r.0 p && nat_lt p (r.0 + r.1)) h.regions)

-- Each table fills its page frames: there are zeros past its last entry, and for a number that isn't a valid page
-- frame.
abbrev pub frame_table_entry : Hardware → ℕ → ℕ
frame_table_entry h p = if has (numbers h.zones) p then fresh_entry h p else 0

abbrev pub slot_table_entry : Hardware → (ℕ → ℕ) → ℕ → ℕ
slot_table_entry h slots s = if nat_lt s h.slots then slots s else 0

-- page frame p of the table that begins at page frame `first`: 1024 of its entries, 4 bytes each
unfoldable pub table_page : ℕ → (ℕ → ℕ) → ℕ → List ℕ
table_page first entry p =
    flat_map (λ k. little_bytes 4 (entry (ENTRIES_PER_FRAME * (p - first) + k))) (range_with_len 0 ENTRIES_PER_FRAME)

unfoldable pub fresh_page : Hardware → (ℕ → ℕ) → ℕ → List ℕ
fresh_page h slots p =
    if is_of_table h.frame_table (top h.zones) p then table_page h.frame_table (frame_table_entry h) p
    else (if is_of_table h.slot_table h.slots p then table_page h.slot_table (slot_table_entry h slots) p
    else zero_page)

-- fresh memory with these slot entries
unfoldable pub fresh_memory : Hardware → (ℕ → ℕ) → Memory
fresh_memory h slots = map (fresh_page h slots) (range_with_len 0 (top h.zones))

-- fresh memory before the area is read: all slots are free
unfoldable pub fresh_frames : Hardware → Memory
fresh_frames h = fresh_memory h (λ s. 0)

-- Memory with some entries of a table set: each of these entries k becomes `entry k`.
unfoldable pub with_each_entry : (ℕ → ℕ) → List ℕ → ℕ → Memory → Memory
with_each_entry entry [] table m = m
with_each_entry entry (k ∷ ks) table m = with_each_entry entry ks table (with_entry m table k (entry k))
