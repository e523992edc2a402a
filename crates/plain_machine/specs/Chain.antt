-- The chain of an image: its map pages and what they point to, on any disk.
-- In Linux: get_swap_reader and swap_read_page, kernel/power/swap.c.
use Rattle.std.specs.Prelude.{◌≡◌, ◌≢◌, ℕ, ◌*◌, ◌/◌, ◌%◌, ◌==◌, ◌&&◌, ◌||◌, List, [], ◌∷◌, Bool, not, nat_eq, nat_lt}
use Rattle.std.specs.Prelude.{length, map, Option, Some, None, Result, Ok, Err, if◌then◌else◌, ◌↔◌, ◌<◌, ◌≤◌, bit_and}
use Rattle.std.specs.Prelude.{zero, suc}
use Rattle.std.specs.List.{list_any, range_with_len}
use Rattle.std.specs.Cmp.Lexicographic.{pointwise}
use Rattle.page_core.specs.declared.format.Format.TheVariants.{SkipZeros}
use Rattle.definitions.specs.Bytes.{zero_page}
use Rattle.definitions.specs.Disk as disk
use Rattle.definitions.specs.SwapHeader.{IsMarked, sig_of, image_signature, image_of, flags_of, last_page_of}
use Rattle.definitions.specs.SwapMap.{map_entry, map_link}
use Rattle.definitions.specs.Slots.{block_of}
use Rattle.plain_machine.specs.Machine.{Hardware, block_of_slot}
use Rattle.plain_machine.specs.Image.{Image, pages_of, stream_of}
use Rattle.plain_machine.specs.declared.reply.Reply.{Reply}
use Rattle.plain_machine.specs.declared.reply.Reply.TheVariants.{NoChain, BadBlock, ChainEnds}
use Rattle.definitions.specs.declared.counts.TheConstants.{MAP_PAGE_ENTRIES}

-- the number of blocks of a disk that reads as v
abbrev pub blocks_of : disk.DiskImage → ℕ
blocks_of v = length v / 8

-- block(0), or the page of zeros if it isn't below the disk's blocks
abbrev pub header_of : Hardware → disk.DiskImage → List ℕ
header_of h v = if nat_lt (block_of_slot h 0) (blocks_of v) then disk.block v (block_of_slot h 0) else zero_page

-- the disk carries the signature of an image
abbrev pub Marked : Hardware → disk.DiskImage → Type 0
Marked h v = IsMarked (header_of h v)

-- whether the disk is `Marked`, as a test
abbrev pub is_marked_disk : Hardware → disk.DiskImage → Bool
is_marked_disk h v = pointwise nat_eq (sig_of (header_of h v)) image_signature

-- Whether block x is at fault in a chain, given the extents, the number of blocks of the disk and the last slot: x is
-- the header's block, or isn't a block of the disk that one of the slots 1 to `last` lies on. Slots past the last
-- extent continue it.
abbrev pub is_fault_of : List (ℕ × ℕ × ℕ) → ℕ → ℕ → ℕ → Bool
is_fault_of extents blocks last x =
    (x == block_of extents 0)
    || not (nat_lt x blocks && list_any (λ s. block_of extents s == x) (range_with_len 1 last))

-- whether block x is at fault on the disk v, whose last slot is the header's last_page
abbrev pub is_at_fault : Hardware → disk.DiskImage → ℕ → Bool
is_at_fault h v x = is_fault_of h.extents (blocks_of v) (last_page_of (header_of h v)) x

-- the block of map j, from 0: the first map is at block b, and each map links to the next
abbrev pub map_block : disk.DiskImage → ℕ → ℕ → ℕ
map_block v b zero = b
map_block v b (suc j) = map_link (disk.block v (map_block v b j))

-- entry k of the chain, from 0
abbrev pub entry_block : disk.DiskImage → ℕ → ℕ → ℕ
entry_block v b k = map_entry (disk.block v (map_block v b (k / MAP_PAGE_ENTRIES))) (k % MAP_PAGE_ENTRIES)

abbrev pub block_fault : Hardware → disk.DiskImage → ℕ → Option Reply
block_fault h v x = if is_at_fault h v x then Some (BadBlock x) else None

-- what is wrong with map j when it is to be read
abbrev pub map_fault : Hardware → disk.DiskImage → ℕ → ℕ → Option Reply
map_fault h v b zero = if b == 0 then Some NoChain else block_fault h v b
map_fault h v b (suc j) =
    if map_block v b (suc j) == 0 then Some (ChainEnds (suc j)) else block_fault h v (map_block v b (suc j))

-- what is wrong with entry k when it is to be read
abbrev pub entry_fault : Hardware → disk.DiskImage → ℕ → ℕ → Option Reply
entry_fault h v b k = block_fault h v (entry_block v b k)

-- the first value that is present, of two and of a list
abbrev pub or_else : {A : Type 0} → Option A → Option A → Option A
or_else None b = b
or_else (Some x) b = Some x

abbrev pub first_some : {A : Type 0} → List (Option A) → Option A
first_some [] = None
first_some (x ∷ xs) = or_else x (first_some xs)

-- what is wrong at entry k in reading order: if it is the first entry of its map, the map comes before it
abbrev pub place_fault : Hardware → disk.DiskImage → ℕ → ℕ → Option Reply
place_fault h v b k =
    if k % MAP_PAGE_ENTRIES == 0 then or_else (map_fault h v b (k / MAP_PAGE_ENTRIES)) (entry_fault h v b k)
    else entry_fault h v b k

abbrev pub ok_unless : {A E : Type 0} → Option E → A → Result A E
ok_unless None x = Ok x
ok_unless (Some e) x = Err e

-- [chain]: the blocks of the first p entries, or the first cause in reading order
unfoldable pub chain : Hardware → disk.DiskImage → ℕ → ℕ → Result (List ℕ) Reply
chain h v b p =
    ok_unless (first_some (map (place_fault h v b) (range_with_len 0 p))) (map (entry_block v b) (range_with_len 0 p))

-- [holds]: the disk is marked with the image's format, its chain reads as the image's stream, and the tasks' slots have
-- their pages, on blocks that the chain doesn't use. The last map belongs to the chain even if it has no entry.
pub record Holds (h : Hardware) (v : disk.DiskImage) (i : Image) : Type 0 where
  pub marked : Marked h v
  pub uncompressed : bit_and (flags_of (header_of h v)) 2 ≢ 0
  pub format : (bit_and (flags_of (header_of h v)) 256 ≢ 0) ↔ (i.format ≡ SkipZeros)
  pub whole : (blocks : List ℕ) × (chain h v (image_of (header_of h v)) (pages_of i) ≡ Ok blocks)
      × (map (disk.block v) blocks ≡ stream_of i)
  pub slots : (s : ℕ) (page : List ℕ) → i.slots s ≡ Some page → disk.block v (block_of_slot h s) ≡ page
  pub maps_apart : (s j : ℕ) (page : List ℕ) → i.slots s ≡ Some page → MAP_PAGE_ENTRIES * j ≤ pages_of i →
      map_block v (image_of (header_of h v)) j ≢ block_of_slot h s
  pub pages_apart : (s k : ℕ) (page : List ℕ) → i.slots s ≡ Some page → k < pages_of i →
      entry_block v (image_of (header_of h v)) k ≢ block_of_slot h s
