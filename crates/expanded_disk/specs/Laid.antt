-- The plain image that a compressed one is expanded to, on a disk of its own: the header in block 0, and then its chain
-- laid out in order: a map, its 511 pages, the next map, and so on (swap_write_page, kernel/power/swap.c).
use Rattle.std.specs.Prelude.{ℕ, ◌+◌, ◌-◌, ◌*◌, ◌/◌, ◌%◌, ◌==◌, nat_lt, if◌then◌else◌, List, take, drop, map}
use Rattle.std.specs.Prelude.{Option, None, Some}
use Rattle.std.specs.List.{range_with_len}
use Rattle.definitions.specs.Bytes.{with_number, with_word}
use Rattle.definitions.specs.Disk.{Content, DiskImage, as_it_reads, block, sector_bytes, settled}
use Rattle.definitions.specs.NumberPages.{page_of_words}
use Rattle.definitions.specs.SwapHeader.{flags_of}
use Rattle.expanded_disk.specs.Index.{first_of, pages_of_chain}
use Rattle.expanded_disk.specs.Names.{chain_of}
use Rattle.expanded_disk.specs.Units.{bytes_of}
use Rattle.sector_disk.specs.Recorded.{after}
use Rattle.sector_disk.specs.declared.recorded.Recorded.TheVariants.{Write}
use Rattle.expanded_disk.specs.declared.refused.Refused.{Refused}
use Rattle.definitions.specs.declared.counts.TheConstants.{BLOCKS_PER_MAP, MAP_PAGE_ENTRIES, WORDS_PER_PAGE}

-- how many maps and how many blocks an image with the given number of pages takes
abbrev pub maps_for : ℕ → ℕ
maps_for pages = (pages + 510) / MAP_PAGE_ENTRIES

abbrev pub blocks_for : ℕ → ℕ
blocks_for pages = 1 + pages + maps_for pages

-- word i of map m: the block of its entry i, or, after the entries, the block of the next map; 0 if there is none
abbrev pub map_word : (pages m i : ℕ) → ℕ
map_word pages m i =
    if i == MAP_PAGE_ENTRIES
    then (if nat_lt (MAP_PAGE_ENTRIES * m + MAP_PAGE_ENTRIES) pages then BLOCKS_PER_MAP * m + 513 else 0)
    else if nat_lt (MAP_PAGE_ENTRIES * m + i) pages then BLOCKS_PER_MAP * m + i + 2 else 0

unfoldable pub laid_map : (pages m : ℕ) → List ℕ
laid_map pages m = page_of_words (map (map_word pages m) (range_with_len 0 WORDS_PER_PAGE))

-- the flags of an image that isn't compressed, and has no checksum (SF_NOCOMPRESS_MODE is 2, SF_CRC32_MODE 4)
abbrev pub plain_flags_of : ℕ → ℕ
plain_flags_of flags =
    let compressed = if flags / 2 % 2 == 0 then flags + 2 else flags in
    if flags / 4 % 2 == 1 then compressed - 4 else compressed

-- The header block: that of the area, except for the last page, which is the last block, the bad pages, of which there
-- are none, the first map, and the flags.
unfoldable pub plain_header : List ℕ → ℕ → List ℕ
plain_header page pages =
    let sized = with_number 4 (with_number 4 page 1028 (blocks_for pages - 1)) 1032 0 in
    with_number 4 (with_word sized 508 1) 4072 (plain_flags_of (flags_of page))

-- page k of the image: the info page, and then those that the units expand to, 32 each
unfoldable pub expanded_page : (ℕ → List ℕ) → (pages k : ℕ) → List ℕ
expanded_page chain pages k =
    if k == 0 then chain 0
    else take 4096 (drop (4096 * ((k - 1) % 32)) (bytes_of chain pages ((k - 1) / 32)))

-- block b
unfoldable pub laid_block : (header : List ℕ) → (page : ℕ → List ℕ) → (pages b : ℕ) → List ℕ
laid_block header page pages b =
    if b == 0 then header
    else if (b - 1) % BLOCKS_PER_MAP == 0 then laid_map pages ((b - 1) / BLOCKS_PER_MAP)
    else page (MAP_PAGE_ENTRIES * ((b - 1) / BLOCKS_PER_MAP) + (b - 1) % BLOCKS_PER_MAP - 1)

-- the first n blocks as a disk
unfoldable pub image_of_blocks : (ℕ → List ℕ) → ℕ → DiskImage
image_of_blocks block_at n = map (λ s. sector_bytes (block_at (s / 8)) (s % 8)) (range_with_len 0 (8 * n))

-- the plain image of the compressed one with the given header block on a disk that reads as v
abbrev pub plain_block : DiskImage → (header b : ℕ) → List ℕ
plain_block v header b =
    let chain = chain_of v (first_of v header) in
    let pages = pages_of_chain chain in
    laid_block (plain_header (block v header) pages) (expanded_page chain pages) pages b

abbrev pub plain_image : DiskImage → ℕ → DiskImage
plain_image v header =
    image_of_blocks (plain_block v header) (blocks_for (pages_of_chain (chain_of v (first_of v header))))

-- what the expanding disk holds, if the disk below tells what it holds
abbrev pub expanded : ℕ → Option Content → Option Content
expanded header None = None
expanded header (Some held) = Some (settled (plain_image (as_it_reads held) header))

-- What a disk holds after it refused a write: each sector of that block has the page's bytes as one more candidate. So
-- the content is never what it was.
abbrev pub marred : Option Refused → Option Content → Option Content
marred None content = content
marred (Some refused) None = None
marred (Some refused) (Some held) = Some (after held (Write refused.block refused.page))
