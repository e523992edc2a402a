-- How a stream of bytes lies on a disk after it has come in: as the pages of an image, after a marked header block.
use Rattle.std.specs.Prelude.{◌≡◌, ℕ, ◌+◌, List, [], ◌∷◌, ◌++◌, All, map, None, Ok, ◌<◌, ◌≤◌, ◌==◌, ◌*◌, ◌/◌, length}
use Rattle.std.specs.Prelude.{slice_index, if◌then◌else◌}
use Rattle.std.specs.List.{concat, range_with_len}
use Rattle.page_core.specs.declared.format.Format.TheVariants.{Plain}
use Rattle.definitions.specs.Bytes.{IsPage, bytes_at}
use Rattle.definitions.specs.Disk as disk
use Rattle.definitions.specs.SwapHeader.{image_of, flags_of}
use Rattle.image_format.specs.AreaKind.{area_kind}
use Rattle.image_format.specs.declared.signature.area.Area.{Area}
use Rattle.image_format.specs.declared.signature.area.AreaKind.TheVariants as kind
use Rattle.plain_machine.specs.Machine.{Hardware}
use Rattle.plain_machine.specs.Image.{Image, stream_of, maps_of, laid_write, page_of_write}
use Rattle.plain_machine.specs.Chain.{header_of, Marked, chain, Holds}
use Rattle.stream_in.specs.Grammar.{all_pages}
use Rattle.definitions.specs.Disk.{Content, DiskImage, as_it_reads, block}
use Rattle.definitions.specs.FileMaps.{IsFileMap}
use Rattle.definitions.specs.declared.counts.TheConstants.{MAP_PAGE_ENTRIES}

-- What the writes of a stream have left on the disk.

-- the slots are those of a file map
abbrev pub AreOfMap : List (ℕ × ℕ × ℕ) → List ℕ → Type 0
AreOfMap extents free =
    (slots : ℕ) × IsFileMap extents slots × ((place : ℕ) → place < length free → slice_index free place < slots)

-- The first k writes of Laid of a stream of `count` pages, whose page i is `pages i`, read as they were made.
abbrev pub ReadAsMade : List (ℕ × ℕ × ℕ) → List ℕ → ℕ → (ℕ → List ℕ) → ℕ → DiskImage → Type 0
ReadAsMade extents free count pages k v =
    (j : ℕ) → j < k →
    block v (laid_write extents free count (pages (page_of_write j)) j).0 ≡
    (laid_write extents free count (pages (page_of_write j)) j).1

-- if the first k writes read as made before, the first m do now
abbrev pub MakesMore : List (ℕ × ℕ × ℕ) → List ℕ → ℕ → (ℕ → List ℕ) → ℕ → ℕ → Content → Content → Type 0
MakesMore extents free count pages k m old new =
    ReadAsMade extents free count pages k (as_it_reads old) → ReadAsMade extents free count pages m (as_it_reads new)

-- page i of these bytes
abbrev pub page_at : List ℕ → ℕ → List ℕ
page_at bs i = bytes_at 4096 bs (4096 * i)

-- how many writes of Laid are made when k pages of the given number are written: the pages, the maps that they fill,
-- and in the end the last map
abbrev pub writes_after : ℕ → ℕ → ℕ
writes_after pages k = if k == pages then pages + maps_of pages else k + k / MAP_PAGE_ENTRIES

-- The writes for the whole pages of these bytes read as they were made.
abbrev pub AreWritten : List (ℕ × ℕ × ℕ) → List ℕ → List ℕ → DiskImage → Type 0
AreWritten extents free bs v =
    4096 ≤ length bs →
    ReadAsMade extents free (all_pages bs) (page_at bs) (writes_after (all_pages bs) (length bs / 4096)) v

-- with more bytes, more is written
abbrev pub WritesOn : List (ℕ × ℕ × ℕ) → List ℕ → List ℕ → List ℕ → Content → Content → Type 0
WritesOn extents free bs more old new =
    AreWritten extents free bs (as_it_reads old) → AreWritten extents free (bs ++ more) (as_it_reads new)

-- the extents of an area whose slots are the disk's first blocks
abbrev pub first_blocks : Area → List (ℕ × ℕ × ℕ)
first_blocks area = (0, area.last + 1, 0) ∷ []

-- The chain from the first map that the header names consists of these blocks, one for each page that the stream says
-- it has. They read as the stream's pages in order, and so as its bytes (get_swap_reader and swap_read_page,
-- kernel/power/swap.c).
pub record HasChain (h : Hardware) (bs : List ℕ) (v : disk.DiskImage) (blocks : List ℕ) : Type 0 where
  pub chain_is : chain h v (image_of (header_of h v)) (all_pages bs) ≡ Ok blocks
  pub pages : map (disk.block v) blocks ≡ map (page_at bs) (range_with_len 0 (all_pages bs))
  pub bytes : concat (map (disk.block v) blocks) ≡ bs

-- The disk is marked, with SF_NOCOMPRESS_MODE as the only flag, and holds the stream byte for byte.
pub record HoldsStream (h : Hardware) (bs : List ℕ) (v : disk.DiskImage) : Type 0 where
  pub marked : Marked h v
  pub flags : flags_of (header_of h v) ≡ 2
  pub whole : (blocks : List ℕ) × HasChain h bs v blocks

-- The bytes are those of the image's stream, which leaves no page out. The image has no page of a task's slot.
pub record AreOfImage (i : Image) (bs : List ℕ) : Type 0 where
  pub bytes : concat (stream_of i) ≡ bs
  pub pages : All IsPage (stream_of i)
  pub format : i.format ≡ Plain
  pub no_slots : (s : ℕ) → i.slots s ≡ None

-- For each machine with this swap area, the disk has the stream and holds the stream's image.
pub record HasComeIn (area : Area) (bs : List ℕ) (v : disk.DiskImage) : Type 0 where
  pub stream : (h : Hardware) → h.extents ≡ first_blocks area → HoldsStream h bs v
  pub image : (h : Hardware) → h.extents ≡ first_blocks area → (i : Image) → AreOfImage i bs → Holds h v i

-- The disk image v has this area's header block, and what these bytes write to these slots.
pub record IsReadyFor (area : Area) (free bs : List ℕ) (v : disk.DiskImage) : Type 0 where
  pub header : area_kind (disk.block v 0) ≡ kind.Swap area
  pub written : AreWritten (first_blocks area) free bs v

-- if the disk was ready for some bytes, it is ready for more
abbrev pub StaysReady : Area → List ℕ → List ℕ → List ℕ → disk.Content → disk.Content → Type 0
StaysReady area free bs more old new =
    IsReadyFor area free bs (disk.as_it_reads old) → IsReadyFor area free (bs ++ more) (disk.as_it_reads new)

-- if the disk was ready for the stream, the stream has come in, in each image that a cut may leave
abbrev pub ComesIn : Area → List ℕ → List ℕ → disk.Content → disk.Content → Type 0
ComesIn area free bs old new =
    IsReadyFor area free bs (disk.as_it_reads old) → (v : disk.DiskImage) → disk.IsImage new v → HasComeIn area bs v
