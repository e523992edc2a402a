-- Where the units of a compressed image lie, once the whole image was read and nothing is wrong with it.
use Rattle.std.specs.Prelude.{◌≡◌, ℕ, ◌+◌, ◌*◌, ◌/◌, ◌%◌, ◌==◌, ◌<◌, ◌≤◌, if◌then◌else◌, List, length, slice_index}
use Rattle.std.specs.Prelude.{Option, None, Some}
use Rattle.definitions.specs.Bytes.{number_at}
use Rattle.definitions.specs.Disk.{DiskImage, block}
use Rattle.definitions.specs.SwapHeader.{flags_of, image_of}
use Rattle.image_check.specs.Info.{counts_in}
use Rattle.expanded_disk.specs.Chains.{IsChain}
use Rattle.expanded_disk.specs.Names.{chain_of}
use Rattle.expanded_disk.specs.Units.{IsUnit, checksum_of, start_of, units_of}
use Rattle.expanded_disk.specs.declared.units.index.Index.{Index}
use Rattle.definitions.specs.declared.counts.TheConstants.{MAP_PAGE_ENTRIES}

-- the first map that the header block names, and the chain from there on
abbrev pub first_of : DiskImage → ℕ → ℕ
first_of v header = image_of (block v header)

abbrev pub pages_of_chain : (ℕ → List ℕ) → ℕ
pages_of_chain chain = (counts_in (chain 0)).pages

-- the checksum in the header, if flag 4 says that it has one (SF_CRC32_MODE)
abbrev pub crc_of : List ℕ → ℕ
crc_of page = number_at 4 page 4060

abbrev pub checksum_wanted : List ℕ → Option ℕ
checksum_wanted page = if flags_of page / 4 % 2 == 1 then Some (crc_of page) else None

-- the header's checksum, if it has one, is that of the units
abbrev pub Agrees : Option ℕ → ℕ → Type 0
Agrees None found = Unit {0}
Agrees (Some wanted) found = wanted ≡ found

-- The index of a whole image whose first map is this block, in an area of a disk with the given number of blocks: its
-- header block and info page, its number of pages, the first page of each unit, none of which has a fault, and the
-- checksum.
pub record IsIndexOf (blocks : ℕ) (v : DiskImage) (first : ℕ) (header : List ℕ) (index : Index) : Type 0 where
  pub header_is : index.header ≡ header
  pub first_is : index.first ≡ first
  pub info_is : index.info ≡ chain_of v first 0
  pub pages_are : index.pages ≡ pages_of_chain (chain_of v first)
  pub maps : IsChain blocks v first (start_of (chain_of v first) (units_of index.pages)) index.maps.items
  pub enough : start_of (chain_of v first) (units_of index.pages) ≤ MAP_PAGE_ENTRIES * length index.maps.items
  pub starts_count : length index.starts.items ≡ units_of index.pages + 1
  pub starts : (j : ℕ) → j ≤ units_of index.pages → slice_index index.starts.items j ≡ start_of (chain_of v first) j
  pub units : (j : ℕ) → j < units_of index.pages → IsUnit (chain_of v first) index.pages j
  pub checksum : Agrees (checksum_wanted header) (checksum_of (chain_of v first) index.pages (units_of index.pages))

abbrev pub IsIndexed : (blocks : ℕ) → DiskImage → (header : ℕ) → Index → Type 0
IsIndexed blocks v header index = IsIndexOf blocks v (first_of v header) (block v header) index
