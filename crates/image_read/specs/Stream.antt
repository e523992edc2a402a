-- An image on a disk, as far as its first places are read.
use Rattle.std.specs.Prelude.{◌≡◌, ◌<◌, ◌≤◌, ℕ, ◌+◌, ◌-◌, ◌*◌, ◌/◌, ◌%◌, ◌==◌, zero, suc, false, nat_lt, List}
use Rattle.std.specs.Prelude.{length, map, filter, min, Option, Some, None, if◌then◌else◌, slice_index, slice_get}
use Rattle.std.specs.List.{range_with_len}
use Rattle.std.specs.List.Sorted.{IsStrictlyIncreasing}
use Rattle.definitions.specs.NumberPages.{meta_of}
use Rattle.page_core.specs.declared.format.Format.{Format}
use Rattle.definitions.specs.Disk as disk
use Rattle.definitions.specs.SwapHeader.{last_page_of}
use Rattle.frame_sets.specs.Unpacked.{Unpacked}
use Rattle.plain_machine.specs.Machine.{Hardware}
use Rattle.plain_machine.specs.Chain.{blocks_of, header_of, is_at_fault, map_block, entry_block}
use Rattle.plain_machine.specs.Trace.{data_frames, first_map, info_in, format_in, meta_in, number_in, number_word}
use Rattle.plain_machine.specs.Trace.{cause_with}
use Rattle.plain_machine.specs.Trace.{is_marked_by, Place, map_at, page_at, place, place_count}
use Rattle.plain_machine.specs.declared.event.IdentCheck.{IdentCheck}
use Rattle.image_read.specs.Reading.{Reading}
use Rattle.definitions.specs.declared.counts.TheConstants.{BLOCKS_PER_MAP, WORDS_PER_PAGE}

-- the block of a place
abbrev pub place_block : Hardware → disk.DiskImage → Place → ℕ
place_block h v (map_at j) = map_block v (first_map h v) j
place_block h v (page_at k) = entry_block v (first_map h v) k

-- how many of the first t places are pages of the stream
abbrev pub pages_read : ℕ → ℕ
pages_read t = t - (t + 511) / BLOCKS_PER_MAP

-- After k pages of the stream: how many pages it has, as far as is known, and how many numbers were read.
abbrev pub known_pages : Hardware → disk.DiskImage → ℕ → ℕ
known_pages h v zero = 1
known_pages h v (suc k) = (info_in h v).pages

abbrev pub known_saved : Hardware → disk.DiskImage → ℕ → ℕ
known_saved h v zero = 0
known_saved h v (suc k) = (info_in h v).image_pages

abbrev pub numbers_read : Hardware → disk.DiskImage → ℕ → ℕ
numbers_read h v k = min (known_saved h v k) (WORDS_PER_PAGE * (k - 1))

-- the first m page frames that the numbers name, and those of them that have no data page
unfoldable pub frames_in : Hardware → disk.DiskImage → ℕ → List ℕ
frames_in h v m = map (number_in h v) (range_with_len 0 m)

unfoldable pub marked_in : Hardware → disk.DiskImage → ℕ → List ℕ
marked_in h v m =
    map (number_in h v) (filter (λ j. is_marked_by (format_in h v) (number_word h v j)) (range_with_len 0 m))

abbrev pub last_number : Hardware → disk.DiskImage → ℕ → Option ℕ
last_number h v zero = None
last_number h v (suc m) = Some (number_in h v m)

abbrev pub unpacked_at : Hardware → disk.DiskImage → ℕ → Unpacked
unpacked_at h v k = record {
  n = known_saved h v k;
  format = format_in h v;
  read = numbers_read h v k;
  last = last_number h v (numbers_read h v k);
}

-- the number of saved page frames, once the last number page is read
abbrev pub told : Hardware → disk.DiskImage → ℕ → Option ℕ
told h v zero = None
told h v (suc k) =
    if numbers_read h v (suc k) == (info_in h v).image_pages then Some (info_in h v).image_pages else None

-- the number after the page frame of the last data page
abbrev pub frame_after : List ℕ → ℕ → ℕ
frame_after frames zero = 0
frame_after frames (suc i) = slice_index frames i + 1

-- the page frame whose page the stream has at a place, if that is a data page
abbrev pub frame_at : Hardware → disk.DiskImage → Place → Option ℕ
frame_at h v (map_at j) = None
frame_at h v (page_at k) = if nat_lt (meta_in h v) k then slice_get (data_frames h v) (k - 1 - meta_in h v) else None

-- some page frames are saved, and there are pages for their numbers
pub record HasCounts (n pages : ℕ) : Type 0 where
  pub some : 0 < n
  pub least : meta_of n + 1 ≤ pages

-- these extents, last slot, number of blocks and format are the disk's, by its header
pub record IsAreaOf (h : Hardware) (v : disk.DiskImage) (extents : List (ℕ × ℕ
    × ℕ)) (last blocks : ℕ) (format : Format) : Type 0 where
  pub same_extents : extents ≡ h.extents
  pub same_last : last ≡ last_page_of (header_of h v)
  pub same_blocks : blocks ≡ blocks_of v
  pub same_format : format ≡ format_in h v

-- The sets hold all n page frames that the numbers name, and the stream has a page for each of them that has data.
pub record AreListed (h : Hardware) (v : disk.DiskImage) (n : ℕ) (origs zeros : List ℕ) : Type 0 where
  pub count : n ≡ (info_in h v).image_pages
  pub frames : origs ≡ frames_in h v (info_in h v).image_pages
  pub marks : zeros ≡ marked_in h v (info_in h v).image_pages
  pub rising : IsStrictlyIncreasing origs
  pub whole : (info_in h v).pages ≡ length (data_frames h v) + meta_in h v + 1

-- The first t places of the disk v were read, and nothing is wrong with them.
pub record HasReadPlaces (h : Hardware) (v : disk.DiskImage) (check : IdentCheck) (r : Reading) (t : ℕ)
    (origs zeros : List ℕ) : Type 0 where
  pub area : IsAreaOf h v r.extents r.last r.blocks r.format
  pub steps : r.steps ≡ t
  pub sound : (s : ℕ) → s < t → cause_with h v check None s ≡ None
  pub pages : r.pages ≡ known_pages h v (pages_read t)
  pub saved : r.saved ≡ known_saved h v (pages_read t)
  pub within : t ≤ place_count (known_pages h v (pages_read t))
  pub block : t < place_count (known_pages h v (pages_read t)) → r.block ≡ place_block h v (place t)
  pub apart : t < place_count (known_pages h v (pages_read t)) → is_at_fault h v r.block ≡ false
  pub map : (t % BLOCKS_PER_MAP ≡ 0 → ⊥) →
      r.map ≡ record {
        page = disk.block v (map_block v (first_map h v) (t / BLOCKS_PER_MAP));
        map = t / BLOCKS_PER_MAP + 1;
      }
  pub numbers : r.numbers ≡ unpacked_at h v (pages_read t)
  pub listed : r.listed ≡ told h v (pages_read t)
  pub frame : r.frame ≡ frame_after (data_frames h v) (pages_read t - 1 - meta_in h v)
  pub frames : origs ≡ frames_in h v (numbers_read h v (pages_read t))
  pub marks : zeros ≡ marked_in h v (numbers_read h v (pages_read t))
  pub rising : IsStrictlyIncreasing origs
  pub counts : 1 ≤ pages_read t → HasCounts (info_in h v).image_pages (info_in h v).pages
  pub whole : (n : ℕ) → r.listed ≡ Some n → (info_in h v).pages ≡ length (data_frames h v) + meta_in h v + 1
