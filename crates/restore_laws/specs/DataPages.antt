-- The data pages of a stream, as a resume reads them one by one.
use Rattle.std.specs.Prelude.{◌≡◌, ◌<◌, ◌≤◌, ℕ, ◌+◌, ◌-◌, List, length, map, take, Some, None, slice_get}
use Rattle.std.specs.List.{zip}
use Rattle.std.specs.List.Sorted.{IsStrictlyIncreasing}
use Rattle.definitions.specs.Disk as disk
use Rattle.plain_machine.specs.Machine.{Hardware}
use Rattle.plain_machine.specs.Chain.{Holds}
use Rattle.plain_machine.specs.Image.{Image, d_of, with_data}
use Rattle.plain_machine.specs.Stands.{data_read}
use Rattle.plain_machine.specs.Trace.{data_page, data_pages, info_in, meta_in, d_in, place, place_count, data_frames}
use Rattle.plain_machine.specs.declared.event.IdentCheck.{IdentCheck}
use Rattle.image_laws.specs.Decoding.{IsSayable}
use Rattle.image_read.specs.Reading.{Reading}
use Rattle.image_read.specs.Stream.{HasReadPlaces, pages_read, frames_in, marked_in, frame_at, place_block, told}
use Rattle.image_read.specs.Taking as taking
use Rattle.placement.specs.Waiting as waiting

-- all page frames that an image lists, and those of them without a data page
abbrev pub listed_frames : Hardware → disk.DiskImage → List ℕ
listed_frames h v = frames_in h v (info_in h v).image_pages

abbrev pub listed_marks : Hardware → disk.DiskImage → List ℕ
listed_marks h v = marked_in h v (info_in h v).image_pages

-- the number of data pages among the first t places
abbrev pub data_before : Hardware → disk.DiskImage → ℕ → ℕ
data_before h v t = pages_read t - 1 - meta_in h v

-- The page frames with data pages are those listed without a mark, by the reader's definition and by that of the
-- waiting pages.
abbrev pub ReadsWithData : Type 0
ReadsWithData =
    (h : Hardware) (v : disk.DiskImage) → IsStrictlyIncreasing (listed_frames h v) →
    taking.with_data (listed_frames h v) (listed_marks h v) ≡ data_frames h v

abbrev pub WaitsWithData : Type 0
WaitsWithData =
    (h : Hardware) (v : disk.DiskImage) → IsStrictlyIncreasing (listed_frames h v) →
    waiting.with_data (listed_frames h v) (listed_marks h v) ≡ data_frames h v

-- once the numbers are listed, the reader's sets are the image's
pub record AreListed (h : Hardware) (v : disk.DiskImage) (n : ℕ) (origs zeros : List ℕ) : Type 0 where
  pub count : n ≡ (info_in h v).image_pages
  pub frames : origs ≡ listed_frames h v
  pub marks : zeros ≡ listed_marks h v
  pub rising : IsStrictlyIncreasing (listed_frames h v)
  pub paged : waiting.with_data origs zeros ≡ data_frames h v

abbrev pub ListedSets : Type 0
ListedSets =
    (h : Hardware) (v : disk.DiskImage) (check : IdentCheck) (r : Reading) (t n : ℕ) (origs zeros : List ℕ) →
    HasReadPlaces h v check r t origs zeros →
    r.listed ≡ Some n → AreListed h v n origs zeros

abbrev pub DataCount : Type 0
DataCount = (h : Hardware) (v : disk.DiskImage) → length (data_frames h v) ≡ d_in h v

-- The place whose page belongs to page frame p has the next data page.
pub record IsNextPage (h : Hardware) (v : disk.DiskImage) (t p : ℕ) : Type 0 where
  pub within : data_before h v t < length (data_frames h v)
  pub frame : slice_get (data_frames h v) (data_before h v t) ≡ Some p
  pub page : disk.block v (place_block h v (place t)) ≡ data_page h v (data_before h v t)
  pub counted : data_before h v (t + 1) ≡ data_before h v t + 1

abbrev pub NextPage : Type 0
NextPage = (h : Hardware) (v : disk.DiskImage) (t p : ℕ) → frame_at h v (place t) ≡ Some p → IsNextPage h v t p

-- a place that was read and has no data page
abbrev pub NoPage : Type 0
NoPage =
    (h : Hardware) (v : disk.DiskImage) (check : IdentCheck) (r : Reading) (t : ℕ) (origs zeros : List ℕ) →
    HasReadPlaces h v check r (t + 1) origs zeros →
    frame_at h v (place t) ≡ None → data_before h v (t + 1) ≡ data_before h v t

-- until all numbers are read there is no data page, and at the end all of them are read
abbrev pub NoneBefore : Type 0
NoneBefore = (h : Hardware) (v : disk.DiskImage) (t : ℕ) → told h v (pages_read t) ≡ None → data_before h v t ≡ 0

abbrev pub AllRead : Type 0
AllRead =
    (h : Hardware) (v : disk.DiskImage) (check : IdentCheck) (r : Reading) (t : ℕ) (origs zeros : List ℕ) →
    HasReadPlaces h v check r t origs zeros →
    1 ≤ pages_read t → t ≡ place_count (info_in h v).pages → data_before h v t ≡ length (data_frames h v)

-- Over a disk that holds an image of the machine: how many of its data pages are read, and which.
abbrev pub OwnRead : Type 0
OwnRead =
    (h : Hardware) (v : disk.DiskImage) (i : Image) (t : ℕ) → Holds h v i → IsSayable i →
    data_read i (4 + t) ≡ data_before h v t

abbrev pub OwnFrames : Type 0
OwnFrames =
    (h : Hardware) (v : disk.DiskImage) (i : Image) → Holds h v i → IsSayable i →
    data_frames h v ≡ map (λ saved. saved.0) (with_data i)

abbrev pub OwnPages : Type 0
OwnPages =
    (h : Hardware) (v : disk.DiskImage) (i : Image) (m : ℕ) → Holds h v i → IsSayable i → m ≤ d_of i →
    zip (take m (data_frames h v)) (data_pages h v m) ≡ take m (with_data i)
