-- A disk that holds an image decodes to that image.
use Rattle.std.specs.Prelude.{◌≡◌, ℕ, ◌+◌, ◌<◌, [], List, All, Contains, slice_index_or}
use Rattle.definitions.specs.Disk as disk
use Rattle.definitions.specs.InfoPage.{IsInfo}
use Rattle.definitions.specs.NumberPages.{zero_bit}
use Rattle.definitions.specs.Tables.{frame}
use Rattle.page_core.specs.declared.format.Format.{Format}
use Rattle.plain_machine.specs.Machine.{Hardware, Memory, IsHardware, saveable}
use Rattle.plain_machine.specs.Image.{Image, SlotPages, n_of, d_of, numbers_of, with_data, info_of_image}
use Rattle.plain_machine.specs.Image.{image_of_memory}
use Rattle.plain_machine.specs.Chain.{Holds}
use Rattle.plain_machine.specs.Trace.{info_in, number_in, stream_page, meta_in, image_in, restored_in}
use Rattle.plain_machine.specs.declared.event.Loader.{Loader}

-- An image that its pages can represent: the info page's fields fit, numbers are below 2^63, and no page frame is saved
-- twice with different pages.
pub record IsSayable (i : Image) : Type 0 where
  pub info : IsInfo (info_of_image i)
  pub numbers : All (λ saved. saved.0 < zero_bit) i.frames
  pub one_page : (s t : ℕ × List ℕ) → Contains i.frames s → Contains i.frames t → s.0 ≡ t.0 → s.1 ≡ t.1

-- each image of a memory can be represented
abbrev pub MemoriesAreSayable : Type 0
MemoriesAreSayable =
    (h : Hardware) (m : Memory) (slots : SlotPages) (f : Format) → IsHardware h →
    IsSayable (image_of_memory h m slots f)

-- the info page says the image's identity and counts
abbrev pub SaysInfo : Type 0
SaysInfo = (h : Hardware) (v : disk.DiskImage) (i : Image) → Holds h v i → IsSayable i → info_in h v ≡ info_of_image i

-- number j is that of saved page j
abbrev pub SaysNumbers : Type 0
SaysNumbers =
    (h : Hardware) (v : disk.DiskImage) (i : Image) → Holds h v i → IsSayable i →
    (j : ℕ) → j < n_of i → number_in h v j ≡ slice_index_or (numbers_of i) j 0

-- data page k is the page of the k-th saved page that has one
abbrev pub SaysPages : Type 0
SaysPages =
    (h : Hardware) (v : disk.DiskImage) (i : Image) → Holds h v i → IsSayable i →
    (k : ℕ) → k < d_of i → stream_page h v (1 + meta_in h v + k) ≡ (slice_index_or (with_data i) k (0, [])).1

-- [decodes]: the disk decodes to the image
abbrev pub Decodes : Type 0
Decodes = (h : Hardware) (v : disk.DiskImage) (i : Image) → Holds h v i → IsSayable i → image_in h v i.slots ≡ i

-- [resumes]: from a disk that holds the image of a memory, each saveable page frame gets its page back
abbrev pub ResumesMemory : Type 0
ResumesMemory =
    (h : Hardware) (m : Memory) (slots : SlotPages) (f : Format) (dump : Memory) (loader : Loader)
    (v : disk.DiskImage) →
    IsHardware h → Holds h v (image_of_memory h m slots f) →
    (p : ℕ) → Contains (saveable h m) p → frame (restored_in h dump v loader) p ≡ frame m p
