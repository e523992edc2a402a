-- What a power cut during an import might have left, over several calls of a disk that tells moments. `past` and
-- `since` are the images that a cut since a moment might have left, before the calls and after them.
use Rattle.std.specs.Prelude.{◌≡◌, ◌⊎◌, ◌<◌, ◌≤◌, ℕ, ◌/◌, List, [], length, None, Contains, slice_index_or}
use Rattle.definitions.specs.Disk.{Content, DiskImage, IsImage, as_it_reads, block, sector, sector_bytes}
use Rattle.definitions.specs.SwapHeader.{IsMarked, marked, taken_back}
use Rattle.image_format.specs.AreaKind.{area_kind}
use Rattle.plain_machine.specs.UsableArea.{kind_fault}
use Rattle.image_format.specs.declared.signature.area.Area.{Area}
use Rattle.stream_in.specs.Holding.{HasComeIn, IsReadyFor}
use Rattle.stream_in.specs.Outside.{IsBlockOf}

-- Calls that don't change what a cut may leave.
pub record ElapsesAlike (before now : ℕ) (past since : ℕ → DiskImage → Type 0) : Type 0 where
  pub later : before ≤ now
  pub keeps : (t : ℕ) (v : DiskImage) → t ≤ before → past t v → since t v
  pub nothing_else : (t : ℕ) (v : DiskImage) → t ≤ before → since t v → past t v

-- two images that differ at most in the blocks of these slots
pub record AgreeOutside (extents : List (ℕ × ℕ × ℕ)) (free : List ℕ) (u v : DiskImage) : Type 0 where
  pub size : length v ≡ length u
  pub others : (s : ℕ) → s < length u → (IsBlockOf extents free (s / 8) → ⊥) →
      slice_index_or v s [] ≡ slice_index_or u s []

-- Each header block that a cut might leave after the calls, since a moment before them, it might have left before too.
abbrev pub AddsNoHeader : ℕ → (ℕ → DiskImage → Type 0) → (ℕ → DiskImage → Type 0) → Type 0
AddsNoHeader before past since =
    (t : ℕ) (v : DiskImage) → t ≤ before → since t v → (u : DiskImage) × past t u × (block v 0 ≡ block u 0)

-- Calls that write to these slots' blocks: outside those blocks, what a cut might leave after the calls, since a moment
-- before them, it might have left before too.
pub record ElapsesOutside (extents : List (ℕ × ℕ × ℕ)) (free : List ℕ) (before now : ℕ) (past since : ℕ → DiskImage →
    Type 0) : Type 0 where
  pub later : before ≤ now
  pub keeps : (t : ℕ) (v : DiskImage) → t ≤ before → past t v → since t v
  pub nothing_else : (t : ℕ) (v : DiskImage) → t ≤ before → since t v → (u : DiskImage) × past t u
      × AgreeOutside extents free u v

-- Sector s of an image that reads as u, or of u with this page as its header block, or with that page taken back.
abbrev pub IsSectorOver : List ℕ → DiskImage → ℕ → List ℕ → Type 0
IsSectorOver page u s x =
    (x ≡ slice_index_or u s []) ⊎ ((s < 8) × ((x ≡ sector_bytes page s) ⊎ (x ≡ sector_bytes (taken_back page) s)))

-- each candidate of each sector of the content is such a sector
pub record LiesOver (page : List ℕ) (u : DiskImage) (c : Content) : Type 0 where
  pub size : length c ≡ length u
  pub each : (s : ℕ) (x : List ℕ) → s < length u → Contains (sector c s).candidates x → IsSectorOver page u s x

-- each sector of the image v is such a sector
pub record ReadsOver (page : List ℕ) (u v : DiskImage) : Type 0 where
  pub size : length v ≡ length u
  pub each : (s : ℕ) → s < length u → IsSectorOver page u s (slice_index_or v s [])

-- Calls that write this page, or this page taken back, to the header block.
pub record ElapsesTrying (page : List ℕ) (u : DiskImage) (before now : ℕ) (past since : ℕ → DiskImage →
    Type 0) : Type 0 where
  pub later : before ≤ now
  pub keeps : (t : ℕ) (v : DiskImage) → t ≤ before → past t v → since t v
  pub nothing_else : (t : ℕ) (v : DiskImage) → t ≤ before → since t v → past t v ⊎ ReadsOver page u v

-- An image that reads as the disk did except for the header block. That was one of an area without an image, and is now
-- the marked one, whole, or the marked one taken back.
pub record IsTried (page : List ℕ) (u v : DiskImage) : Type 0 where
  pub area : kind_fault (area_kind (block u 0)) ≡ None
  pub size : length v ≡ length u
  pub others : (b : ℕ) → 0 < b → block v b ≡ block u b
  pub header : (block v 0 ≡ page) ⊎ (block v 0 ≡ taken_back page)

-- A cut leaves no image that it might not have left before.
abbrev pub AddsNoImage : Content → Content → Type 0
AddsNoImage old new = (v : DiskImage) → IsImage new v → IsImage old v

-- An attempt to mark an image whose first map lies at this block: each image is one from before, or reads as the disk
-- did except that the header block is marked, or marked and taken back.
abbrev pub TriesMark : ℕ → Content → Content → Type 0
TriesMark first old new =
    (v : DiskImage) → IsImage new v → IsImage old v
    ⊎ IsTried (marked (block (as_it_reads old) 0) first 2 0) (as_it_reads old) v

-- The same for the moments since one before: a cut leaves what it might have left before, or the disk as it read, with
-- the header block marked, or marked and taken back. So until the mark is written, the header block is one from before.
pub record ElapsesOverMark (first : ℕ) (before now : ℕ) (past since : ℕ → DiskImage →
    Type 0) (old : Content) : Type 0 where
  pub later : before ≤ now
  pub keeps : (t : ℕ) (v : DiskImage) → t ≤ before → past t v → since t v
  pub nothing_else : (t : ℕ) (v : DiskImage) → t ≤ before → since t v → past t v
      ⊎ IsTried (marked (block (as_it_reads old) 0) first 2 0) (as_it_reads old) v

-- If the disk was ready for the stream, a marked image that a cut might leave now but not before has the whole stream.
abbrev pub MarksWhole : Area → List ℕ → List ℕ → ℕ → (ℕ → DiskImage → Type 0) → (ℕ → DiskImage → Type 0) → Content →
    Type 0
MarksWhole area free bs before past since old =
    IsReadyFor area free bs (as_it_reads old) → (t : ℕ) (v : DiskImage) → t ≤ before → since t v →
    IsMarked (block v 0) → past t v ⊎ HasComeIn area bs v

-- The same for the images of a disk.
abbrev pub LeavesWhole : Area → List ℕ → List ℕ → Content → Content → Type 0
LeavesWhole area free bs old new =
    IsReadyFor area free bs (as_it_reads old) → (v : DiskImage) → IsImage new v → IsMarked (block v 0) → IsImage old v
    ⊎ HasComeIn area bs v
