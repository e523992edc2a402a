-- The blocks that the import of an image doesn't write.
use Rattle.std.specs.Prelude.{◌≡◌, ◌<◌, ◌≤◌, ◌⊎◌, ℕ, ◌+◌, ◌*◌, Bool, true, false, List, length, Option, None, Some}
use Rattle.definitions.specs.Disk.{Content, Syncs, as_it_reads, sector, settled}
use Rattle.image_write.specs.Writing.{Writing}
use Rattle.plain_machine.specs.Image.{laid_block}

-- a block of one of these slots
abbrev pub IsBlockOf : List (ℕ × ℕ × ℕ) → List ℕ → ℕ → Type 0
IsBlockOf extents free b = (place : ℕ) × (place < length free) × (b ≡ laid_block extents free place)

-- each sector outside the blocks of these slots is as before, in what it reads and in what a cut may leave of it
pub record KeepsOutside (extents : List (ℕ × ℕ × ℕ)) (free : List ℕ) (old new : Content) : Type 0 where
  pub size : length new ≡ length old
  pub others : (b j : ℕ) → j < 8 → (IsBlockOf extents free b → ⊥) → sector new (8 * b + j) ≡ sector old (8 * b + j)

-- The disk, synced if requested: then it has one image, which is what the disk read.
abbrev pub IsAtRest : Bool → Content → Content → Type 0
IsAtRest true old new = Syncs old new
IsAtRest false old new = new ≡ old

-- A page is put. The first page goes to a disk that has one image, so that no cut brings back an older header block
-- than the one that was read; a later page goes to the disk as it is.
abbrev pub PutsAtRest : List (ℕ × ℕ × ℕ) → List ℕ → Option Writing → Content → Content → Type 0
PutsAtRest extents free None old new = KeepsOutside extents free (settled (as_it_reads old)) new
PutsAtRest extents free (Some w) old new = KeepsOutside extents free old new

-- or nothing was written
abbrev pub FailsAtRest : List (ℕ × ℕ × ℕ) → List ℕ → Option Writing → Content → Content → Type 0
FailsAtRest extents free w old new = (new ≡ old) ⊎ PutsAtRest extents free w old new

-- What the writes of a stream leave after the first `taken` bytes have come. Those of the first page, which is whole at
-- 4096 bytes, are made to a disk that has one image.
pub record KeepsAtRest (extents : List (ℕ × ℕ × ℕ)) (free : List ℕ) (taken : ℕ) (old new : Content) : Type 0 where
  pub first : taken < 4096 → KeepsOutside extents free (settled (as_it_reads old)) new
  pub later : 4096 ≤ taken → KeepsOutside extents free old new

-- The stream has grown from `taken` bytes to `now`. Nothing is written until its first page is whole.
pub record WritesAtRest (extents : List (ℕ × ℕ × ℕ)) (free : List ℕ) (taken now : ℕ) (old new : Content) : Type 0 where
  pub early : now < 4096 → new ≡ old
  pub late : 4096 ≤ now → KeepsAtRest extents free taken old new

-- The stream stops after more bytes than these: nothing was written, or what KeepsAtRest allows.
abbrev pub StopsAtRest : List (ℕ × ℕ × ℕ) → List ℕ → ℕ → Content → Content → Type 0
StopsAtRest extents free taken old new = (new ≡ old) ⊎ KeepsAtRest extents free taken old new
