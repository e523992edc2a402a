-- What a crash at any moment of a discard may leave.
use Rattle.std.specs.Prelude.{◌≡◌, ℕ, ◌+◌, ◌*◌, ◌<◌, ◌⊎◌, List, [], Contains, length, slice_index_or}
use Rattle.definitions.specs.Disk.{Content, DiskImage, as_it_reads, block, sector, sector_bytes}
use Rattle.definitions.specs.SwapHeader.{IsMarked, taken_back}

-- A sector is one that a crash might have left before the discard; or, in a header block that is marked, that of the
-- block with its mark taken back.
abbrev pub IsLeft : ℕ → List ℕ → Content → ℕ → List ℕ → Type 0
IsLeft header page old s bytes =
    Contains (sector old s).candidates bytes
    ⊎ (IsMarked page × ((j : ℕ) × ((j < 8) × (s ≡ 8 * header + j) × (bytes ≡ sector_bytes (taken_back page) j))))

-- each sector of the disk is left in such a state
pub record IsCrash (header : ℕ) (old : Content) (v : DiskImage) : Type 0 where
  pub size : length v ≡ length old
  pub each : (s : ℕ) → s < length v → IsLeft header (block (as_it_reads old) header) old s (slice_index_or v s [])
