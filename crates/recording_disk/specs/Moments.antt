-- What a power cut at some moment might have left of a disk that began with one image, given its recorded calls.
use Rattle.std.specs.Prelude.{ℕ, ◌+◌, ◌≤◌, List, length, take}
use Rattle.definitions.specs.Disk.{Content, DiskImage, IsMixture}
use Rattle.sector_disk.specs.Recorded.{held_after}
use Rattle.sector_disk.specs.declared.recorded.Recorded.{Recorded}

-- the content after the first k of these calls, or after all if there are fewer
abbrev pub held_at : DiskImage → List Recorded → ℕ → Content
held_at start log k = held_after start (take k log)

-- A power cut after k of these calls, at moment t or later, might have left this image. It came before the next call or
-- during it, when the call may have done its work for some sectors.
abbrev pub WasLeft : DiskImage → List Recorded → ℕ → DiskImage → Type 0
WasLeft start log t v =
    (k : ℕ) × (t ≤ k) × (k ≤ length log) × IsMixture (held_at start log k) (held_at start log (k + 1)) v
