use Rattle.std.proofs.Common.{◌≡◌, ℕ, ◌<◌, ◌≤◌, [], length, slice_index_or}
use Rattle.sector_disk.specs.Sectors.{zero_sector}
use Rattle.sector_disk.proofs.sectors.copy_first.Given as goal

-- the first sectors are copied, and the zeros so far
abbrev pub invariant-loop-s : goal.invariant-loop-s
invariant-loop-s l = record {
  first : (i : ℕ) → i < length l.from → slice_index_or l.into i [] ≡ slice_index_or l.from i [];
  zeros : (i : ℕ) → length l.from ≤ i → i < l.s → slice_index_or l.into i [] ≡ zero_sector;
}
