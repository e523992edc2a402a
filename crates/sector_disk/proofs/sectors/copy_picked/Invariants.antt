use Rattle.std.proofs.Common.{◌≡◌, ℕ, ◌+◌, ◌<◌, ◌≤◌, if◌then◌else◌, [], slice_index_or}
use Rattle.sector_disk.specs.Sectors.{picks}
use Rattle.sector_disk.proofs.sectors.copy_picked.Given as goal

-- the sectors so far are picked, the others are as before
abbrev pub invariant-loop-s : goal.invariant-loop-s
invariant-loop-s l = record {
  done : (i : ℕ) → i < l.s → slice_index_or l.into i [] ≡ (if picks l.pick (l.first + i) then slice_index_or l.from i [] else slice_index_or l.fn.into i []);
  left : (i : ℕ) → l.s ≤ i → slice_index_or l.into i [] ≡ slice_index_or l.fn.into i [];
}
