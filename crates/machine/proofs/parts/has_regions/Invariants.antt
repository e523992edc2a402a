use Rattle.std.proofs.Common.{◌≡◌, ◌<◌, ℕ, true}
use Rattle.machine.specs.HardFault.{hardware_of, is_region_at}
use Rattle.machine.proofs.parts.has_regions.Given as goal

abbrev pub invariant-loop-k : goal.invariant-loop-k
invariant-loop-k l = (j : ℕ) → j < l.k → is_region_at (hardware_of l.parts) j ≡ true
