use Rattle.std.proofs.Common.{◌≡◌, ◌<◌, ℕ, [], length, get_or}
use Rattle.definitions.specs.Zones.{zone_at}
use Rattle.frame_sets.specs.Bits.{HasFirstBits}
use Rattle.frame_sets.proofs.bitmap.fill_blocks.Given as goal

abbrev pub invariant-loop-b : goal.invariant-loop-b
invariant-loop-b l = (length l.bits ≡ length l.runs) × ((j : ℕ) → j < l.b → HasFirstBits (zone_at l.runs j).1 (get_or l.bits j []))
