use Rattle.std.proofs.Common.{ℕ, ◌<◌, ◌≤◌}
use Rattle.definitions.specs.Zones.{zone_end, zone_at}
use Rattle.frame_sets.proofs.zones.Zones.next.Given as goal

-- the zones so far lie below p
abbrev pub invariant-loop-start : goal.invariant-loop-start
invariant-loop-start l = (j : ℕ) → j < l.start-index → zone_end (zone_at l.start-items j) ≤ l.p
