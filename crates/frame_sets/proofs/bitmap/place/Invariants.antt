use Rattle.std.proofs.Common.{ℕ, ◌<◌}
use Rattle.definitions.specs.ZoneFacts.{InZone}
use Rattle.frame_sets.proofs.bitmap.place.Given as goal

-- no block so far has the page frame
abbrev pub invariant-loop-b : goal.invariant-loop-b
invariant-loop-b l = (j : ℕ) → j < l.b → InZone l.runs l.p j → ⊥
