use Rattle.std.proofs.Common.{◌≡◌, ℕ, ◌<◌, ◌≤◌}
use Rattle.definitions.specs.ZoneFacts.{InZone}
use Rattle.frame_sets.proofs.Members.{bit_in}
use Rattle.frame_sets.proofs.bitmap.Bitmap.first_from.Given as goal

-- no block so far has a member at or above p
abbrev pub invariant-loop-b : goal.invariant-loop-b
invariant-loop-b l =
    (j q : ℕ) → j < l.b → InZone l.self-inside.runs.items q j → l.p ≤ q → bit_in l.self-inside.runs.items l.self-inside.bits.items q j ≡ 1 → ⊥
