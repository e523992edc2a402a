use Rattle.std.proofs.Common.{ℕ, ◌<◌, ◌≤◌, ◌-◌}
use Rattle.definitions.specs.Slots.{extent_at}
use Rattle.swap_slots.proofs.file_map.FileMap.slot_of.Given as goal

-- no extent before this one has the block
abbrev pub invariant-loop-start : goal.invariant-loop-start
invariant-loop-start l =
    (i : ℕ) → i < l.start-index → (extent_at l.self i).2 ≤ l.block → l.block - (extent_at l.self i).2 < (extent_at l.self i).1 → ⊥
