use Rattle.std.proofs.Common.{ℕ, ◌<◌}
use Rattle.stream_out.specs.Bytes.{IsTaskSlot}
use Rattle.stream_out.proofs.slots.first_task_slot.Given as goal

abbrev pub invariant-loop-slot : goal.invariant-loop-slot
invariant-loop-slot l = (s : ℕ) → s < l.slot → IsTaskSlot l.hw l.frames s → ⊥
