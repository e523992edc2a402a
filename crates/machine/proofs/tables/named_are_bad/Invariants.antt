use Rattle.std.proofs.Common.{◌≡◌, ◌<◌, ℕ, get_or}
use Rattle.plain_machine.specs.Machine.{bad_slot, raw_slot_entry}
use Rattle.machine.proofs.tables.named_are_bad.Given as goal

abbrev pub invariant-loop-slot : goal.invariant-loop-slot
invariant-loop-slot l = (k : ℕ) → k < l.slot-index → get_or l.slot-items k 0 < l.hw.slots → raw_slot_entry l.hw l.frames (get_or l.slot-items k 0) ≡ bad_slot
