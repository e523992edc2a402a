use Rattle.std.proofs.Common.{◌≡◌, ◌*◌, ◌≤◌, ◌<◌, ℕ, true}
use Rattle.plain_machine.specs.Machine.{is_slot_entry, raw_slot_entry}
use Rattle.machine.proofs.tables.slots_fit.Given as goal

abbrev pub invariant-loop-slot : goal.invariant-loop-slot
invariant-loop-slot l = (s : ℕ) → 1024 * l.i ≤ s → s < l.slot → is_slot_entry s (raw_slot_entry l.hw l.frames s) ≡ true
