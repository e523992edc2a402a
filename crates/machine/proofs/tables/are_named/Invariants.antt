use Rattle.std.proofs.Common.{◌≡◌, ◌<◌, ℕ, true}
use Rattle.plain_machine.specs.Loader.{has}
use Rattle.plain_machine.specs.Machine.{bad_slot, raw_slot_entry}
use Rattle.plain_machine.specs.UsableArea.{bad_slots_of}
use Rattle.machine.proofs.tables.are_named.Given as goal

abbrev pub invariant-loop-slot : goal.invariant-loop-slot
invariant-loop-slot l = (s : ℕ) → s < l.slot → raw_slot_entry l.hw l.frames s ≡ bad_slot → has (bad_slots_of l.area) s ≡ true
