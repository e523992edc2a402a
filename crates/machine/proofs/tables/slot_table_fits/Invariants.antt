use Rattle.std.proofs.Common.{◌≡◌, ◌+◌, ◌<◌, ℕ, false}
use Rattle.plain_machine.specs.Machine.{is_table_at_fault}
use Rattle.machine.proofs.tables.slot_table_fits.Given as goal

abbrev pub invariant-loop-i : goal.invariant-loop-i
invariant-loop-i l = (j : ℕ) → j < l.i → is_table_at_fault l.hw l.frames (l.hw.slot_table + j) ≡ false
