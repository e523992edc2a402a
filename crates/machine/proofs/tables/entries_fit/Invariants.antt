use Rattle.std.proofs.Common.{◌≡◌, ◌*◌, ◌≤◌, ◌<◌, ℕ, true}
use Rattle.std.specs.List.{Contains}
use Rattle.definitions.specs.Zones.{numbers}
use Rattle.plain_machine.specs.Machine.{frame_entry, is_well_formed}
use Rattle.machine.proofs.tables.entries_fit.Given as goal

abbrev pub invariant-loop-p : goal.invariant-loop-p
invariant-loop-p l = (p : ℕ) → 1024 * l.i ≤ p → p < l.p → Contains (numbers l.hw.zones) p → is_well_formed (frame_entry l.hw l.frames p) ≡ true
