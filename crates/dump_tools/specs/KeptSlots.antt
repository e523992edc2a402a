-- The slots of the fresh memory that a boot without a disk makes: no header names the bad ones, so the slots that were
-- bad stay bad.
use Rattle.std.specs.Prelude.{ℕ, ◌==◌, ◌||◌, if◌then◌else◌}
use Rattle.plain_machine.specs.Machine.{Hardware, Memory, raw_slot_entry, bad_slot}

-- the new entry of slot s: bad if it was bad, and for slot 0, which has the header; else free
abbrev pub kept_entry : ℕ → ℕ → ℕ
kept_entry s before = if (s == 0) || (before == bad_slot) then bad_slot else 0

-- the new entry of slot s of a machine's memory
abbrev pub kept_slot : Hardware → Memory → ℕ → ℕ
kept_slot h m s = kept_entry s (raw_slot_entry h m s)
