-- The slot table of fresh memory.
use Rattle.std.specs.Prelude.{ℕ, Result, Ok, Err, if◌then◌else◌}
use Rattle.image_format.specs.declared.signature.area.Area.{Area}
use Rattle.plain_machine.specs.Machine.{bad_slot}
use Rattle.plain_machine.specs.Loader.{has}
use Rattle.plain_machine.specs.UsableArea.{bad_slots_of}
use Rattle.plain_machine.specs.declared.no_swap.NoSwap.{NoSwap}

-- the entry of a slot: bad if the area names it, or if the area can't be used
abbrev pub slot_of_area : Result Area NoSwap → ℕ → ℕ
slot_of_area (Ok area) s = if has (bad_slots_of area) s then bad_slot else 0
slot_of_area (Err why) s = bad_slot
