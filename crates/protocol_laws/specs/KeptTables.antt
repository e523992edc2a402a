-- What memories that are the same have in common besides their pages.
use Rattle.std.specs.Prelude.{◌≡◌, ◌<◌, ℕ, All, length}
use Rattle.definitions.specs.Bytes.{IsPage}
use Rattle.definitions.specs.FreeRuns.{free_runs}
use Rattle.definitions.specs.Zones.{top}
use Rattle.plain_machine.specs.Machine.{Hardware, Memory, IsHardware, Fits, IsSameMemory, raw_slot_entry}

-- page frames that are the same as a memory whose tables are well formed have well formed tables
abbrev pub FitsCarried : Type 0
FitsCarried =
    (h : Hardware) (m n : Memory) → IsHardware h → Fits h m → IsSameMemory h m n → All IsPage n →
    length n ≡ top h.zones → Fits h n

-- memories with the same slot entries have the same runs of free slots
abbrev pub RunsSame : Type 0
RunsSame =
    (h : Hardware) (m n : Memory) → ((k : ℕ) → k < h.slots → raw_slot_entry h n k ≡ raw_slot_entry h m k) →
    free_runs h.slots h.slot_table n ≡ free_runs h.slots h.slot_table m
