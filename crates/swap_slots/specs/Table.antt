-- The slot table, and when runs of free slots are those of a table.
use Rattle.std.specs.Prelude.{◌≡◌, ◌≤◌, ◌⊎◌, ℕ, List}
use Rattle.definitions.specs.Tables.{free_slots, image_slots}
use Rattle.definitions.specs.FreeRuns.{free_runs}
use Rattle.definitions.specs.Tables.{HasTable}
use Rattle.swap_slots.specs.Runs.{SlotRuns}
use Rattle.swap_slots.specs.declared.table.SlotTable.{SlotTable}

-- who may take a slot: a task from 1 to 64, or the image
abbrev pub IsOwner : ℕ → Type 0
IsOwner owner = ((1 ≤ owner) × (owner ≤ 64)) ⊎ (owner ≡ 65536)

-- memory has the page frames of the table
abbrev pub LiesIn : List (List ℕ) → SlotTable → Type 0
LiesIn frames table = HasTable frames table.first table.slots

-- the table's free slots, ascending
abbrev pub free_in : List (List ℕ) → SlotTable → List ℕ
free_in frames table = free_slots table.slots table.first frames

-- the image's slots, ascending
abbrev pub image_in : List (List ℕ) → SlotTable → List ℕ
image_in frames table = image_slots table.slots table.first frames

-- the runs are those of the table's free slots, and there is room for all of its slots
pub record Matches (frames : List (List ℕ)) (table : SlotTable) (free : SlotRuns) : Type 0 where
  pub room : table.slots ≤ free.room
  pub runs : free.runs ≡ free_runs table.slots table.first frames
