-- What a step of a resume needs of the machine, whatever its disk tells.
use Rattle.std.specs.Prelude.{◌≡◌, ◌≤◌, ◌<◌, ◌^◌, ℕ, length, true, None, IsOk, IfOk, ⊤, [], List}
use Rattle.definitions.specs.Zones.{top}
use Rattle.swap_slots.specs.Runs.{SlotRuns}
use Rattle.swap_slots.specs.Table.{LiesIn, Matches}
use Rattle.plain_machine.specs.Machine.{Memory, IsHardware, block_of_slot}
use Rattle.plain_machine.specs.UsableArea.{fit_fault}
use Rattle.plain_machine.specs.declared.held.Held.TheVariants.{No}
use Rattle.image_read.specs.Reading.{Reading, IsReady}
use Rattle.machine.specs.Flights.{flights_in}
use Rattle.machine.specs.Running.{AreReserved, slot_table_of}
use Rattle.machine.specs.declared.machine.Machine.{Machine}
use Rattle.unmark.specs.Unmarking.{IsPastRead}
use Rattle.resume_core.specs.declared.load.Load.{Load}
use Rattle.resume_core.specs.declared.load.Stage.{Stage}
use Rattle.resume_core.specs.declared.load.Stage.TheVariants as stage

-- a resume is under way
abbrev pub is_busy_at : Stage → Type 0
is_busy_at stage.Rest = ⊥
is_busy_at stage.Runs = ⊥
is_busy_at _ = ⊤

-- the next step takes the mark back, by a write or a sync
abbrev pub takes_back_at : Stage → Type 0
takes_back_at (stage.Back unmark mark) = ⊤
takes_back_at _ = ⊥

-- the next step reads a map, the info page or a number page
abbrev pub lists_at : Stage → Type 0
lists_at (stage.List chain) = ⊤
lists_at _ = ⊥

-- the next step reads a map or a saved page
abbrev pub reads_at : Stage → Type 0
reads_at (stage.Read chain) = ⊤
reads_at _ = ⊥

abbrev pub IsBusy : Load → Type 0
IsBusy load = is_busy_at load.stage

-- a reader that can go on, over a disk of `blocks` blocks
pub record CanRead (blocks : ℕ) (reader : Reading) (origs zeros : List ℕ) : Type 0 where
  pub ready : IsReady reader origs zeros
  pub within : reader.blocks ≤ blocks

-- no page frame is listed yet
abbrev pub NoneListed : Load → Type 0
NoneListed load = (load.origs.members ≡ []) × (load.zeros.members ≡ [])

-- each slot of the area, if there is one, is on a block of the disk
abbrev pub IsUsable : Machine → Type 0
IsUsable machine = IfOk machine.area (λ area. fit_fault machine.hw machine.blocks area ≡ None)

-- a machine that runs on after a resume: its tables are nobody's, nothing is held, and no task has an unfinished
-- operation
pub record RunsOn (machine : Machine) (frames : Memory) (runs : SlotRuns) : Type 0 where
  pub area : IsOk machine.area
  pub usable : IsUsable machine
  pub matches : Matches frames (slot_table_of machine.hw) runs
  pub unheld : machine.held ≡ No
  pub reserved : AreReserved machine.hw frames
  pub idle : (t : ℕ) → flights_in machine.flights t ≡ None

-- what the next step needs, and what holds after the last one
abbrev pub CanMake : Stage → Machine → Memory → SlotRuns → Load → Type 0
CanMake stage.Runs machine frames runs load = RunsOn machine frames runs
CanMake stage.Rest machine frames runs load = ⊤
CanMake stage.Sync machine frames runs load = NoneListed load
CanMake stage.Find machine frames runs load = NoneListed load
CanMake (stage.Back unmark mark) machine frames runs load =
    IsPastRead unmark.next × (block_of_slot machine.hw 0 < machine.blocks) × NoneListed load
CanMake (stage.List chain) machine frames runs load =
    CanRead machine.blocks chain.reader load.origs.members load.zeros.members × (4 ≤ chain.done)
CanMake (stage.Read chain) machine frames runs load =
    CanRead machine.blocks chain.reader load.origs.members load.zeros.members × (4 ≤ chain.done)
    × (load.waiting.placement.ready ≡ true)

-- A resume on this machine: memory has the machine's page frames, the runs have room for its slots, and the sets are
-- over its zones.
pub record IsOverMachine (machine : Machine) (frames : Memory) (runs : SlotRuns) (load : Load) : Type 0 where
  pub hardware : IsHardware machine.hw
  pub few : machine.blocks < 2 ^ 32
  pub size : length frames ≡ top machine.hw.zones
  pub table : LiesIn frames (slot_table_of machine.hw)
  pub room : machine.hw.slots ≤ runs.room
  pub origs : load.origs.zones ≡ machine.hw.zones
  pub zeros : load.zeros.zones ≡ machine.hw.zones
  pub waiting : load.waiting.zones ≡ machine.hw.zones

-- What a begin needs: memory has the machine's page frames, and the sets are over its zones.
pub record CanBegin (machine : Machine) (frames : Memory) (load : Load) : Type 0 where
  pub size : length frames ≡ top machine.hw.zones
  pub origs : load.origs.zones ≡ machine.hw.zones
  pub zeros : load.zeros.zones ≡ machine.hw.zones
  pub waiting : load.waiting.zones ≡ machine.hw.zones

pub record CanStep (machine : Machine) (frames : Memory) (runs : SlotRuns) (load : Load) : Type 0 where
  pub over : IsOverMachine machine frames runs load
  pub next : CanMake load.stage machine frames runs load

-- the hardware and the disk's number of blocks stay the same
pub record IsSameMachine (old new : Machine) : Type 0 where
  pub hw : new.hw ≡ old.hw
  pub blocks : new.blocks ≡ old.blocks
