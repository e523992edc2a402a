-- A machine that can run: what its tasks' requests and their ends need, whatever the disk tells of its content.
use Rattle.std.specs.Prelude.{◌≡◌, ◌≢◌, ◌<◌, ℕ, List, length, Option, Some, None, Result, Ok, Err, IfOk, Contains}
use Rattle.definitions.specs.Tables.{owner_of}
use Rattle.definitions.specs.Zones.{numbers, top}
use Rattle.image_format.specs.declared.signature.area.Area.{Area}
use Rattle.swap_slots.specs.Runs.{SlotRuns}
use Rattle.swap_slots.specs.Table.{Matches}
use Rattle.swap_slots.specs.declared.table.SlotTable.{SlotTable}
use Rattle.plain_machine.specs.Machine.{IsTask}
use Rattle.plain_machine.specs.Machine.{Hardware, Memory, IsTableFrame, block_of_slot, frame_entry}
use Rattle.plain_machine.specs.State.{goes_out, comes_in}
use Rattle.plain_machine.specs.UsableArea.{fit_fault}
use Rattle.plain_machine.specs.declared.no_swap.NoSwap.{NoSwap}
use Rattle.machine.specs.Flights.{flights_in}
use Rattle.machine.specs.declared.flight.Flight.{Flight}
use Rattle.machine.specs.declared.machine.Machine.{Machine}

-- why an area can't be used
abbrev pub reason_of : Result Area NoSwap → Option NoSwap
reason_of (Ok area) = None
reason_of (Err why) = Some why

-- the slot table of a machine
abbrev pub slot_table_of : Hardware → SlotTable
slot_table_of h = record { first = h.slot_table; slots = h.slots }

-- No page frame of a table is free or a task's, whatever the rest of memory is.
abbrev pub AreReserved : Hardware → Memory → Type 0
AreReserved h m = (p : ℕ) → IsTableFrame h p → (owner_of (frame_entry h m p) ≡ 0) × (frame_entry h m p ≢ 1)

-- The slot and the page frame of a task's unfinished operation exist, the slot's block is one of the disk's, and the
-- page frame is the task's.
pub record IsInFlight (h : Hardware) (blocks : ℕ) (frames : Memory) (t s p : ℕ) : Type 0 where
  pub task : IsTask t
  pub slot : s < h.slots
  pub below : block_of_slot h s < blocks
  pub valid : Contains (numbers h.zones) p
  pub owner : owner_of (frame_entry h frames p) ≡ t

-- the same for each unfinished operation
pub record AreInFlight (h : Hardware) (blocks : ℕ) (frames : Memory) (flights : List Flight) : Type 0 where
  pub outs : (t s p : ℕ) → flights_in flights t ≡ Some (goes_out s p) → IsInFlight h blocks frames t s p
  pub ins : (t s p : ℕ) → flights_in flights t ≡ Some (comes_in s p) → IsInFlight h blocks frames t s p

-- A machine that can run: memory has its page frames, the runs are those of its slot table, each slot's block is one of
-- the disk's if the area can be used, the tables' page frames belong to no task, and the unfinished operations have
-- what they need.
pub record CanRun (machine : Machine) (frames : Memory) (runs : SlotRuns) : Type 0 where
  pub size : length frames ≡ top machine.hw.zones
  pub matches : Matches frames (slot_table_of machine.hw) runs
  pub usable : IfOk machine.area (λ area. fit_fault machine.hw machine.blocks area ≡ None)
  pub reserved : AreReserved machine.hw frames
  pub flights : AreInFlight machine.hw machine.blocks frames machine.flights
