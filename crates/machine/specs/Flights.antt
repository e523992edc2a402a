-- The tasks' unfinished operations as a machine keeps them: one for each of the tasks 1 to 64 (a page under writeback
-- or being read, swap_writepage and swap_readpage, mm/page_io.c).
use Rattle.std.specs.Prelude.{ℕ, zero, suc, List, Option, Some, None, slice_index_or}
use Rattle.plain_machine.specs.State as plain
use Rattle.machine.specs.declared.flight.Flight.{Flight}
use Rattle.machine.specs.declared.flight.Flight.TheVariants.{Nothing, Out, In}

-- the plain machine's operation for this one
abbrev pub flight_in : Flight → Option plain.Flight
flight_in Nothing = None
flight_in (Out slot p) = Some (plain.goes_out slot p)
flight_in (In slot p) = Some (plain.comes_in slot p)

-- the operation of a task; task t's is at index t - 1
abbrev pub flights_in : List Flight → ℕ → Option plain.Flight
flights_in flights zero = None
flights_in flights (suc t) = flight_in (slice_index_or flights t Nothing)
