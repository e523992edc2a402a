-- What a world needs to go on, after each of its events.
use Rattle.std.proofs.Common.{◌≡◌, ◌<◌, ◌⊎◌, inl, inr, ℕ, true, List, [], ◌∷◌, length, replicate, Contains, None, Result, refl, sym, ap, ◌∙◌, subst, arith}
use Rattle.std.specs.List.{range_with_len}
use Rattle.std.specs.Result.{IfOk}
use Rattle.std.proofs.lemmas.Bool.{false≢true}
use Rattle.definitions.specs.Tables.{owner_of}
use Rattle.definitions.specs.Zones.{numbers, top}
use Rattle.definitions.proofs.Ascending.{Contains-head, Contains-tail}
use Rattle.definitions.proofs.ZoneNumbers.{range-bounds}
use Rattle.image_format.specs.declared.signature.area.Area.{Area}
use Rattle.swap_slots.specs.Runs.{SlotRuns}
use Rattle.swap_slots.specs.Table.{Matches}
use Rattle.plain_machine.specs.Machine.{Hardware, Memory, IsHardware, frame_entry}
use Rattle.plain_machine.specs.Step.{with_slot_entry}
use Rattle.plain_machine.specs.FreshMemory.{fresh_frames, fresh_entry, with_each_entry}
use Rattle.plain_machine.specs.UsableArea.{fit_fault}
use Rattle.plain_machine.specs.declared.event.BootFrom.{BootFrom}
use Rattle.plain_machine.specs.declared.event.BootFrom.TheVariants.{Fresh, Kept}
use Rattle.plain_machine.specs.declared.no_swap.NoSwap.{NoSwap}
use Rattle.plain_machine.specs.declared.reply.Reply.{Reply}
use Rattle.plain_machine.proofs.Fresh.{fresh_entry-table, table_frame-test, frame_entry-fresh_memory}
use Rattle.plain_machine.proofs.SameMemory.{table_frame_valid}
use Rattle.protocol_laws.proofs.SwapRequests.{frame_entry-slot_entry_set}
use Rattle.machine.specs.Flights.{flights_in}
use Rattle.machine.specs.FreshSlots.{slot_of_area}
use Rattle.machine.specs.Running.{AreReserved, AreInFlight, CanRun, slot_table_of}
use Rattle.machine.specs.declared.flight.Flight.{Flight}
use Rattle.machine.specs.declared.flight.Flight.TheVariants.{Nothing}
use Rattle.machine.specs.declared.machine.Machine.{Machine}
use Rattle.machine.proofs.Readiness.{reserved-same, in_flight-none, in_flight-same, flights-none}
use Rattle.hib_core.specs.Hibernation as hibernation
use Rattle.hib_core.specs.declared.phase.Phase.{Phase}
use Rattle.hib_core.specs.declared.phase.Phase.TheVariants as phase
use Rattle.hib_core.specs.Leaving.{LeavesAtBegin}
use Rattle.hib_core.specs.Ready.{IsSameMachine}
use Rattle.hib_core.specs.declared.hib.Job.{Job}
use Rattle.hib_core.specs.declared.hib.Job.TheVariants as job
use Rattle.hib_core.proofs.Leaving.{SameEntries, entries_begun}
use Rattle.resume_core.specs.Loading as resumption
use Rattle.resume_core.specs.Ready.{CanStep, RunsOn}
use Rattle.resume_core.specs.declared.load.Load.{Load}
use Rattle.resume_core.specs.declared.load.Stage.{Stage}
use Rattle.resume_core.specs.declared.load.Stage.TheVariants as stage
use Rattle.world_core.specs.declared.world.Core.{Core}
use Rattle.world_core.specs.declared.world.Core.TheVariants.{Off, Running, BootBegun, BootSynced, Hibernating, Asleep, Waking, Loading}
use Rattle.world_core.specs.Kept.{HasTables}
use Rattle.world_core.specs.Started.{memory_at_start}
use Rattle.world_core.specs.StandsFor.{keeps_dump, core_at, core_in, core_told}
use Rattle.world_core.proofs.Hibernating.{usable_same}
use Rattle.world_core.proofs.Resuming.{IsAfter, core_now}

-- The tables of fresh memory, and of memory with fresh slots.

frame_entry-each : (h : Hardware) (entry : ℕ → ℕ) (slots : List ℕ) (m : Memory) (p : ℕ) → IsHardware h → ((s : ℕ) → Contains slots s → s < h.slots) → Contains (numbers h.zones) p → frame_entry h (with_each_entry entry slots h.slot_table m) p ≡ frame_entry h m p
unfolding with_each_entry
frame_entry-each h entry [] m p hw small in' = refl
frame_entry-each h entry (s ∷ slots) m p hw small in' =
    frame_entry-each h entry slots (with_slot_entry h m s (entry s)) p hw (λ q q_in. small q (Contains-tail s slots q q_in)) in'
    ∙ frame_entry-slot_entry_set h m s (entry s) p hw (small s (Contains-head s slots)) in'

in_range : (slots s : ℕ) → Contains (range_with_len 0 slots) s → s < slots
in_range slots s in' = let bounds = range-bounds 0 slots s in' in let below = bounds.1 in omega arith

fresh_frame_entry : (h : Hardware) (p : ℕ) → IsHardware h → Contains (numbers h.zones) p → frame_entry h (fresh_frames h) p ≡ fresh_entry h p
unfolding fresh_frames
fresh_frame_entry h p hw in' = frame_entry-fresh_memory h (λ s. 0) p hw in'

pub reserved-fresh : (h : Hardware) → IsHardware h → AreReserved h (fresh_frames h)
reserved-fresh h hw p of =
    let entry : frame_entry h (fresh_frames h) p ≡ 0 = fresh_frame_entry h p hw (table_frame_valid h p hw of) ∙ fresh_entry-table h p (table_frame-test h p of) in
    (ap owner_of entry, λ free. let r : ⊥ = omega arith in r)

pub reserved-at_start : (from : BootFrom) (h : Hardware) (area : Result Area NoSwap) (m : Memory) → IsHardware h → AreReserved h m → AreReserved h (memory_at_start from h area m)
reserved-at_start Fresh h area m hw reserved =
    reserved-same h m (with_each_entry (slot_of_area area) (range_with_len 0 h.slots) h.slot_table m) hw
    (λ p in'. frame_entry-each h (slot_of_area area) (range_with_len 0 h.slots) m p hw (in_range h.slots) in') reserved
reserved-at_start Kept h area m hw reserved = reserved

-- memory that a boot is from
pub reserved-set : (from : BootFrom) (h : Hardware) (old new : Memory) → IsHardware h → (from ≡ Fresh → new ≡ fresh_frames h) → (from ≡ Kept → new ≡ old) → (from ≡ Kept → AreReserved h old) → AreReserved h new
reserved-set Fresh h old new hw fresh kept was = subst (AreReserved h) (sym (fresh refl)) (reserved-fresh h hw)
reserved-set Kept h old new hw fresh kept was = subst (AreReserved h) (sym (kept refl)) (was refl)

pub tables_kept : (core : Core) → keeps_dump core ≡ true → HasTables core
tables_kept (Off keeps) e = e
tables_kept Running e = absurd (false≢true e)
tables_kept (BootBegun from) e = tt
tables_kept (BootSynced from) e = tt
tables_kept Hibernating e = absurd (false≢true e)
tables_kept Asleep e = absurd (false≢true e)
tables_kept Waking e = absurd (false≢true e)
tables_kept Loading e = absurd (false≢true e)

-- A machine that is started can run.
pub can_run-started : (machine : Machine) (frames : Memory) (runs : SlotRuns) → length frames ≡ top machine.hw.zones → Matches frames (slot_table_of machine.hw) runs → IfOk machine.area (λ area. fit_fault machine.hw machine.blocks area ≡ None) → AreReserved machine.hw frames → machine.flights ≡ replicate 64 Nothing → CanRun machine frames runs
can_run-started machine frames runs size matches usable reserved none = record {
  size = size;
  matches = matches;
  usable = usable;
  reserved = reserved;
  flights = in_flight-none machine.hw machine.blocks frames machine.flights (λ t. ap (λ (flights : List Flight). flights_in flights t) none ∙ flights-none 64 t);
}

-- One that could run can run where its machine and the entries of its page frames are as before.
pub can_run-same : (old new : Machine) (frames frames' : Memory) (runs runs' : SlotRuns) → IsHardware old.hw → IsSameMachine old new → length frames' ≡ top new.hw.zones → Matches frames' (slot_table_of new.hw) runs' → SameEntries old.hw frames frames' → CanRun old frames runs → CanRun new frames' runs'
can_run-same old new frames frames' runs runs' hw same size matches entries can = record {
  size = size;
  matches = matches;
  usable = usable_same old new same can.usable;
  reserved = subst (λ (h : Hardware). AreReserved h frames') (sym same.hw) (reserved-same old.hw frames frames' hw entries can.reserved);
  flights =
      subst (λ (h : Hardware). AreInFlight h new.blocks frames' new.flights) (sym same.hw)
      (subst (λ (n : ℕ). AreInFlight old.hw n frames' new.flights) (sym same.blocks)
      (subst (λ (flights : List Flight). AreInFlight old.hw old.blocks frames' flights) (sym same.flights) (in_flight-same old.hw old.blocks frames frames' old.flights entries can.flights)));
}

-- the begin of a job leaves the entries
pub entries_at_begin : (asked : Job) (h : Hardware) (old new : Memory) → IsHardware h → AreReserved h old → LeavesAtBegin asked h old new ⊎ (new ≡ old) → SameEntries h old new
entries_at_begin (job.Hibernate format) h old new hw reserved (inl begins) p in' = entries_begun h old new hw reserved begins p in'
entries_at_begin (job.Suspend format) h old new hw reserved (inl begins) p in' = entries_begun h old new hw reserved begins p in'
entries_at_begin job.Settle h old new hw reserved (inl same) p in' = ap (λ (m : Memory). frame_entry h m p) same
entries_at_begin asked h old new hw reserved (inr same) p in' = ap (λ (m : Memory). frame_entry h m p) same

-- What a world is doing after a step of its hibernation or its resume.

no_tables_in : {A : Type 0} (p : Phase) → HasTables (core_in p) → A
no_tables_in phase.UnderWay has = absurd has
no_tables_in phase.Runs has = absurd has
no_tables_in phase.Off has = absurd (false≢true has)
no_tables_in phase.Asleep has = absurd has

pub no_tables_told : {A : Type 0} (r : Reply) (core : Core) → core ≡ core_told r → HasTables core → A
no_tables_told r core is has = no_tables_in (hibernation.phase_told r) (subst HasTables is has)

no_tables_at : {A : Type 0} (s : Stage) → HasTables (core_at (resumption.activity_at s)) → A
no_tables_at stage.Rest has = absurd (false≢true has)
no_tables_at stage.Runs has = absurd has
no_tables_at stage.Sync has = absurd has
no_tables_at stage.Find has = absurd has
no_tables_at (stage.Back unmark mark) has = absurd has
no_tables_at (stage.List chain) has = absurd has
no_tables_at (stage.Read chain) has = absurd has

pub no_tables_after : {A : Type 0} (load : Load) (r : Reply) (core : Core) → IsAfter load r core → HasTables core → A
no_tables_after load r core after has = no_tables_at load.stage (subst HasTables (core_now load r core after) has)

-- A machine that runs after a resume can run.
pub can_run-resumed : (machine : Machine) (frames : Memory) (runs : SlotRuns) (load : Load) → CanStep machine frames runs load → RunsOn machine frames runs → CanRun machine frames runs
can_run-resumed machine frames runs load can on' = record {
  size = can.over.size;
  matches = on'.matches;
  usable = on'.usable;
  reserved = on'.reserved;
  flights = in_flight-none machine.hw machine.blocks frames machine.flights on'.idle;
}
