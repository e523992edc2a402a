-- The row of a shrinking: cached page frames that no table has become free, and all else stays.
use Rattle.std.proofs.Common.{◌≡◌, ◌≢◌, inl, inr, ◌<◌, ℕ, ◌-◌, Bool, true, false, not, eqb, ◌&&◌, ◌||◌, List, [], ◌∷◌, length, take, Contains, All, Some, None, refl, sym, ap, ap₂, ◌∙◌, subst, arith}
use Rattle.std.proofs.lemmas.Bool.{and_parts, both_ways, false≢true}
use Rattle.std.proofs.lemmas.Option.{none-some}
use Rattle.definitions.specs.Bytes.{IsPage}
use Rattle.definitions.specs.Disk as disk
use Rattle.definitions.specs.Tables.{saveable_frames}
use Rattle.definitions.specs.Tables.{HasTable, page_flags, owner_of, is_saveable, with_entry, with_entries}
use Rattle.definitions.specs.Zones.{numbers, top}
use Rattle.definitions.proofs.Ascending.{Contains-head, Contains-tail}
use Rattle.definitions.proofs.FrameSets.{Contains-from_filter}
use Rattle.definitions.proofs.TableEntries.{entry_at-with_entries_other, length-with_entries}
use Rattle.definitions.proofs.ZoneNumbers.{below_top}
use Rattle.plain_machine.specs.Machine.{IsTask}
use Rattle.plain_machine.specs.Machine.{Hardware, Memory, IsHardware, IsTableFrame, is_of_table, is_table_frame, frame_entry, raw_slot_entry, saveable, table_len}
use Rattle.plain_machine.specs.Refusals.{busy, busy_reply, refusal}
use Rattle.plain_machine.specs.Stands.{HasFlights}
use Rattle.plain_machine.specs.State.{State, on, Running, goes_out, comes_in, nothing}
use Rattle.plain_machine.specs.Step.{droppable, drop_memory, dropped_by}
use Rattle.plain_machine.specs.declared.event.Event.TheVariants as event
use Rattle.plain_machine.specs.declared.reply.Reply.TheVariants as reply
use Rattle.plain_machine.proofs.Flights.{idle_tasks}
use Rattle.plain_machine.proofs.Fresh.{table_frame-test}
use Rattle.plain_machine.proofs.SameMemory.{filter_agree_within, slot_entry-frame_entry_set}
use Rattle.protocol_laws.proofs.SwapRequests.{Flies, Keeps, flight_of, with_memory}
use Rattle.protocol_laws.proofs.Unwritten.{block_same}
use Rattle.machine.specs.Flights.{flights_in}
use Rattle.machine.specs.Running.{CanRun, reason_of}
use Rattle.machine.specs.declared.machine.Machine.{Machine}
use Rattle.machine.proofs.SlotWrites.{matches-same}
use Rattle.swap_slots.specs.Runs.{SlotRuns}
use Rattle.machine.specs.declared.flight.Flight.{Flight as Operation}
use Rattle.machine.proofs.Rows.{Mirrors, mirrors_of, mirrors_entry, mirrors-frame_entry, frame_table_fits}
use Rattle.hib_core.specs.Begin.{busy_of}
use Rattle.hib_core.proofs.BeginRefusals.{busy_is, not_busy}
use Rattle.frame_table.specs.Drop.{dropped_frames, may_drop}
use Rattle.frame_table.proofs.DropLaws.{Contains-from_take}
use Rattle.world_core.specs.declared.world.Core.{Core}
use Rattle.world_core.specs.declared.world.Core.TheVariants.{Running as Runs, Hibernating, Loading}
use Rattle.world_core.specs.World.{World}
use Rattle.world_core.specs.StandsFor.{StandsFor, hardware_of, shown}
use Rattle.world_core.specs.Row.{Simulates}
use Rattle.world_core.proofs.Cases.{activity_by, activity_for, at_run}
use Rattle.world_core.proofs.Rows.{accepted_step, row_at_run, row_refused, area_of_same}
use Rattle.world_core.proofs.TaskRows.{IsSameBut, on_parts, runs_on, shows_after}

-- What is dropped, as the code says it and as the plain machine does.

-- the runs of page frames that the tables have
abbrev pub runs_of_tables : Hardware → List (ℕ × ℕ)
runs_of_tables h = (h.frame_table, table_len (top h.zones)) ∷ (h.slot_table, table_len h.slots) ∷ []

or_none : (b c : Bool) → (b || (c || false)) ≡ (b || c)
or_none true c = refl
or_none false true = refl
or_none false false = refl

may_drop_is : (h : Hardware) (m : Memory) (p : ℕ) → may_drop (runs_of_tables h) h.frame_table m p ≡ (eqb (page_flags (frame_entry h m p)) 64 && not (is_table_frame h p))
may_drop_is h m p =
    ap (λ (b : Bool). eqb (page_flags (frame_entry h m p)) 64 && not b)
    (or_none (is_of_table h.frame_table (top h.zones) p) (is_of_table h.slot_table h.slots p))

pub dropped_is : (h : Hardware) (m : Memory) (want : ℕ) → dropped_frames h.zones h.frame_table (runs_of_tables h) want m ≡ dropped_by h m want
dropped_is h m want =
    ap (take (length (saveable h m) - want))
    (filter_agree_within (may_drop (runs_of_tables h) h.frame_table m) (λ p. eqb (page_flags (frame_entry h m p)) 64 && not (is_table_frame h p)) (numbers h.zones) (λ p in'. may_drop_is h m p))

-- a page frame that is dropped
pub record IsDropped (h : Hardware) (p : ℕ) : Type 0 where
  pub valid : Contains (numbers h.zones) p
  pub apart : IsTableFrame h p → ⊥

not_false : (b : Bool) → not b ≡ true → b ≡ false
not_false true e = absurd (false≢true e)
not_false false e = refl

pub is_dropped : (h : Hardware) (m : Memory) (want p : ℕ) → Contains (dropped_by h m want) p → IsDropped h p
is_dropped h m want p in' =
    let test : ℕ → Bool = λ q. eqb (page_flags (frame_entry h m q)) 64 && not (is_table_frame h q) in
    let picked = Contains-from_filter test (numbers h.zones) p (Contains-from_take (length (saveable h m) - want) (droppable h m) p in') in
    let parts = and_parts (eqb (page_flags (frame_entry h m p)) 64) (not (is_table_frame h p)) picked.1 in
    record { valid = picked.0; apart = λ of. both_ways (is_table_frame h p) (not_false (is_table_frame h p) parts.1) (table_frame-test h p of) }

-- Page frames as the world shows them, and memory.

frames_shown : (h : Hardware) (frames m : Memory) → IsHardware h → Mirrors h frames m → droppable h m ≡ droppable h frames
frames_shown h frames m hw mirrors =
    filter_agree_within (λ p. eqb (page_flags (frame_entry h m p)) 64 && not (is_table_frame h p)) (λ p. eqb (page_flags (frame_entry h frames p)) 64 && not (is_table_frame h p)) (numbers h.zones)
    (λ p in'. ap (λ (e : ℕ). eqb (page_flags e) 64 && not (is_table_frame h p)) (mirrors-frame_entry h frames m p hw mirrors in'))

saveable_shown : (h : Hardware) (frames m : Memory) → IsHardware h → Mirrors h frames m → saveable h m ≡ saveable h frames
unfolding saveable_frames
saveable_shown h frames m hw mirrors =
    filter_agree_within (λ p. is_saveable (page_flags (frame_entry h m p))) (λ p. is_saveable (page_flags (frame_entry h frames p))) (numbers h.zones)
    (λ p in'. ap (λ (e : ℕ). is_saveable (page_flags e)) (mirrors-frame_entry h frames m p hw mirrors in'))

dropped_shown : (h : Hardware) (frames m : Memory) (want : ℕ) → IsHardware h → Mirrors h frames m → dropped_by h m want ≡ dropped_by h frames want
dropped_shown h frames m want hw mirrors =
    ap₂ (λ (n : ℕ) (ps : List ℕ). take (n - want) ps) (ap length (saveable_shown h frames m hw mirrors)) (frames_shown h frames m hw mirrors)

mirrors_freed : (h : Hardware) (ps : List ℕ) (frames m : Memory) → IsHardware h → Mirrors h frames m → ((p : ℕ) → Contains ps p → IsDropped h p) → Mirrors h (with_entries frames h.frame_table ps 1) (with_entries m h.frame_table ps 1)
unfolding with_entries
mirrors_freed h [] frames m hw mirrors are = mirrors
mirrors_freed h (p ∷ ps) frames m hw mirrors are =
    let this = are p (Contains-head p ps) in
    mirrors_freed h ps (with_entry frames h.frame_table p 1) (with_entry m h.frame_table p 1) hw
    (mirrors_entry h frames m p 1 hw mirrors this.valid this.apart refl (omega arith) (λ used. absurd (used refl))) (λ q in'. are q (Contains-tail p ps q in'))

-- The entries that stay.

pub slots_stay : (h : Hardware) (m : Memory) (ps : List ℕ) (s : ℕ) → IsHardware h → ((p : ℕ) → Contains ps p → IsDropped h p) → s < h.slots → raw_slot_entry h (with_entries m h.frame_table ps 1) s ≡ raw_slot_entry h m s
unfolding with_entries
slots_stay h m [] s hw are lt = refl
slots_stay h m (p ∷ ps) s hw are lt =
    slots_stay h (with_entry m h.frame_table p 1) ps s hw (λ q in'. are q (Contains-tail p ps q in')) lt
    ∙ slot_entry-frame_entry_set h m p s 1 hw (are p (Contains-head p ps)).valid lt

pub tables_stay : (h : Hardware) (m : Memory) (ps : List ℕ) (q : ℕ) → IsHardware h → All IsPage m → HasTable m h.frame_table (top h.zones) → ((p : ℕ) → Contains ps p → IsDropped h p) → IsTableFrame h q → frame_entry h (with_entries m h.frame_table ps 1) q ≡ frame_entry h m q
tables_stay h m ps q hw pages has are of =
    entry_at-with_entries_other m h.frame_table (top h.zones) ps 1 q pages has
    (λ p in'. let this = are p in' in (below_top h.zones p hw.zones.apart this.valid, λ e. this.apart (subst (IsTableFrame h) (sym e) of)))

-- A running state with no unfinished operation.

none_flies : (a : Running) → busy a ≡ None → (u s p : ℕ) → IsTask u → Flies a u s p → ⊥
none_flies a idle u s p task (inl e) = none-some (goes_out s p) (sym (idle_tasks a idle u task) ∙ e)
none_flies a idle u s p task (inr e) = none-some (comes_in s p) (sym (idle_tasks a idle u task) ∙ e)

keeps_all : (h : Hardware) (a : Running) (want : ℕ) → IsHardware h → HasFlights h a → busy a ≡ None → Keeps h a (drop_memory h a.memory want)
keeps_all h a want hw has idle = record {
  slots = λ s lt. slots_stay h a.memory (dropped_by h a.memory want) s hw (λ p in'. is_dropped h a.memory want p in') lt;
  frames = λ u s p flies. absurd (none_flies a idle u s p (flight_of h a u s p has flies).task flies);
}

refused_busy : (w : World) (a : Running) (want t : ℕ) → busy_of w.machine ≡ Some t → ((u : ℕ) → a.flights u ≡ flights_in w.machine.flights u) → refusal (hardware_of w) (on a) (event.Shrink want) ≡ Some (reply.Busy t)
unfolding refusal
refused_busy w a want t flies flights = busy_is w.machine a flights ∙ ap busy_reply flies

not_refused : (w : World) (a : Running) (want : ℕ) → busy_of w.machine ≡ None → ((u : ℕ) → a.flights u ≡ flights_in w.machine.flights u) → refusal (hardware_of w) (on a) (event.Shrink want) ≡ None
unfolding refusal
not_refused w a want idle flights = not_busy w.machine a idle flights

-- The rows.

pub row_busy : (w : World) (want t : ℕ) (c : disk.Content) → w.core ≡ Runs → busy_of w.machine ≡ Some t → Simulates (event.Shrink want) w w (reply.Busy t) c c
row_busy w want t c core flies =
    row_refused (event.Shrink want) w (reply.Busy t) c (λ a stands.
    let run = at_run a (sym (activity_by w Runs core) ∙ activity_for w c a stands) in
    subst (λ (x : State). refusal (hardware_of w) x (event.Shrink want) ≡ Some (reply.Busy t)) (sym run.1)
    (refused_busy w run.0 want t flies (on_parts w c run.0 (subst (StandsFor w c) run.1 stands)).memory.flights))

-- what a shrinking replies, and leaves of the page frames
pub record Drops (h : Hardware) (want : ℕ) (frames : Memory) (dropped left : ℕ) (new : Memory) : Type 0 where
  pub frames_are : new ≡ drop_memory h frames want
  pub dropped_are : dropped ≡ length (dropped_by h frames want)
  pub rest : left ≡ length (saveable h frames) - length (dropped_by h frames want)

pub row_shrunk : (old new : World) (want dropped left : ℕ) (c : disk.Content) → IsHardware (hardware_of old) → length old.frames ≡ top (hardware_of old).zones → old.core ≡ Runs → busy_of old.machine ≡ None → IsSameBut old new → new.machine.flights ≡ old.machine.flights →
    Drops (hardware_of old) want old.frames dropped left new.frames → Simulates (event.Shrink want) old new (reply.Shrunk dropped left) c c
row_shrunk old new want dropped left c hw size core idle same flights drops =
    row_at_run (event.Shrink want) old new (reply.Shrunk dropped left) c c core
    (λ a stands.
    let h = hardware_of old in
    let parts = on_parts old c a stands in
    let mirrors = mirrors_of h old.machine.held (reason_of old.machine.area) (flights_in old.machine.flights) old.frames a parts.memory size in
    let m = a.memory in
    let idle' = not_busy old.machine a idle parts.memory.flights in
    let D = dropped_by h old.frames want in
    let D_is : dropped_by h m want ≡ D = dropped_shown h old.frames m want hw mirrors in
    let n_is : length (saveable h m) ≡ length (saveable h old.frames) = ap length (saveable_shown h old.frames m hw mirrors) in
    let freed = mirrors_freed h D old.frames m hw mirrors (λ p in'. is_dropped h old.frames want p in') in
    let b : Running = record a { memory = drop_memory h m want } in
    let now : Mirrors h new.frames b.memory =
    subst (λ (frames : Memory). Mirrors h frames b.memory) (sym drops.frames_are)
    (subst (λ (ps : List ℕ). Mirrors h (with_entries old.frames h.frame_table D 1) (with_entries m h.frame_table ps 1)) (sym D_is) freed) in
    let answers : (reply.Shrunk (length (dropped_by h m want)) (length (saveable h m) - length (dropped_by h m want)), on b) ≡ (reply.Shrunk dropped left, on b) =
    ap₂ (λ (d l : ℕ). (reply.Shrunk d l, on b)) (ap length D_is ∙ sym drops.dropped_are)
    (ap₂ (λ (n d : ℕ). n - d) n_is (ap length D_is) ∙ sym drops.rest) in (
      on b,
      record {
        step = accepted_step h (disk.as_it_reads c) (on a) (event.Shrink want) (reply.Shrunk dropped left) (on b) (not_refused old a want idle parts.memory.flights) (0, omega arith, answers);
        stands = runs_on h new c b same.core same.hw
            (shows_after old new b same (record {
              held = parts.memory.held;
              unusable = parts.memory.unusable;
              flights = λ t. parts.memory.flights t ∙ ap (λ (operations : List Operation). flights_in operations t) (sym flights);
              same = now.same;
              fits = now.fits;
            }))
            (with_memory h (shown old) (shown new) c a (drop_memory h m want) parts.disk (keeps_all h a want hw parts.disk.flights idle')
            (λ s lt e. sym (ap (λ (frames : Memory). raw_slot_entry h frames s) drops.frames_are ∙ slots_stay h old.frames D s hw (λ p in'. is_dropped h old.frames want p in') lt) ∙ e));
        area = area_of_same h (disk.as_it_reads c) (disk.as_it_reads c) refl;
        unwritten = λ k not. block_same k c;
        leaves = tt;
        header = tt;
      },
    ))

-- The machine can run on.

idle_machine : (machine : Machine) (t : ℕ) → busy_of machine ≡ None → IsTask t → flights_in machine.flights t ≡ None
idle_machine machine t idle task =
    let a : Running = record { memory = []; slots = λ s. None; held = nothing; unusable = None; flights = flights_in machine.flights } in
    idle_tasks a (ap busy_reply idle) t task

pub can_run_freed : (machine : Machine) (frames : Memory) (runs : SlotRuns) (want : ℕ) → IsHardware machine.hw → All IsPage frames → busy_of machine ≡ None → CanRun machine frames runs → CanRun machine (drop_memory machine.hw frames want) runs
can_run_freed machine frames runs want hw pages idle can =
    let h = machine.hw in
    let D = dropped_by h frames want in
    let size = can.size in
    let fits = frame_table_fits h (top h.zones) hw (omega arith) in
    let are : (p : ℕ) → Contains D p → IsDropped h p = λ p in'. is_dropped h frames want p in' in
    record {
      size = length-with_entries frames h.frame_table D 1 ∙ can.size;
      matches = matches-same h frames (drop_memory h frames want) runs (λ s lt. slots_stay h frames D s hw are lt) can.matches;
      usable = can.usable;
      reserved = λ q of.
          subst (λ (e : ℕ). (owner_of e ≡ 0) × (e ≢ 1)) (sym (tables_stay h frames D q hw pages (omega arith) are of)) (can.reserved q of);
      flights = record {
        outs = λ t s p e. absurd (none-some (goes_out s p) (sym (idle_machine machine t idle (can.flights.outs t s p e).task) ∙ e));
        ins = λ t s p e. absurd (none-some (comes_in s p) (sym (idle_machine machine t idle (can.flights.ins t s p e).task) ∙ e));
      };
    }

-- a machine that runs neither hibernates nor resumes
abbrev is_running : Core → Bool
is_running Runs = true
is_running _ = false

pub runs_alone : (core : Core) → core ≡ Runs → (core ≡ Hibernating → ⊥) × (core ≡ Loading → ⊥)
runs_alone core is = (λ e. false≢true (sym (ap is_running e) ∙ ap is_running is), λ e. false≢true (sym (ap is_running e) ∙ ap is_running is))
