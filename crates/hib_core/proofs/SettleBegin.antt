-- The rows of the begin of a settling, and what its next step needs.
use Rattle.std.proofs.Common.{◌≡◌, ◌≢◌, ◌<◌, ◌^◌, ℕ, refl, sym, ap, ◌∙◌, subst, arith, Some, None, not}
use Rattle.definitions.specs.Disk as disk
use Rattle.swap_slots.specs.Runs.{SlotRuns}
use Rattle.plain_machine.specs.Machine.{Memory, IsHardware}
use Rattle.plain_machine.specs.Refusals.{refusal, refused_if, is_held, busy, busy_reply}
use Rattle.plain_machine.specs.Shows.{ShowsHeld, settles}
use Rattle.plain_machine.specs.Stands.{Stands}
use Rattle.plain_machine.specs.State.{State, on, settling, Running}
use Rattle.plain_machine.specs.Step.{Step}
use Rattle.plain_machine.specs.declared.event.Event.TheVariants as event
use Rattle.plain_machine.specs.declared.held.Held.{Held as HeldFlag}
use Rattle.plain_machine.specs.declared.held.Held.TheVariants.{No}
use Rattle.plain_machine.specs.declared.reply.Reply.{Reply}
use Rattle.plain_machine.specs.declared.reply.Reply.TheVariants as reply
use Rattle.protocol_laws.proofs.HeaderLeft.{left_same}
use Rattle.protocol_laws.proofs.Settling.{settle_begins}
use Rattle.protocol_laws.proofs.Unwritten.{block_same}
use Rattle.machine.specs.declared.machine.Machine.{Machine}
use Rattle.unmark.specs.Unmarking.{calls_before}
use Rattle.unmark.specs.declared.unmarking.Unmark.{Unmark}
use Rattle.unmark.specs.declared.unmarking.UnmarkCall.{UnmarkCall}
use Rattle.unmark.specs.declared.unmarking.UnmarkCall.TheVariants as call
use Rattle.hib_core.specs.Begin.{busy_of}
use Rattle.hib_core.specs.Hibernation.{running_by, shown_by}
use Rattle.hib_core.specs.Ready.{CanBegin, CanStep}
use Rattle.hib_core.specs.Row.{HibernationStandsFor, IsBegun}
use Rattle.hib_core.specs.declared.hib.Hib.{Hib}
use Rattle.hib_core.specs.declared.hib.Job.TheVariants as job
use Rattle.hib_core.specs.declared.hib.Stage.TheVariants as stage
use Rattle.hib_core.proofs.BeginRefusals.{unheld, open_at, stop_at, test_holds, test_fails, busy_is, not_busy, is_held_shown}
use Rattle.hib_core.proofs.BeginRows.{idle_stands}
use Rattle.hib_core.proofs.BeginTables.{slot_table_lies}
use Rattle.hib_core.proofs.Cases.{at_run}
use Rattle.hib_core.proofs.Plain.{accepted_step, refused_step}
use Rattle.protocol_laws.proofs.Named.{names_same}
use Rattle.protocol_laws.proofs.Same.{same_area}

holds_nothing : (machine : Machine) (frames : Memory) (c : disk.Content) (a : Running) → busy_of machine ≡ None → machine.held ≡ No → Stands machine.hw (running_by machine frames) c (on a) → refusal machine.hw (on a) event.Settle ≡ Some reply.NothingHeld
unfolding refusal
holds_nothing machine frames c a idle none stands =
    let runs = stands.parts.memory in
    let held = unheld a.held (subst (λ (flag : HeldFlag). ShowsHeld flag a.held) none runs.held) in
    open_at (busy a) (refused_if (not (is_held a.held)) reply.NothingHeld) (not_busy machine a idle runs.flights)
    ∙ test_holds (not (is_held a.held)) reply.NothingHeld (ap not (ap is_held held))

holds_image : (machine : Machine) (frames : Memory) (c : disk.Content) (a : Running) → busy_of machine ≡ None → machine.held ≢ No → Stands machine.hw (running_by machine frames) c (on a) → refusal machine.hw (on a) event.Settle ≡ None
unfolding refusal
holds_image machine frames c a idle some stands =
    let runs = stands.parts.memory in
    open_at (busy a) (refused_if (not (is_held a.held)) reply.NothingHeld) (not_busy machine a idle runs.flights)
    ∙ test_fails (not (is_held a.held)) reply.NothingHeld (ap not (is_held_shown machine.held a.held some runs.held))

is_busy : (machine : Machine) (frames : Memory) (c : disk.Content) (a : Running) (t : ℕ) → busy_of machine ≡ Some t → Stands machine.hw (running_by machine frames) c (on a) → refusal machine.hw (on a) event.Settle ≡ Some (reply.Busy t)
unfolding refusal
is_busy machine frames c a t flies stands =
    stop_at (busy a) (refused_if (not (is_held a.held)) reply.NothingHeld) (reply.Busy t) (busy_is machine a stands.parts.memory.flights ∙ ap busy_reply flies)

-- a settling that is refused, for a reason that each running state has
refused_settle_row : (machine : Machine) (frames : Memory) (hib : Hib) (r : Reply) (c : disk.Content) → ((a : Running) → Stands machine.hw (running_by machine frames) c (on a) → refusal machine.hw (on a) event.Settle ≡ Some r) → IsBegun machine frames frames (record hib { stage = stage.Idle }) job.Settle r c
refused_settle_row machine frames hib r c refused s stands =
    let new = record hib { stage = stage.Idle } in
    let at = at_run s stands.activity in
    let a : Running = at.0 in
    let here : Stands machine.hw (running_by machine frames) c (on a) = subst (Stands machine.hw (running_by machine frames) c) at.1 stands in (
      s,
      record {
        step = subst (λ (t : State). Step machine.hw (disk.as_it_reads c) t event.Settle r t) (sym at.1)
            (refused_step machine.hw (disk.as_it_reads c) (on a) event.Settle r (refused a here));
        stands = subst (HibernationStandsFor machine frames new c) (sym at.1) (record { stands = idle_stands machine frames new c a refl here; image = tt });
        area = same_area machine.hw (disk.as_it_reads c);
        unwritten = λ b not_in. block_same b _;
        leaves = tt;
        header = left_same machine.hw s c;
      },
    )

pub busy_row : (machine : Machine) (frames : Memory) (hib : Hib) (t : ℕ) (c : disk.Content) → busy_of machine ≡ Some t → IsBegun machine frames frames (record hib { stage = stage.Idle }) job.Settle (reply.Busy t) c
busy_row machine frames hib t c flies = refused_settle_row machine frames hib (reply.Busy t) c (λ a here. is_busy machine frames c a t flies here)

pub nothing_held_row : (machine : Machine) (frames : Memory) (hib : Hib) (c : disk.Content) → busy_of machine ≡ None → machine.held ≡ No → IsBegun machine frames frames (record hib { stage = stage.Idle }) job.Settle reply.NothingHeld c
nothing_held_row machine frames hib c idle none = refused_settle_row machine frames hib reply.NothingHeld c (λ a here. holds_nothing machine frames c a idle none here)

pub settle_begun_row : (machine : Machine) (frames : Memory) (hib : Hib) (unmark : Unmark) (c : disk.Content) → busy_of machine ≡ None → machine.held ≢ No → unmark.next ≡ call.Read → IsBegun machine frames frames (record hib { stage = stage.Settle unmark }) job.Settle (reply.More 0 3) c
settle_begun_row machine frames hib unmark c idle some first s stands =
    let new = record hib { stage = stage.Settle unmark } in
    let at = at_run s stands.activity in
    let a : Running = at.0 in
    let here : Stands machine.hw (running_by machine frames) c (on a) = subst (Stands machine.hw (running_by machine frames) c) at.1 stands in
    let goes = holds_image machine frames c a idle some here in
    let names = names_same machine.hw (running_by machine frames) (shown_by machine frames new) a.held refl here.parts.disk.names in (
      settling a 0,
      record {
        step = subst (λ (t : State). Step machine.hw (disk.as_it_reads c) t event.Settle (reply.More 0 3) (settling a 0)) (sym at.1)
            (accepted_step machine.hw (disk.as_it_reads c) (on a) event.Settle (reply.More 0 3) (settling a 0) goes (0, omega arith, refl));
        stands = record { stands = settle_begins machine.hw (running_by machine frames) (shown_by machine frames new) c a here (ap (λ (n : UnmarkCall). settles (calls_before n)) first) here.parts.memory names; image = tt };
        area = same_area machine.hw (disk.as_it_reads c);
        unwritten = λ b not_in. block_same b _;
        leaves = tt;
        header = left_same machine.hw s c;
      },
    )

pub can_settle : (machine : Machine) (frames : Memory) (runs : SlotRuns) (hib : Hib) (unmark : Unmark) → IsHardware machine.hw → machine.blocks < 2 ^ 32 → machine.held ≢ No → CanBegin machine frames runs hib → CanStep machine frames runs (record hib { stage = stage.Settle unmark })
can_settle machine frames runs hib unmark hw few some can = record {
  hardware = hw;
  few = few;
  size = can.run.size;
  table = slot_table_lies machine.hw frames hw can.run.size;
  matches = can.run.matches;
  header = can.header some;
  next = tt;
}
