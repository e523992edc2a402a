-- A waking, and what a machine shows while it wakes, sleeps or runs.
use Rattle.std.specs.Prelude.{◌≡◌, ◌⊎◌, ℕ, false, List, [], None}
use Rattle.plain_machine.specs.Machine.{Memory}
use Rattle.plain_machine.specs.Shows.{WorldView, Activity, runs, sleeps, wakes}
use Rattle.plain_machine.specs.declared.reply.Left.TheVariants.{Same, Unsure}
use Rattle.plain_machine.specs.declared.reply.Reply.{Reply}
use Rattle.plain_machine.specs.declared.reply.Reply.TheVariants as reply
use Rattle.machine.specs.Flights.{flights_in}
use Rattle.machine.specs.Running.{reason_of}
use Rattle.machine.specs.declared.machine.Machine.{Machine}
use Rattle.unmark.specs.Unmarking.{calls_before, calls_left}
use Rattle.unmark.specs.declared.unmarking.UnmarkCall.{UnmarkCall}
use Rattle.unmark.specs.declared.unmarking.UnmarkCall.TheVariants as call
use Rattle.hib_core.specs.declared.waking.phase.Phase.{Phase}
use Rattle.hib_core.specs.declared.waking.phase.Phase.TheVariants as phase
use Rattle.hib_core.specs.declared.waking.waker.Stage.{Stage}
use Rattle.hib_core.specs.declared.waking.waker.Stage.TheVariants as stage
use Rattle.hib_core.specs.declared.waking.waker.Waker.{Waker}

-- the number of steps made before each stage
abbrev pub steps_before : Stage → ℕ
steps_before (stage.Wakes unmark) = calls_before unmark.next
steps_before stage.Woken = 3
steps_before stage.Asleep = 3

-- An upper bound for the steps left: each step leaves fewer, whatever the disk tells.
abbrev pub waking_steps_left_at : Stage → ℕ
waking_steps_left_at (stage.Wakes unmark) = calls_left unmark.next
waking_steps_left_at stage.Woken = 0
waking_steps_left_at stage.Asleep = 0

abbrev pub waking_steps_left : Waker → ℕ
waking_steps_left waker = waking_steps_left_at waker.stage

-- the header block kept between two disk calls, if there is one
abbrev pub header_at : Stage → List ℕ
header_at (stage.Wakes unmark) = unmark.header
header_at _ = []

abbrev pub activity_of : Waker → Activity
activity_of waker = wakes (steps_before waker.stage)

-- what follows the last step
abbrev pub phase_at : Stage → Phase
phase_at stage.Woken = phase.Runs
phase_at stage.Asleep = phase.Asleep
phase_at _ = phase.UnderWay

abbrev pub phase_of : Waker → Phase
phase_of waker = phase_at waker.stage

-- and what it is after a step with this reply
abbrev pub phase_told : Reply → Phase
phase_told (reply.More k of) = phase.UnderWay
phase_told reply.Woken = phase.Runs
phase_told _ = phase.Asleep

-- the possible replies to each call
abbrev pub IsReplyTo : UnmarkCall → Reply → Type 0
IsReplyTo call.Read r = (r ≡ reply.More 1 3) ⊎ (r ≡ reply.ReadFault Same)
IsReplyTo call.Write r = (r ≡ reply.More 2 3) ⊎ (r ≡ reply.WriteFault Unsure)
IsReplyTo call.Sync r = (r ≡ reply.Woken) ⊎ (r ≡ reply.SyncFault Unsure)

-- and at each stage
abbrev pub IsReplyAt : Stage → Reply → Type 0
IsReplyAt (stage.Wakes unmark) r = IsReplyTo unmark.next r
IsReplyAt stage.Woken r = ⊥
IsReplyAt stage.Asleep r = ⊥

-- What is shown during an activity, with the header block that is kept. A machine that sleeps or wakes shows what it
-- held before the suspend, which is nothing; what it holds now is in the state.
abbrev pub shown_at : Machine → Memory → Activity → List ℕ → WorldView
shown_at machine frames activity header = record {
  activity = activity;
  keeps_dump = false;
  held = machine.held;
  unusable = reason_of machine.area;
  flights = flights_in machine.flights;
  frames = frames;
  header = header;
  copies = [];
  resume = None;
  loaded = [];
}

abbrev pub shown_by : Machine → Memory → Waker → WorldView
shown_by machine frames waker = shown_at machine frames (activity_of waker) (header_at waker.stage)

abbrev pub asleep_by : Machine → Memory → WorldView
asleep_by machine frames = shown_at machine frames sleeps []

abbrev pub running_by : Machine → Memory → WorldView
running_by machine frames = shown_at machine frames runs []
