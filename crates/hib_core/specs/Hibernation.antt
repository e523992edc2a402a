-- A hibernation or a settling, and what a machine shows during one.
use Rattle.std.specs.Prelude.{◌≡◌, ℕ, ◌-◌, List, [], Bool, true, false, None}
use Rattle.plain_machine.specs.Machine.{Memory}
use Rattle.plain_machine.specs.Shows.{WorldView, Activity, rests, runs, hibernates, undoes, settles, sleeps}
use Rattle.plain_machine.specs.declared.held.Held.{Held}
use Rattle.plain_machine.specs.declared.held.Held.TheVariants.{No, Yes, Perhaps}
use Rattle.plain_machine.specs.declared.reply.Reply.{Reply}
use Rattle.plain_machine.specs.declared.reply.Reply.TheVariants as reply
use Rattle.machine.specs.Flights.{flights_in}
use Rattle.machine.specs.Running.{reason_of}
use Rattle.machine.specs.declared.machine.Machine.{Machine}
use Rattle.unmark.specs.Unmarking.{calls_before}
use Rattle.hib_core.specs.declared.hib.Ending.{Ending}
use Rattle.hib_core.specs.declared.hib.Ending.TheVariants as ending
use Rattle.hib_core.specs.declared.hib.Hib.{Hib}
use Rattle.hib_core.specs.declared.hib.Saving.{Saving}
use Rattle.hib_core.specs.declared.hib.Stage.{Stage}
use Rattle.hib_core.specs.declared.hib.Stage.TheVariants as stage
use Rattle.hib_core.specs.declared.phase.Phase.{Phase}
use Rattle.hib_core.specs.declared.phase.Phase.TheVariants as phase

-- whether a hibernation with this ending is a suspend
abbrev pub suspends_at : Ending → Bool
suspends_at ending.SwitchesOff = false
suspends_at ending.Sleeps = true

-- the machine's activity while it saves an image, with the number of steps made
abbrev pub activity_saving : Saving → Activity
activity_saving saving = hibernates (suspends_at saving.ending) saving.done

abbrev pub activity_at : Stage → Activity
activity_at stage.Idle = runs
activity_at stage.Over = rests
activity_at stage.Asleep = sleeps
activity_at (stage.Write saving writer) = activity_saving saving
activity_at (stage.Sync saving) = activity_saving saving
activity_at (stage.Read saving) = activity_saving saving
activity_at (stage.Mark saving header) = activity_saving saving
activity_at (stage.End saving header) = activity_saving saving
activity_at (stage.Undo call unmark) = undoes call (calls_before unmark.next - 1)
activity_at (stage.Settle unmark) = settles (calls_before unmark.next)

abbrev pub activity_of : Hib → Activity
activity_of hib = activity_at hib.stage

-- the header block kept between two disk calls, if there is one
abbrev pub header_at : Stage → List ℕ
header_at (stage.Mark saving header) = header
header_at (stage.End saving header) = header
header_at (stage.Undo call unmark) = unmark.header
header_at (stage.Settle unmark) = unmark.header
header_at _ = []

-- whether there is a step to make, and what the machine is if there is none
abbrev pub phase_at : Stage → Phase
phase_at stage.Idle = phase.Runs
phase_at stage.Over = phase.Off
phase_at stage.Asleep = phase.Asleep
phase_at _ = phase.UnderWay

abbrev pub phase_of : Hib → Phase
phase_of hib = phase_at hib.stage

-- the phase after this reply to a begin or a step
abbrev pub phase_told : Reply → Phase
phase_told (reply.More k of) = phase.UnderWay
phase_told (reply.Undo call k) = phase.UnderWay
phase_told (reply.Hibernated n) = phase.Off
phase_told (reply.Asleep n) = phase.Asleep
phase_told _ = phase.Runs

-- what is held after a call that may have removed the image
abbrev pub perhaps_held : Held → Held
perhaps_held No = No
perhaps_held Yes = Perhaps
perhaps_held Perhaps = Perhaps

-- what is shown during the operation, with the header block that is kept and the page frames of the copies
abbrev pub shown_by : Machine → Memory → Hib → WorldView
shown_by machine frames hib = record {
  activity = activity_of hib;
  keeps_dump = false;
  held = machine.held;
  unusable = reason_of machine.area;
  flights = flights_in machine.flights;
  frames = frames;
  header = header_at hib.stage;
  copies = hib.snapshot.copies;
  resume = None;
  loaded = [];
}

-- what a running machine shows
abbrev pub running_by : Machine → Memory → WorldView
running_by machine frames = record {
  activity = runs;
  keeps_dump = false;
  held = machine.held;
  unusable = reason_of machine.area;
  flights = flights_in machine.flights;
  frames = frames;
  header = [];
  copies = [];
  resume = None;
  loaded = [];
}

-- over the zones of a machine, with nothing under way
pub record IsIdle (zones : List (ℕ × ℕ)) (hib : Hib) : Type 0 where
  pub idle : hib.stage ≡ stage.Idle
  pub over : hib.snapshot.zones ≡ zones
