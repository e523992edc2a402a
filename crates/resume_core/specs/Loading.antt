-- A resume, and what a machine shows during one.
use Rattle.std.specs.Prelude.{◌≡◌, ℕ, ◌+◌, ⊤, false, List, [], Some}
use Rattle.std.specs.List.{zip}
use Rattle.definitions.specs.Disk as disk
use Rattle.plain_machine.specs.Machine.{Hardware, Memory}
use Rattle.plain_machine.specs.Chain.{Marked}
use Rattle.plain_machine.specs.Shows.{WorldView, Activity, rests, runs, loads}
use Rattle.plain_machine.specs.declared.event.Loader.{Loader}
use Rattle.plain_machine.specs.declared.event.Loader.TheVariants as loader
use Rattle.plain_machine.specs.declared.reply.Reply.{Reply}
use Rattle.plain_machine.specs.declared.reply.Reply.TheVariants as reply
use Rattle.placement.specs.Waiting.{waiting_pages}
use Rattle.machine.specs.Flights.{flights_in}
use Rattle.machine.specs.Running.{reason_of}
use Rattle.machine.specs.declared.machine.Machine.{Machine}
use Rattle.unmark.specs.Unmarking.{calls_before}
use Rattle.resume_core.specs.declared.load.Load.{Load}
use Rattle.resume_core.specs.declared.load.Stage.{Stage}
use Rattle.resume_core.specs.declared.load.Stage.TheVariants as stage
use Rattle.resume_core.specs.declared.phase.Phase.{Phase}
use Rattle.resume_core.specs.declared.phase.Phase.TheVariants as phase

-- the machine's activity at each stage
abbrev pub activity_at : Stage → Activity
activity_at stage.Rest = rests
activity_at stage.Runs = runs
activity_at stage.Sync = loads 0
activity_at stage.Find = loads 1
activity_at (stage.Back unmark mark) = loads (calls_before unmark.next + 1)
activity_at (stage.List chain) = loads chain.done
activity_at (stage.Read chain) = loads chain.done

abbrev pub activity_of : Load → Activity
activity_of load = activity_at load.stage

-- the phase of a resume on a machine of this activity
abbrev pub phase_in : Activity → Phase
phase_in rests = phase.Off
phase_in runs = phase.Runs
phase_in _ = phase.UnderWay

abbrev pub phase_of : Load → Phase
phase_of load = phase_in (activity_of load)

-- the header block as it was found, while it is kept
abbrev pub header_at : Stage → List ℕ
header_at stage.Rest = []
header_at stage.Runs = []
header_at stage.Sync = []
header_at stage.Find = []
header_at (stage.Back unmark mark) = unmark.header
header_at (stage.List chain) = chain.header
header_at (stage.Read chain) = chain.header

-- the machine's activity after an image is resumed: after a dump's loader it is off
abbrev pub activity_resumed : Loader → Activity
activity_resumed (loader.Ranges ranges) = runs
activity_resumed loader.Table = rests

-- the machine's activity after this reply to a step or to the begin of a resume
abbrev pub activity_told : Loader → Reply → Activity
activity_told loader (reply.Loading k) = loads k
activity_told loader (reply.Resumed n) = activity_resumed loader
activity_told loader _ = rests

-- What the reply to the second step of a resume says of the disk v: it is marked, or it isn't. If the read failed, the
-- reply says nothing of it.
abbrev pub FindsMark : Hardware → Reply → disk.DiskImage → Type 0
FindsMark h (reply.Loading k) v = Marked h v
FindsMark h (reply.Compressed flags) v = Marked h v
FindsMark h reply.NoImage v = Marked h v → ⊥
FindsMark h (reply.ReadFault left) v = ⊤
FindsMark h _ v = ⊥

-- what is shown: the header block found, the loader and the check, and the waiting pages by page frame
abbrev pub shown_by : Machine → Memory → Load → WorldView
shown_by machine frames load = record {
  activity = activity_of load;
  keeps_dump = false;
  held = machine.held;
  unusable = reason_of machine.area;
  flights = flights_in machine.flights;
  frames = frames;
  header = header_at load.stage;
  copies = [];
  resume = Some (load.loader, load.check);
  loaded = zip load.waiting.originals (waiting_pages frames load.waiting);
}

-- over the zones of a machine, with no resume under way
pub record IsIdle (zones : List (ℕ × ℕ)) (load : Load) : Type 0 where
  pub idle : load.stage ≡ stage.Rest
  pub origs : load.origs.zones ≡ zones
  pub zeros : load.zeros.zones ≡ zones
  pub waiting : load.waiting.zones ≡ zones
