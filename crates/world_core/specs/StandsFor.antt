-- When a world and a disk stand for a state of the plain machine.
use Rattle.std.specs.Prelude.{◌≡◌, ℕ, List, [], Bool, true, false, Option, Some, None}
use Rattle.std.specs.List.{zip}
use Rattle.definitions.specs.Disk as disk
use Rattle.plain_machine.specs.Machine.{Hardware, Memory, Fits}
use Rattle.plain_machine.specs.Chain.{Marked}
use Rattle.plain_machine.specs.UsableArea.{HasOriginal}
use Rattle.plain_machine.specs.State.{State, off, nothing, sure, other}
use Rattle.machine.specs.Flights.{flights_in}
use Rattle.plain_machine.specs.Shows.{WorldView, Activity, rests, runs, boots, hibernates, undoes, settles, wakes}
use Rattle.plain_machine.specs.Shows.{sleeps, loads}
use Rattle.plain_machine.specs.Stands.{Stands}
use Rattle.plain_machine.specs.declared.event.IdentCheck.{IdentCheck}
use Rattle.plain_machine.specs.declared.event.Loader.{Loader}
use Rattle.plain_machine.specs.declared.reply.Reply.{Reply}
use Rattle.placement.specs.Waiting.{waiting_pages}
use Rattle.machine.specs.Running.{reason_of}
use Rattle.machine.specs.declared.machine.Machine.{Machine}
use Rattle.hib_core.specs.Hibernation as hibernation
use Rattle.hib_core.specs.Ready.{IsBusy}
use Rattle.hib_core.specs.Row.{IsOfState}
use Rattle.hib_core.specs.declared.hib.Hib.{Hib}
use Rattle.hib_core.specs.declared.phase.Phase.{Phase}
use Rattle.hib_core.specs.declared.phase.Phase.TheVariants as phase
use Rattle.resume_core.specs.Loading as resumption
use Rattle.resume_core.specs.Ready as resume_ready
use Rattle.resume_core.specs.Row as resume_row
use Rattle.resume_core.specs.declared.load.Load.{Load}
use Rattle.resume_core.specs.declared.phase.Phase.{Phase as LoadPhase}
use Rattle.resume_core.specs.declared.phase.Phase.TheVariants as load_phase
use Rattle.hib_core.specs.Waking as waking
use Rattle.hib_core.specs.declared.waking.phase.Phase.{Phase as WakingPhase}
use Rattle.hib_core.specs.declared.waking.phase.Phase.TheVariants as waking_phase
use Rattle.hib_core.specs.declared.waking.waker.Waker.{Waker}
use Rattle.world_core.specs.declared.world.Core.{Core}
use Rattle.world_core.specs.declared.world.Core.TheVariants.{Off, Running, BootBegun, BootSynced, Hibernating, Asleep}
use Rattle.world_core.specs.declared.world.Core.TheVariants.{Waking, Loading}
use Rattle.world_core.specs.World.{World}

abbrev pub hardware_of : World → Hardware
hardware_of w = w.machine.hw

-- the disk's number of blocks at the last boot
abbrev pub blocks_of : World → ℕ
blocks_of w = w.machine.blocks

-- whether a world is off, and whether its memory is then still a dump's
abbrev pub is_off : Core → Bool
is_off (Off keeps) = true
is_off _ = false

abbrev pub IsOff : World → Type 0
IsOff w = is_off w.core ≡ true

abbrev pub keeps_dump : Core → Bool
keeps_dump (Off keeps) = keeps
keeps_dump _ = false

-- a world that hibernates, settles or resumes has a step to make
pub record IsBusyIn (w : World) : Type 0 where
  pub hibernates : w.core ≡ Hibernating → IsBusy w.hib
  pub resumes : w.core ≡ Loading → resume_ready.IsBusy w.load

abbrev pub activity_of : Core → Hib → Load → Waker → Activity
activity_of (Off keeps) hib load waker = rests
activity_of Running hib load waker = runs
activity_of (BootBegun from) hib load waker = boots from 0
activity_of (BootSynced from) hib load waker = boots from 1
activity_of Hibernating hib load waker = hibernation.activity_of hib
activity_of Asleep hib load waker = sleeps
activity_of Waking hib load waker = waking.activity_of waker
activity_of Loading hib load waker = resumption.activity_of load

-- the block that is kept, the page frames of the copies, and the waiting pages by page frame
abbrev pub header_of : Core → Hib → Load → Waker → List ℕ
header_of Hibernating hib load waker = hibernation.header_at hib.stage
header_of Waking hib load waker = waking.header_at waker.stage
header_of Loading hib load waker = resumption.header_at load.stage
header_of _ hib load waker = []

abbrev pub copies_of : Core → Hib → List ℕ
copies_of Hibernating hib = hib.snapshot.copies
copies_of _ hib = []

-- the loader and the check of a resume
abbrev pub resume_of : Core → Load → Option (Loader × IdentCheck)
resume_of Loading load = Some (load.loader, load.check)
resume_of _ load = None

abbrev pub loaded_of : Core → Memory → Load → List (ℕ × List ℕ)
loaded_of Loading frames load = zip load.waiting.originals (waiting_pages frames load.waiting)
loaded_of _ frames load = []

-- What is shown between two calls of the disk. A hibernation keeps a block and has copies; a settling or a waking keeps
-- a block; a resume keeps a block, and has a loader, a check and loaded pages.
abbrev pub shown_at : Core → Machine → Memory → Hib → Load → Waker → WorldView
shown_at core machine frames hib load waker = record {
  activity = activity_of core hib load waker;
  keeps_dump = keeps_dump core;
  held = machine.held;
  unusable = reason_of machine.area;
  flights = flights_in machine.flights;
  frames = frames;
  header = header_of core hib load waker;
  copies = copies_of core hib;
  resume = resume_of core load;
  loaded = loaded_of core frames load;
}

abbrev pub shown : World → WorldView
shown w = shown_at w.core w.machine w.frames w.hib w.load w.waker

-- A world and its disk stand for a state. If the world hibernates, its numbers and sets are those of the state's image;
-- if it resumes, its resume is the state's.
pub record StandsFor (w : World) (c : disk.Content) (a : State) : Type 0 where
  pub stands : Stands (hardware_of w) (shown w) c a
  pub image : IsOfState (hardware_of w) w.frames w.hib a
  pub resume : resume_row.IsOfState w.machine w.frames w.load c a

-- what a world is at, by the activity of its hibernation, settling, waking or resume
abbrev pub core_at : Activity → Core
core_at rests = Off false
core_at (hibernates suspends k) = Hibernating
core_at (undoes call k) = Hibernating
core_at (settles k) = Hibernating
core_at (wakes k) = Waking
core_at sleeps = Asleep
core_at (loads k) = Loading
core_at _ = Running

-- what it is at by the phase of a hibernation or a settling, and after this reply to its begin or a step of it
abbrev pub core_in : Phase → Core
core_in phase.UnderWay = Hibernating
core_in phase.Runs = Running
core_in phase.Off = Off false
core_in phase.Asleep = Asleep

abbrev pub core_told : Reply → Core
core_told r = core_in (hibernation.phase_told r)

-- what it is at by the phase of a waking, and after this reply to a step of one
abbrev pub core_waking : WakingPhase → Core
core_waking waking_phase.UnderWay = Waking
core_waking waking_phase.Runs = Running
core_waking waking_phase.Asleep = Asleep

abbrev pub core_woken : Reply → Core
core_woken r = core_waking (waking.phase_told r)

-- what it is at by the phase of a resume
abbrev pub core_loading : LoadPhase → Core
core_loading load_phase.UnderWay = Loading
core_loading load_phase.Runs = Running
core_loading load_phase.Off = Off false

-- memory is a dump's and fits, or nothing is kept
abbrev pub IsKeptDump : Hardware → Memory → Bool → Option Memory → Type 0
IsKeptDump h frames keeps None = keeps ≡ false
IsKeptDump h frames keeps (Some m) = (keeps ≡ true) × (frames ≡ m) × Fits h m

-- A new world is off, and its memory is a dump's or nothing. Over a disk with one image it stands for a machine with
-- nothing held if that image isn't marked, else for one that holds another's image, if taking the mark back leaves
-- none.
pub record IsNewWorld (h : Hardware) (kept : Option Memory) (w : World) : Type 0 where
  pub hardware : hardware_of w ≡ h
  pub at_rest : IsOff w
  pub blocks : blocks_of w ≡ 0
  pub unmarked : (v : disk.DiskImage) → (Marked h v → ⊥) → StandsFor w (disk.settled v) (off nothing kept)
  pub marked : (v : disk.DiskImage) → Marked h v → HasOriginal h v →
      StandsFor w (disk.settled v) (off (sure other) kept)
