-- How a simulated machine is kept.
use Rattle.std.specs.Prelude.{◌≡◌, ◌≢◌, ◌<◌, ◌≤◌, length, true, ⊤}
use Rattle.definitions.specs.Zones.{top}
use Rattle.plain_machine.specs.Machine.{block_of_slot}
use Rattle.plain_machine.specs.declared.held.Held.TheVariants.{No}
use Rattle.machine.specs.Running.{AreReserved, CanRun}
use Rattle.hib_core.specs.Ready.{CanStep, IsBusy}
use Rattle.resume_core.specs.Ready as resumption
use Rattle.hib_core.specs.Waking.{phase_of}
use Rattle.hib_core.specs.declared.waking.phase.Phase.TheVariants.{UnderWay}
use Rattle.world_core.specs.declared.world.Core.{Core}
use Rattle.world_core.specs.declared.world.Core.TheVariants.{Off, Running, BootBegun, BootSynced, Hibernating, Asleep}
use Rattle.world_core.specs.declared.world.Core.TheVariants.{Waking, Loading}
use Rattle.world_core.specs.declared.world.World.TheInside.{Inside}
use Rattle.world_core.specs.World.{World}

abbrev pub kept_world : Inside → World
kept_world a =
    record { machine = a.machine; frames = a.frames; hib = a.hib; load = a.load; waker = a.waker; core = a.core }

-- a machine that runs, hibernates, settles, sleeps or wakes has its area
abbrev pub IsUp : Core → Type 0
IsUp (Off keeps) = ⊥
IsUp Running = ⊤
IsUp (BootBegun from) = ⊥
IsUp (BootSynced from) = ⊥
IsUp Hibernating = ⊤
IsUp Asleep = ⊤
IsUp Waking = ⊤
IsUp Loading = ⊥

-- a machine whose memory is a dump's, or that boots, has the tables of a machine that can run
abbrev pub HasTables : Core → Type 0
HasTables (Off keeps) = keeps ≡ true
HasTables Running = ⊥
HasTables (BootBegun from) = ⊤
HasTables (BootSynced from) = ⊤
HasTables Hibernating = ⊥
HasTables Asleep = ⊥
HasTables Waking = ⊥
HasTables Loading = ⊥

-- a machine that sleeps or wakes perhaps has an image on its disk
abbrev pub IsDown : Core → Type 0
IsDown Asleep = ⊤
IsDown Waking = ⊤
IsDown _ = ⊥

-- Memory has the machine's page frames. Hibernation and resume are over its zones, and the free runs have room for its
-- slots. A machine that runs, hibernates, settles, sleeps or wakes can run. The header block is one of the disk's if
-- such a machine holds an image, surely or perhaps, or if it sleeps or wakes. A hibernation, a settling, a waking or a
-- resume can make its next step.
pub record IsKept (a : Inside) : Type 0 where
  pub size : length a.frames ≡ top a.machine.hw.zones
  pub zones : a.hib.snapshot.zones ≡ a.machine.hw.zones
  pub origs : a.load.origs.zones ≡ a.machine.hw.zones
  pub zeros : a.load.zeros.zones ≡ a.machine.hw.zones
  pub waiting : a.load.waiting.zones ≡ a.machine.hw.zones
  pub room : a.machine.hw.slots ≤ a.runs.room
  pub tables : HasTables a.core → AreReserved a.machine.hw a.frames
  pub run : IsUp a.core → CanRun a.machine a.frames a.runs
  pub header : IsUp a.core → a.machine.held ≢ No → block_of_slot a.machine.hw 0 < a.machine.blocks
  pub place : IsDown a.core → block_of_slot a.machine.hw 0 < a.machine.blocks
  pub busy : a.core ≡ Hibernating → CanStep a.machine a.frames a.runs a.hib × IsBusy a.hib
  pub wakes : a.core ≡ Waking → phase_of a.waker ≡ UnderWay
  pub loads : a.core ≡ Loading → resumption.CanStep a.machine a.frames a.runs a.load × resumption.IsBusy a.load
