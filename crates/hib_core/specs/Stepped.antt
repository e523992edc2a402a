-- A step of a hibernation, an undo or a settling.
use Rattle.std.specs.Prelude.{◌≡◌, ◌<◌, false, Option}
use Rattle.definitions.specs.Disk.{Content}
use Rattle.swap_slots.specs.Runs.{SlotRuns}
use Rattle.plain_machine.specs.Machine.{Memory}
use Rattle.plain_machine.specs.declared.event.Event.TheVariants as event
use Rattle.plain_machine.specs.declared.event.Actor.TheVariants as actor
use Rattle.plain_machine.specs.declared.reply.Reply.{Reply}
use Rattle.protocol_laws.specs.Rows.{is_idle}
use Rattle.machine.specs.declared.machine.Machine.{Machine}
use Rattle.hib_core.specs.Hibernation.{phase_of, phase_told}
use Rattle.hib_core.specs.Leaving.{Leaves, change_of}
use Rattle.hib_core.specs.Ready.{CanStep, IsSameMachine}
use Rattle.hib_core.specs.Row.{SimulatesWhereTold}
use Rattle.hib_core.specs.StepsLeft.{saving_steps_left}
use Rattle.hib_core.specs.declared.hib.Hib.{Hib}

-- What a step of a hibernation, an undo or a settling does, whichever way its call of the disk ends. If the disk tells
-- its content, it tells `before` before the step and `now` after it.
pub record HasStepped (old : Machine) (frames : Memory) (hib : Hib) (new : Machine) (frames' : Memory)
    (runs' : SlotRuns) (hib' : Hib) (r : Reply) (before now : Option Content) : Type 0 where
  -- it is a step of the plain machine, with the same reply
  pub row : SimulatesWhereTold old frames hib new frames' hib' (event.Step actor.Core) r before now
  pub phase : phase_of hib' ≡ phase_told r
  pub zones : hib'.snapshot.zones ≡ hib.snapshot.zones
  -- so every operation ends
  pub fewer : saving_steps_left hib' < saving_steps_left hib
  -- no reply says that there was nothing to do
  pub works : is_idle r ≡ false
  -- what the next step needs
  pub ready : CanStep new frames' runs' hib'
  pub machine : IsSameMachine old new
  -- what becomes of the page frames
  pub memory : Leaves (change_of r hib.stage) old.hw frames frames'
