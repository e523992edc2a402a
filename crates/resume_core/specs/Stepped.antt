-- What the steps of a resume do.
use Rattle.std.specs.Prelude.{◌≡◌, ◌<◌, false, Option}
use Rattle.definitions.specs.Disk.{Content}
use Rattle.swap_slots.specs.Runs.{SlotRuns}
use Rattle.plain_machine.specs.Machine.{Memory}
use Rattle.plain_machine.specs.declared.event.Event.TheVariants as event
use Rattle.plain_machine.specs.declared.event.Actor.TheVariants as actor
use Rattle.plain_machine.specs.declared.reply.Reply.{Reply}
use Rattle.protocol_laws.specs.Rows.{TellsNewFault, is_idle}
use Rattle.machine.specs.declared.machine.Machine.{Machine}
use Rattle.resume_core.specs.Loading.{activity_of, activity_told}
use Rattle.resume_core.specs.Ready.{CanStep, IsSameMachine}
use Rattle.resume_core.specs.Row.{SimulatesWhereTold}
use Rattle.resume_core.specs.StepsLeft.{loading_steps_left}
use Rattle.resume_core.specs.declared.load.Load.{Load}

-- What a step of a resume does, whether its call of the disk succeeds or fails. `before` and `now` are what the disk
-- tells of its content before and after the step.
pub record HasStepped (old : Machine) (frames : Memory) (load : Load) (new : Machine) (frames' : Memory)
    (runs' : SlotRuns) (load' : Load) (r : Reply) (before now : Option Content) : Type 0 where
  -- the step is one of the plain machine's
  pub row : SimulatesWhereTold old frames load new frames' load' (event.Step actor.Core) r before now
  pub activity : activity_of load' ≡ activity_told load.loader r
  pub loader : load'.loader ≡ load.loader
  -- there was a step to make
  pub works : is_idle r ≡ false
  -- the next step can be made
  pub ready : CanStep new frames' runs' load'
  pub fewer : loading_steps_left load' < loading_steps_left load
  pub machine : IsSameMachine old new

-- What the rest of a step does once the step has read its block: the resume goes on, or it ends.
pub record HasProceeded (old : Machine) (load : Load) (new : Machine) (frames' : Memory) (runs' : SlotRuns)
    (load' : Load) (r : Reply) : Type 0 where
  pub activity : activity_of load' ≡ activity_told load.loader r
  pub loader : load'.loader ≡ load.loader
  pub works : is_idle r ≡ false
  pub ready : CanStep new frames' runs' load'
  pub no_fault : TellsNewFault r → ⊥
  pub machine : IsSameMachine old new
