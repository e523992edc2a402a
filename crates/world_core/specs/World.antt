-- A simulated machine, as contracts see it.
use Rattle.plain_machine.specs.Machine.{Memory}
use Rattle.machine.specs.declared.machine.Machine.{Machine}
use Rattle.hib_core.specs.declared.hib.Hib.{Hib}
use Rattle.resume_core.specs.declared.load.Load.{Load}
use Rattle.hib_core.specs.declared.waking.waker.Waker.{Waker}
use Rattle.world_core.specs.declared.world.Core.{Core}

-- the machine without its page frames, the page frames, its hibernation, its resume, its waking, and what it is at
pub record World : Type 0 where
  pub machine : Machine
  pub frames : Memory
  pub hib : Hib
  pub load : Load
  pub waker : Waker
  pub core : Core
