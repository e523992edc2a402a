-- What a step of the core does to a world that boots, hibernates, settles, wakes or resumes.
use Rattle.std.specs.Prelude.{◌≡◌, ◌≢◌, ◌<◌, Option}
use Rattle.definitions.specs.Disk.{Content}
use Rattle.plain_machine.specs.declared.event.Actor.TheVariants as actor
use Rattle.plain_machine.specs.declared.event.Event.TheVariants as event
use Rattle.plain_machine.specs.declared.reply.Reply.{Reply}
use Rattle.plain_machine.specs.declared.reply.Reply.TheVariants as reply
use Rattle.world_core.specs.Row.{SimulatesWhereTold, Restores, TellsImage}
use Rattle.world_core.specs.StandsFor.{hardware_of, blocks_of}
use Rattle.world_core.specs.StepsLeft.{steps_left}
use Rattle.world_core.specs.World.{World}

-- Whichever way its call of the disk ends, it is a step of the plain machine, it says whether an image exists and
-- restores one where it should, and it leaves fewer steps to make.
pub record HasStepped (old new : World) (r : Reply) (before now : Option Content) : Type 0 where
  pub row : SimulatesWhereTold (event.Step actor.Core) old new r before now
  pub restored : Restores (event.Step actor.Core) old new r before now
  pub image : TellsImage (event.Step actor.Core) old r before
  pub works : r ≢ reply.Idle
  pub fewer : steps_left new < steps_left old
  pub hardware : hardware_of new ≡ hardware_of old
  pub blocks : blocks_of new ≡ blocks_of old
