-- What a resume would answer, without making it.
use Rattle.std.specs.Prelude.{◌≡◌, ◌⊎◌, ℕ, true, false}
use Rattle.definitions.specs.Disk as disk
use Rattle.plain_machine.specs.Machine.{Hardware, Memory}
use Rattle.plain_machine.specs.Trace.{trace, restored_in}
use Rattle.plain_machine.specs.declared.event.IdentCheck.{IdentCheck}
use Rattle.plain_machine.specs.declared.event.Loader.TheVariants.{Table}
use Rattle.plain_machine.specs.declared.reply.Reply.TheVariants as reply
use Rattle.command_core.specs.Hibernations.{EndsInFault}
use Rattle.command_core.specs.Resumptions.{IsLast}
use Rattle.command_core.specs.declared.ending.Ended.{Ended}

-- The answer over a disk that reads as v: the last reply of a resume's trace, unless a call of the disk has failed. If
-- the reply is Resumed, the page frames are those that the resume would restore.
pub record Foretells (h : Hardware) (m : Memory) (check : IdentCheck) (v : disk.DiskImage) (frames : Memory)
    (ended : Ended) : Type 0 where
  pub answer : (IsLast (trace h m v Table check) ended.reply × (ended.failed ≡ false))
      ⊎ (EndsInFault ended.reply × (ended.failed ≡ true))
  pub restored : (n : ℕ) → ended.reply ≡ reply.Resumed n → frames ≡ restored_in h m v Table
