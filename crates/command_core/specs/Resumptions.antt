-- A whole resume into the memory of a loader's dump: the machine's last reply, and what it leaves. In Linux:
-- software_resume, kernel/power/hibernate.c.
use Rattle.std.specs.Prelude.{◌≡◌, ◌≢◌, ◌⊎◌, ℕ, true, false, List, [], ◌∷◌, ◌++◌, Option, Some, ⊤}
use Rattle.definitions.specs.Disk as disk
use Rattle.plain_machine.specs.Chain.{Marked}
use Rattle.plain_machine.specs.Machine.{Hardware, Memory, block_of_slot}
use Rattle.plain_machine.specs.Stands.{EachImage}
use Rattle.plain_machine.specs.Trace.{trace, header_cause, restored_in}
use Rattle.plain_machine.specs.declared.event.IdentCheck.{IdentCheck}
use Rattle.plain_machine.specs.declared.event.Loader.TheVariants.{Table}
use Rattle.plain_machine.specs.declared.reply.Left.TheVariants.{Gone}
use Rattle.plain_machine.specs.declared.reply.Reply.{Reply}
use Rattle.plain_machine.specs.declared.reply.Reply.TheVariants as reply
use Rattle.protocol_laws.specs.Rows.{LeavesBlock}
use Rattle.command_core.specs.Runs.{goes_on}
use Rattle.command_core.specs.declared.ending.Ended.{Ended}
use Rattle.command_core.specs.Hibernations.{EndsInFault}

-- this is the last of the replies
abbrev pub IsLast : List Reply → Reply → Type 0
IsLast replies r = (front : List Reply) × (replies ≡ front ++ r ∷ [])

-- The replies after which an image that existed may still exist: it is compressed, or a call of the disk failed before
-- it was certain that the image is gone.
abbrev pub MayLeaveMark : Reply → Type 0
MayLeaveMark (reply.Compressed flags) = ⊤
MayLeaveMark (reply.ReadFault Gone) = ⊥
MayLeaveMark (reply.WriteFault Gone) = ⊥
MayLeaveMark (reply.SyncFault Gone) = ⊥
MayLeaveMark r = EndsInFault r

-- The last reply of the machine over the disk v: the last one of its trace, unless a call of the disk has failed. If it
-- is Resumed, the page frames are those that are restored. In that case, after each refusal except that of a compressed
-- image, and after a fault that says that the image is gone, no image of the disk is marked. Only block(0) may be
-- written, and nothing if no image was found or it is compressed.
pub record HasResumed (h : Hardware) (m : Memory) (check : IdentCheck) (v : disk.DiskImage) (frames : Memory)
    (ended : Ended) (now : Option disk.Content) : Type 0 where
  pub content : disk.Content
  pub told : now ≡ Some content
  pub answer : (IsLast (trace h m v Table check) ended.reply × (ended.failed ≡ false))
      ⊎ (EndsInFault ended.reply × (ended.failed ≡ true))
  pub over : goes_on ended.reply ≡ false
  pub restored : (n : ℕ) → ended.reply ≡ reply.Resumed n → frames ≡ restored_in h m v Table
  pub gone : MayLeaveMark ended.reply ⊎ EachImage content (λ w. Marked h w → ⊥)
  pub unwritten : (b : ℕ) → b ≢ block_of_slot h 0 → LeavesBlock b (disk.settled v) content
  pub untouched : (r : Reply) → header_cause h v ≡ Some r → (b : ℕ) → LeavesBlock b (disk.settled v) content
