-- A whole hibernation of a dump's machine: which machine hibernates, its last reply, and what it leaves. In Linux:
-- hibernate, kernel/power/hibernate.c.
use Rattle.std.specs.Prelude.{◌≡◌, ◌⊎◌, ℕ, true, false, ◌∷◌, Option, Some, None, ⊤, unwrap_or, Contains}
use Rattle.page_core.specs.declared.format.Format.{Format}
use Rattle.definitions.specs.Disk as disk
use Rattle.plain_machine.specs.Chain.{Marked, Holds}
use Rattle.plain_machine.specs.Machine.{Hardware, Memory, block_of_slot}
use Rattle.plain_machine.specs.Image.{Image, image_of_memory, n_of}
use Rattle.plain_machine.specs.Refusals.{refusal}
use Rattle.plain_machine.specs.Stands.{EachImage, IsOwn, laid_blocks}
use Rattle.plain_machine.specs.State.{Running, on}
use Rattle.plain_machine.specs.Step.{booted, drop_memory}
use Rattle.plain_machine.specs.declared.event.BootFrom.TheVariants.{Kept}
use Rattle.plain_machine.specs.declared.event.Event.TheVariants as event
use Rattle.plain_machine.specs.declared.reply.Reply.{Reply}
use Rattle.plain_machine.specs.declared.reply.Reply.TheVariants as reply
use Rattle.protocol_laws.specs.Rows.{LeavesBlock}
use Rattle.command_core.specs.Runs.{goes_on, held_at_first}
use Rattle.command_core.specs.declared.ending.Ended.{Ended}

-- a reply to a call of the disk that failed, at its event or before an undo
abbrev pub EndsInFault : Reply → Type 0
EndsInFault (reply.ReadFault left) = ⊤
EndsInFault (reply.WriteFault left) = ⊤
EndsInFault (reply.SyncFault left) = ⊤
EndsInFault _ = ⊥

-- the machine once it has booted with the dump's memory m, over the disk v
abbrev pub machine_of_dump : Hardware → Memory → disk.DiskImage → Running
machine_of_dump h m v = booted h v Kept m (held_at_first h v)

-- a running machine after its cached page frames were dropped until the wanted number of saveable ones were left, if a
-- size is asked for
abbrev pub shrunk_to : Hardware → Option ℕ → Running → Running
shrunk_to h None a = a
shrunk_to h (Some want) a = record a { memory = drop_memory h a.memory want }

-- the machine that hibernates
abbrev pub machine_to_save : Hardware → Memory → Option ℕ → disk.DiskImage → Running
machine_to_save h m size v = shrunk_to h size (machine_of_dump h m v)

-- the image that it saves
abbrev pub image_to_save : Hardware → Running → Format → Image
image_to_save h a f = image_of_memory h a.memory a.slots f

-- the last reply if no call of the disk fails: why the hibernation is refused, or how many page frames are saved
abbrev pub hibernation_answer : Hardware → Running → Format → Reply
hibernation_answer h a f =
    unwrap_or (refusal h (on a) (event.Hibernate f)) (reply.Hibernated (n_of (image_to_save h a f)))

-- A whole hibernation of a dump's machine: it boots with that memory, drops cached page frames if a size is asked for,
-- and hibernates.

-- The last reply of the machine a over the disk v, unless a call of the disk has failed. If the reply is Hibernated,
-- each image of the disk holds the machine's own image. No other block is written than block(0) and those of the
-- image's slots, and none if the hibernation is refused.
pub record HasHibernated (h : Hardware) (a : Running) (f : Format) (v : disk.DiskImage) (ended : Ended)
    (now : Option disk.Content) : Type 0 where
  pub content : disk.Content
  pub told : now ≡ Some content
  pub answer : ((ended.reply ≡ hibernation_answer h a f) × (ended.failed ≡ false))
      ⊎ (EndsInFault ended.reply × (ended.failed ≡ true))
  pub over : goes_on ended.reply ≡ false
  pub image : (n : ℕ) → ended.reply ≡ reply.Hibernated n →
      EachImage content (λ w. Holds h w (image_to_save h a f) × IsOwn h w (image_to_save h a f))
  pub unwritten : (b : ℕ) → (Contains (block_of_slot h 0 ∷ laid_blocks h a (image_to_save h a f)) b → ⊥) →
      LeavesBlock b (disk.settled v) content
  pub refused : (r : Reply) → refusal h (on a) (event.Hibernate f) ≡ Some r → (b : ℕ) →
      LeavesBlock b (disk.settled v) content

-- A disk that isn't marked, or holds this image.
abbrev pub IsUnmarkedOrHolds : Hardware → Image → disk.DiskImage → Type 0
IsUnmarkedOrHolds h i w = (Marked h w → ⊥) ⊎ Holds h w i
