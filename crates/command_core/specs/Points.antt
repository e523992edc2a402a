-- Events of a command, one after another: the state of the plain machine and the content of the disk between them, and
-- whether a call of the disk has failed so far.
use Rattle.std.specs.Prelude.{◌≡◌, ◌⊎◌, ℕ, zero, suc, Bool, true, false, Contains}
use Rattle.definitions.specs.Disk as disk
use Rattle.plain_machine.specs.Machine.{Hardware, Memory}
use Rattle.plain_machine.specs.Shows.{WorldView}
use Rattle.plain_machine.specs.Stands.{Stands}
use Rattle.plain_machine.specs.State.{State, loading, Load}
use Rattle.plain_machine.specs.Step.{Step}
use Rattle.plain_machine.specs.declared.event.Actor.TheVariants as actor
use Rattle.plain_machine.specs.declared.event.Event.{Event}
use Rattle.plain_machine.specs.declared.event.Event.TheVariants as event
use Rattle.plain_machine.specs.declared.reply.Reply.{Reply}
use Rattle.plain_machine.specs.declared.reply.Reply.TheVariants as reply
use Rattle.protocol_laws.specs.Rows.{IsSameArea, LeavesBlock, LeavesHeader, blocks_written, TellsNewFault}
use Rattle.resume_core.specs.Restored.{restored_by}
use Rattle.command_core.specs.Runs.{goes_on}
use Rattle.command_core.specs.declared.ending.Ended.{Ended}

-- After an event: the reply, whether a call of the disk has failed so far, the state of the plain machine, what the
-- disk holds, and the page frames.
pub record Point : Type 0 where
  pub reply : Reply
  pub failed : Bool
  pub state : State
  pub content : disk.Content
  pub frames : Memory

-- what is shown of some world stands for the state over that disk
abbrev pub StandsAt : Hardware → Point → Type 0
StandsAt h p = (shown : WorldView) × Stands h shown p.content p.state

-- The plain machine gives the reply to this event, and goes on to the state, for which the disk stands. The area on the
-- disk stays, no block is written but those that the event may write, and block(0) is as LeavesHeader says. A call that
-- failed is noticed, and no other. After a resume that has ended, the page frames are those that it restores.
pub record IsTurn (h : Hardware) (e : Event) (old new : Point) : Type 0 where
  pub step : Step h (disk.as_it_reads old.content) old.state e new.reply new.state
  pub area : IsSameArea h (disk.as_it_reads old.content) (disk.as_it_reads new.content)
  pub unwritten : (b : ℕ) → (Contains (blocks_written h old.state) b → ⊥) → LeavesBlock b old.content new.content
  pub header : LeavesHeader h old.state old.content new.content
  pub stands : StandsAt h new
  pub blocks : ℕ
  pub whole : disk.IsContent blocks new.content
  pub noticed : TellsNewFault new.reply → new.failed ≡ true
  pub noted : old.failed ≡ true → new.failed ≡ true
  pub no_other : new.failed ≡ true → (old.failed ≡ true) ⊎ TellsNewFault new.reply
  pub restored : (load : Load) (k n : ℕ) → e ≡ event.Step actor.Core → old.state ≡ loading load k →
      new.reply ≡ reply.Resumed n → new.frames ≡ restored_by h load

-- the given number of steps of the core, each after a reply that goes on
abbrev pub AreSteps : Hardware → ℕ → Point → Point → Type 0
AreSteps h zero old new = new ≡ old
AreSteps h (suc n) old new =
    (mid : Point) × AreSteps h n old mid × (goes_on mid.reply ≡ true) × IsTurn h (event.Step actor.Core) mid new

-- A crash inside a step from this point on may leave this image: each of its sectors is from before the step or after
-- it.
pub record IsLeftInside (h : Hardware) (start : Point) (w : disk.DiskImage) : Type 0 where
  pub steps : ℕ
  pub before : Point
  pub after : Point
  pub are : AreSteps h steps start before
  pub goes : goes_on before.reply ≡ true
  pub turn : IsTurn h (event.Step actor.Core) before after
  pub mixed : disk.IsMixture before.content after.content w

-- The steps from this point on have led to the end, at which `shown` is shown and the disk holds `now`. No step is left
-- to make.
pub record HasGone (h : Hardware) (start : Point) (ended : Ended) (shown : WorldView)
    (now : disk.Content) : Type 0 where
  pub steps : ℕ
  pub end : Point
  pub are : AreSteps h steps start end
  pub reply_is : end.reply ≡ ended.reply
  pub failed_is : end.failed ≡ ended.failed
  pub stands : Stands h shown end.content end.state
  pub frames : end.frames ≡ shown.frames
  pub content_is : end.content ≡ now
  pub over : goes_on ended.reply ≡ false
