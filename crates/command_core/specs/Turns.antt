-- A machine's run over a disk: its events, each with its reply, and the situations between them. It has no counterpart
-- in Linux.
use Rattle.std.specs.Prelude.{◌≡◌, ◌⊎◌, ℕ, List, [], ◌∷◌, Contains, ⊤, ◌≤◌, length, filter, Bool, true, false}
use Rattle.definitions.specs.Disk as disk
use Rattle.plain_machine.specs.Machine.{Hardware}
use Rattle.plain_machine.specs.Shows.{WorldView}
use Rattle.plain_machine.specs.Stands.{Stands}
use Rattle.plain_machine.specs.State.{State, loading, Load}
use Rattle.plain_machine.specs.Step.{Step}
use Rattle.plain_machine.specs.declared.event.Actor.TheVariants as actor
use Rattle.plain_machine.specs.declared.event.Event.{Event}
use Rattle.plain_machine.specs.declared.event.Event.TheVariants as event
use Rattle.plain_machine.specs.declared.reply.Reply.{Reply}
use Rattle.plain_machine.specs.declared.reply.Reply.TheVariants as reply
use Rattle.protocol_laws.specs.Rows.{IsSameArea, LeavesBlock, LeavesHeader, LeavesImage, blocks_at, TellsNewFault}
use Rattle.resume_core.specs.Restored.{restored_by}
use Rattle.definitions.specs.Disk.{HasRisen}

-- The situation between two events: the state of the plain machine, what is shown of the world, and what the disk
-- holds.
pub record Situation : Type 0 where
  pub state : State
  pub shown : WorldView
  pub content : disk.Content

-- The plain machine gives this reply to the event, over the disk as it reads then, and goes on to a state that the new
-- situation stands for. The disk is whole, its area stays, and no block is written but those that the event may write.
-- A hibernation that has ended has left its image, and block(0) is as LeavesHeader says. After a resume that has ended,
-- the page frames are those that it restores.
pub record Turn (h : Hardware) (e : Event) (r : Reply) (p q : Situation) : Type 0 where
  pub step : Step h (disk.as_it_reads p.content) p.state e r q.state
  pub stands : Stands h q.shown q.content q.state
  pub whole : (blocks : ℕ) × disk.IsContent blocks q.content
  pub area : IsSameArea h (disk.as_it_reads p.content) (disk.as_it_reads q.content)
  pub unwritten : (b : ℕ) → (Contains (blocks_at h e p.state) b → ⊥) → LeavesBlock b p.content q.content
  pub image : LeavesImage h e r p.state q.content
  pub header : LeavesHeader h p.state p.content q.content
  pub restored : (load : Load) (k n : ℕ) → e ≡ event.Step actor.Core → p.state ≡ loading load k →
      r ≡ reply.Resumed n → q.shown.frames ≡ restored_by h load

-- The events, one by one, lead from the situation p through these situations.
abbrev pub AreTurns : Hardware → Situation → List Event → List Reply → List Situation → Type 0
AreTurns h p [] [] [] = ⊤
AreTurns h p (e ∷ events) (r ∷ replies) (q ∷ after) = Turn h e r p q × AreTurns h q events replies after
AreTurns h p _ _ _ = ⊥

-- the situation at the end
abbrev pub end_of : Situation → List Situation → Situation
end_of p [] = p
end_of p (q ∷ after) = end_of q after

-- A crash inside one of the events may leave this image: each of its sectors is as the disk held it before the event or
-- after it.
abbrev pub IsLeftInside : Situation → List Situation → disk.DiskImage → Type 0
IsLeftInside p [] w = ⊥
IsLeftInside p (q ∷ after) w = disk.IsMixture p.content q.content w ⊎ IsLeftInside q after w

-- How often a disk is called over some events, and how often it fails. It has no counterpart in Linux.

-- whether an event is a step, which may call the disk once
abbrev pub is_step : Event → Bool
is_step (event.Step x) = true
is_step _ = false

abbrev pub steps_of : List Event → ℕ
steps_of events = length (filter is_step events)

-- The disk's count of faults goes from `low` to `high` without falling, and rises at each reply that reports a failed
-- call at its event: there are at most as many such replies as the count rose by, unless it reached its greatest value.
abbrev pub AreCounted : List Reply → ℕ → ℕ → Type 0
AreCounted [] low high = low ≤ high
AreCounted (r ∷ replies) low high =
    (mid : ℕ) × (low ≤ mid) × (TellsNewFault r → HasRisen low mid) × AreCounted replies mid high
