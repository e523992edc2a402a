-- What events make of a world and its disk, whichever calls of the disk fail.
use Rattle.std.specs.Prelude.{◌≡◌, ◌≤◌, ◌⊎◌, ◌+◌, ℕ, List, Some, IsTrue}
use Rattle.definitions.specs.Disk as disk
use Rattle.plain_machine.specs.Machine.{Hardware}
use Rattle.plain_machine.specs.State.{State}
use Rattle.plain_machine.specs.declared.event.Event.{Event}
use Rattle.plain_machine.specs.declared.reply.Reply.{Reply}
use Rattle.sector_disk.specs.declared.disk.Disk.{Ghosts}
use Rattle.world_core.specs.StandsFor.{StandsFor, hardware_of, shown}
use Rattle.world_core.specs.World.{World}
use Rattle.command_core.specs.Turns.{AreCounted, steps_of}
use Rattle.command_core.specs.Turns.{Situation, AreTurns, IsLeftInside, end_of}

-- the situation of a world with its disk, which stand for this state
abbrev pub situation_of : World → disk.Content → State → Situation
situation_of w c a = record { state = a; shown = shown w; content = c }

-- The disk's clock hasn't gone back. What a crash since an earlier moment may leave now, it might have left before or
-- inside one of the events.
pub record Passes (p : Situation) (after : List Situation) (before now : ℕ)
    (past since : ℕ → disk.DiskImage → Type 0) : Type 0 where
  pub later : before ≤ now
  pub nothing_else : (t : ℕ) (w : disk.DiskImage) → t ≤ before → since t w → past t w ⊎ IsLeftInside p after w

-- The events lead from this situation to what the world and the disk stand for at the end.
pub record Leads {X : Type 0} (D : Ghosts X) (h : Hardware) (p : Situation) (events : List Event) (replies : List Reply)
    (new : World) (before after : X) : Type 0 where
  pub through : List Situation
  pub turns : AreTurns h p events replies through
  pub content : disk.Content
  pub state : State
  pub ends : end_of p through ≡ situation_of new content state
  pub told : D.content after ≡ Some content
  pub stands : StandsFor new content state
  pub time : IsTrue (D.tells_moments before) →
      Passes p through (D.moment before) (D.moment after) (D.left_since before) (D.left_since after)

-- The events got these replies. The disk was called at most once for each step event, and its count of faults allows
-- for the replies; and whatever state world and disk stood for, the events are a run from it.
pub record Played {X : Type 0} (D : Ghosts X) (old new : World) (events : List Event) (replies : List Reply)
    (before after : X) : Type 0 where
  pub hardware : hardware_of new ≡ hardware_of old
  pub calls : D.calls after ≤ D.calls before + steps_of events
  pub faults : AreCounted replies (D.faults before) (D.faults after)
  pub telling : D.tells_moments after ≡ D.tells_moments before
  pub leads : (c : disk.Content) (a : State) → D.content before ≡ Some c → StandsFor old c a →
      Leads D (hardware_of old) (situation_of old c a) events replies new before after
