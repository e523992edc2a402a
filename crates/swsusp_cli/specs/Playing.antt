-- Events played one after another.
use Rattle.std.specs.Prelude.{◌≡◌, ◌≤◌, ◌<◌, ℕ, ◌+◌, List, ◌++◌, length, Option, Some}
use Rattle.definitions.specs.Disk as disk
use Rattle.plain_machine.specs.State.{State}
use Rattle.plain_machine.specs.Step.{Run}
use Rattle.plain_machine.specs.declared.event.Event.{Event}
use Rattle.plain_machine.specs.declared.reply.Reply.{Reply}
use Rattle.protocol_laws.specs.Replays.{IsOfReplay}
use Rattle.protocol_laws.specs.Rows.{IsSameArea, LeavesBlock}
use Rattle.world_core.specs.StandsFor.{StandsFor, hardware_of}
use Rattle.world_core.specs.World.{World}
use Rattle.swsusp_cli.specs.Replay.{IsNoSlot, orders_of}
use Rattle.command_core.specs.Turns.{AreCounted, steps_of}
use Rattle.command_kit.specs.View.{DiskView}

-- From the state a and the content c, the events gave these replies and led to b and c', for which the world stands.
-- The area on the disk and the blocks on which no slot lies stayed as they were, and b is a state of a replay.
pub record Played (old new : World) (events : List Event) (now : Option disk.Content) (c c' : disk.Content)
    (a b : State) (replies : List Reply) : Type 0 where
  pub told : now ≡ Some c'
  pub area : IsSameArea (hardware_of old) (disk.as_it_reads c) (disk.as_it_reads c')
  pub run : Run (hardware_of old) (disk.as_it_reads c) a events replies b
  pub stands : StandsFor new c' b
  pub of_replay : IsOfReplay b
  pub unwritten : 0 < (hardware_of old).slots → (b : ℕ) → IsNoSlot (hardware_of old) b → LeavesBlock b c c'

-- Each event got a reply, and each step made at most one call of the disk. The disk was asked for exactly what the
-- events ask for, and its count of faults allows for the replies. From every content and state of a replay that the
-- world stood for, the replies are a run.
pub record HasPlayed (old new : World) (events : List Event) (replies : List Reply)
    (before now : DiskView) : Type 0 where
  pub size : length replies ≡ length events
  pub calls : now.calls ≤ before.calls + steps_of events
  pub orders : now.orders ≡ before.orders ++ orders_of events
  pub faults : AreCounted replies before.faults now.faults
  pub run : (c : disk.Content) (a : State) → before.content ≡ Some c → StandsFor old c a → IsOfReplay a →
      (c' : disk.Content) × (b : State) × Played old new events now.content c c' a b replies
