-- The parts of a command's run, over the world that plays it.
use Rattle.std.specs.Prelude.{◌≡◌, ◌↔◌, ℕ, true, Bool, List, Option, None, Result, Ok, Err}
use Rattle.plain_machine.specs.declared.event.Event.{Event}
use Rattle.plain_machine.specs.declared.reply.Reply.{Reply}
use Rattle.sector_disk.specs.declared.disk.Disk.{Ghosts}
use Rattle.world_core.specs.World.{World}
use Rattle.command_core.specs.Played.{Played}
use Rattle.command_core.specs.Runs.{AreStepped, FailsToBoot, GoOn, HasNewFault, IsReady, core_steps, last_reply}
use Rattle.command_core.specs.declared.ending.Ended.{Ended}

-- a boot, a boot with the drop of cached page frames, and the steps of an operation
abbrev pub Boots : {X : Type 0} → Ghosts X → World → World → Result (Unit {0}) Ended → X → X → Type 0
Boots D old new (Ok done) before after =
    (events : List Event) × (replies : List Reply) × IsReady None events replies
    × Played D old new events replies before after
Boots D old new (Err ended) before after =
    (events : List Event) × (replies : List Reply) × FailsToBoot ended events replies
    × Played D old new events replies before after

abbrev pub Starts : {X : Type 0} → Ghosts X → Option ℕ → World → World → Result (Unit {0}) Ended → X → X → Type 0
Starts D size old new (Ok done) before after =
    (events : List Event) × (replies : List Reply) × IsReady size events replies
    × Played D old new events replies before after
Starts D size old new (Err ended) before after =
    (events : List Event) × (replies : List Reply) × FailsToBoot ended events replies
    × Played D old new events replies before after

-- steps of an operation that began with a reply: the last reply so far, and whether a call of the disk has failed
pub record AreSteppedSoFar (begun : Reply) (rest : List Reply) (last : Reply) (failed : Bool) : Type 0 where
  pub last_is : last_reply begun rest ≡ last
  pub goes : GoOn begun rest
  pub failed_is : (failed ≡ true) ↔ HasNewFault rest

abbrev pub GoesOn : {X : Type 0} → Ghosts X → World → World → Reply → Reply → Bool → X → X → Type 0
GoesOn D old new begun last failed before after =
    (rest : List Reply) × AreSteppedSoFar begun rest last failed
    × Played D old new (core_steps rest) rest before after

abbrev pub Finishes : {X : Type 0} → Ghosts X → World → World → Reply → Ended → X → X → Type 0
Finishes D old new begun ended before after =
    (rest : List Reply) × AreStepped begun rest ended × Played D old new (core_steps rest) rest before after
