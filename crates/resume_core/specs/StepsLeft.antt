-- An upper bound for the steps left in a resume. Each step leaves fewer, over any disk, so a resume ends.
use Rattle.std.specs.Prelude.{◌+◌, ℕ}
use Rattle.image_read.specs.Reading.{places_left}
use Rattle.unmark.specs.Unmarking.{calls_left}
use Rattle.resume_core.specs.declared.load.Load.{Load}
use Rattle.resume_core.specs.declared.load.Stage.{Stage}
use Rattle.resume_core.specs.declared.load.Stage.TheVariants as stage

-- by stage: a chain has at most 65,794 blocks, and each stage before it takes one step
abbrev pub loading_steps_left_at : Stage → ℕ
loading_steps_left_at stage.Rest = 0
loading_steps_left_at stage.Runs = 0
loading_steps_left_at stage.Sync = 65800
loading_steps_left_at stage.Find = 65799
loading_steps_left_at (stage.Back unmark mark) = 65796 + calls_left unmark.next
loading_steps_left_at (stage.List chain) = places_left chain.reader + 2
loading_steps_left_at (stage.Read chain) = places_left chain.reader + 1

abbrev pub loading_steps_left : Load → ℕ
loading_steps_left load = loading_steps_left_at load.stage
