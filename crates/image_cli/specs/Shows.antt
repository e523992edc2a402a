-- What `show` prints.
use Rattle.std.specs.Prelude.{◌≡◌, ℕ, ◌⊎◌, List, [], Option}
use Rattle.definitions.specs.Disk.{Content}
use Rattle.command_kit.specs.Told.{RunResult, memory_told}
use Rattle.command_kit.specs.Told.{FailsToPrint, IsTold, IsTried, sink_note}
use Rattle.command_kit.specs.View.{SinkView}
use Rattle.command_kit.specs.declared.status.Status.{Status}
use Rattle.command_kit.specs.declared.status.Status.TheVariants.{Done, Refused, Stream}
use Rattle.expanded_show.specs.Shown.{ShowsAll, ShowsNoMore}
use Rattle.image_show.specs.declared.facts.fact.Fact.{Fact}
use Rattle.image_show.specs.Texts.{text_of}
use Rattle.image_show.specs.declared.shown.Shown.{Shown}
use Rattle.image_show.specs.declared.shown.Shown.TheVariants.{Area, NoHeader}

abbrev pub status_shown : Shown → Status
status_shown Area = Done
status_shown NoHeader = Refused

-- a line for each fact
abbrev pub facts_told : List Fact → Shown → RunResult
facts_told facts shown = record { status = status_shown shown; out = text_of facts; note = [] }

-- the output failed within these lines, and that is noted
pub record IsCutShort (facts : List Fact) (status : Status) (out out' note note' : SinkView) : Type 0 where
  pub status_is : status ≡ Stream
  pub front : FailsToPrint (text_of facts) out out'
  pub noted : IsTried sink_note note note'

-- Either exactly what is written in the area is printed, or that memory was refused; or the output failed on the way.
abbrev pub PrintsFacts : Option Content → (blocks header before now : ℕ) → Status
    → (out out' note note' : SinkView) → Type 0
PrintsFacts content blocks header before now status out out' note note' =
    IsTold memory_told status out out' note note'
    ⊎ (((facts : List Fact) × ((shown : Shown) × (ShowsAll content blocks header before now facts shown
    × IsTold (facts_told facts shown) status out out' note note')))
    ⊎ ((facts : List Fact) × (ShowsNoMore content blocks header before now facts
    × IsCutShort facts status out out' note note')))
