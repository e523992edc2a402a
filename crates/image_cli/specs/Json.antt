-- What `show --json` and `check --json` print.
use Rattle.std.specs.Prelude.{ℕ, ◌⊎◌, Bool, true, false, List, [], Option, Result, Ok, Err, string_bytes}
use Rattle.page_core.specs.declared.NoMemory.{NoMemory}
use Rattle.definitions.specs.Disk.{Content}
use Rattle.command_kit.specs.Told.{RunResult, memory_told}
use Rattle.command_kit.specs.Told.{IsTold}
use Rattle.command_kit.specs.View.{SinkView}
use Rattle.command_kit.specs.declared.status.Status.{Status}
use Rattle.command_kit.specs.declared.status.Status.TheVariants.{Done, Refused}
use Rattle.image_check.specs.Checked.{Finds}
use Rattle.image_check.specs.declared.finding.Finding.{Finding}
use Rattle.expanded_show.specs.Shown.{ShowsAll}
use Rattle.image_show.specs.declared.facts.fact.Fact.{Fact}
use Rattle.image_json.specs.Findings.{found_line, found_whole}
use Rattle.image_json.specs.Objects.{object_line}
use Rattle.image_json.specs.declared.checking.Checked.{Checked}
use Rattle.image_show.specs.declared.shown.Shown.{Shown}
use Rattle.image_cli.specs.Shows.{status_shown}

-- the object of these facts, on one line
abbrev pub object_told : List Fact → Shown → RunResult
object_told facts shown = record { status = status_shown shown; out = object_line facts; note = [] }

-- either exactly what is written in the area is printed, or that memory was refused
abbrev pub PrintsObject : Option Content → (blocks header before now : ℕ) → Status
    → (out out' note note' : SinkView) → Type 0
PrintsObject content blocks header before now status out out' note note' =
    IsTold memory_told status out out' note note'
    ⊎ ((facts : List Fact) × ((shown : Shown) × (ShowsAll content blocks header before now facts shown
    × IsTold (object_told facts shown) status out out' note note')))

abbrev pub status_whole : Bool → Status
status_whole true = Done
status_whole false = Refused

-- the object of these findings, on one line
abbrev pub check_told : Option (List Finding) → RunResult
check_told found = record { status = status_whole (found_whole found); out = found_line found; note = [] }

-- the same for the result of a check, or that memory was refused
abbrev pub told_of_checked : Result Checked NoMemory → RunResult
told_of_checked (Ok checked) =
    record { status = status_whole checked.whole; out = string_bytes checked.line; note = [] }
told_of_checked (Err why) = memory_told

-- either exactly the object of these findings is printed, or that memory was refused
abbrev pub TellsCheck : Option (List Finding) → Status → (out out' note note' : SinkView) → Type 0
TellsCheck found status out out' note note' =
    IsTold memory_told status out out' note note' ⊎ IsTold (check_told found) status out out' note note'

-- either exactly what is wrong with the image of the area is printed, or that memory was refused
abbrev pub PrintsCheck : Option Content → (blocks header before now : ℕ) → Status
    → (out out' note note' : SinkView) → Type 0
PrintsCheck content blocks header before now status out out' note note' =
    IsTold memory_told status out out' note note'
    ⊎ ((found : Option (List Finding)) × (Finds content blocks header before now found
    × IsTold (check_told found) status out out' note note'))
