-- The object of a check that is printed, or that memory was refused for it.
use Rattle.std.proofs.Common.{◌≡◌, ℕ, Bool, List, [], Option, Result, Ok, Err, IfOk, string_bytes, ap₂, subst, inl, inr}
use Rattle.page_core.specs.declared.NoMemory.{NoMemory}
use Rattle.definitions.specs.Disk.{Content}
use Rattle.command_kit.specs.Told.{RunResult}
use Rattle.command_kit.specs.Told.{IsTold}
use Rattle.command_kit.specs.View.{SinkView}
use Rattle.command_kit.specs.declared.status.Status.{Status}
use Rattle.image_check.specs.Checked.{Finds}
use Rattle.image_check.specs.declared.finding.Finding.{Finding}
use Rattle.image_json.specs.Findings.{found_line, found_whole}
use Rattle.image_json.specs.declared.checking.Checked.{Checked}
use Rattle.image_cli.specs.Json.{PrintsCheck, TellsCheck, check_told, status_whole, told_of_checked}

-- what a check gives that has found this
abbrev IsOf : Option (List Finding) → Checked → Type 0
IsOf found checked = (string_bytes checked.line ≡ found_line found) × (checked.whole ≡ found_whole found)

abbrev object_of : List ℕ → Bool → RunResult
object_of text whole = record { status = status_whole whole; out = text; note = [] }

same_object : (found : Option (List Finding)) (checked : Checked) → IsOf found checked → told_of_checked (Ok checked) ≡ check_told found
same_object found checked is = ap₂ object_of is.0 is.1

pub tells_check : (r : Result Checked NoMemory) (found : Option (List Finding)) (status : Status) (out out' note note' : SinkView) → IfOk r (λ checked. (string_bytes checked.line ≡ found_line found) × (checked.whole ≡ found_whole found)) →
    IsTold (told_of_checked r) status out out' note note' → TellsCheck found status out out' note note'
tells_check (Ok checked) found status out out' note note' is told =
    inr (subst (λ (r : RunResult). IsTold r status out out' note note') (same_object found checked is) told)
tells_check (Err why) found status out out' note note' is told = inl told

pub prints_check : (r : Result Checked NoMemory) (content : Option Content) (blocks header before now : ℕ) (status : Status) (out out' note note' : SinkView) →
    IfOk r (λ checked. (found : Option (List Finding)) × (Finds content blocks header before now found × ((string_bytes checked.line ≡ found_line found) × (checked.whole ≡ found_whole found)))) →
    IsTold (told_of_checked r) status out out' note note' → PrintsCheck content blocks header before now status out out' note note'
prints_check (Ok checked) content blocks header before now status out out' note note' (found, (finds, is)) told =
    inr (found, (finds, subst (λ (r : RunResult). IsTold r status out out' note note') (same_object found checked is) told))
prints_check (Err why) content blocks header before now status out out' note note' is told = inl told
