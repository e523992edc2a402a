-- What `check` prints of an image that may be compressed.
use Rattle.std.specs.Prelude.{ℕ, Option, Some}
use Rattle.definitions.specs.Disk.{Content}
use Rattle.command_kit.specs.Told.{memory_told}
use Rattle.command_kit.specs.Told.{IsTold}
use Rattle.command_kit.specs.View.{SinkView}
use Rattle.command_kit.specs.declared.status.Status.{Status}
use Rattle.image_cli.specs.Checks.{Checks, findings_told}
use Rattle.image_cli.specs.Json.{PrintsCheck, TellsCheck}
use Rattle.expanded_disk.specs.declared.units.index.Index.{Index}
use Rattle.image_cli.specs.Runs.{RunsAny, RunsExpanded}

-- the first fault of a compressed image, or else what is wrong with the plain one that it expands to
abbrev pub ChecksAny : Option Content → (blocks header before now : ℕ) → Status → (out out' note note' : SinkView) →
    Type 0
ChecksAny content blocks header before now status out out' note note' =
    RunsAny (λ c n h b f. Checks c n h b f status out out' note note')
    (λ found. IsTold (findings_told found) status out out' note note')
    (IsTold memory_told status out out' note note') content blocks header before now

abbrev pub ChecksExpanded : Option Content → (header : ℕ) → Index → (before now : ℕ) → Status →
    (out out' note note' : SinkView) → Type 0
ChecksExpanded content header index before now status out out' note note' =
    RunsExpanded (λ c n h b f. Checks c n h b f status out out' note note')
    (IsTold memory_told status out out' note note') content header index before now

-- the same as one object
abbrev pub PrintsCheckAny : Option Content → (blocks header before now : ℕ) → Status →
    (out out' note note' : SinkView) → Type 0
PrintsCheckAny content blocks header before now status out out' note note' =
    RunsAny (λ c n h b f. PrintsCheck c n h b f status out out' note note')
    (λ found. TellsCheck (Some found) status out out' note note')
    (IsTold memory_told status out out' note note') content blocks header before now

abbrev pub PrintsCheckExpanded : Option Content → (header : ℕ) → Index → (before now : ℕ) → Status →
    (out out' note note' : SinkView) → Type 0
PrintsCheckExpanded content header index before now status out out' note note' =
    RunsExpanded (λ c n h b f. PrintsCheck c n h b f status out out' note note')
    (IsTold memory_told status out out' note note') content header index before now
