-- What `check` prints.
use Rattle.std.specs.Prelude.{ℕ, ◌⊎◌, List, [], ◌∷◌, ◌++◌, length, min, codes, decimal, Option, Some, None}
use Rattle.definitions.specs.Disk.{Content, last_count}
use Rattle.command_kit.specs.Told.{RunResult, line, memory_told}
use Rattle.command_kit.specs.Told.{IsTold}
use Rattle.command_kit.specs.View.{SinkView}
use Rattle.command_kit.specs.declared.status.Status.{Status}
use Rattle.command_kit.specs.declared.status.Status.TheVariants.{Done, Refused}
use Rattle.image_check.specs.Checked.{Finds}
use Rattle.image_check.specs.Lines.{lines_of}
use Rattle.image_check.specs.declared.finding.Finding.{Finding}

-- the last line: the image is whole if and only if nothing was found
abbrev pub last_line : List Finding → List ℕ
last_line [] = line (codes "whole")
last_line (f ∷ fs) = line (decimal (min (length (f ∷ fs)) last_count) ++ codes " findings")

abbrev pub status_of : List Finding → Status
status_of [] = Done
status_of (f ∷ fs) = Refused

-- a line for each finding, and the last line
abbrev pub findings_told : List Finding → RunResult
findings_told found = record { status = status_of found; out = lines_of found ++ last_line found; note = [] }

abbrev pub no_image_told : RunResult
no_image_told = record { status = Refused; out = line (codes "no image"); note = [] }

abbrev pub found_told : Option (List Finding) → RunResult
found_told None = no_image_told
found_told (Some found) = findings_told found

-- either exactly what is wrong with the image of the area is printed, or that memory was refused
abbrev pub Checks : Option Content → (blocks header before now : ℕ) → Status → (out out' note note' : SinkView) → Type 0
Checks content blocks header before now status out out' note note' =
    IsTold memory_told status out out' note note'
    ⊎ ((found : Option (List Finding)) ×
    (Finds content blocks header before now found × IsTold (found_told found) status out out' note note'))
