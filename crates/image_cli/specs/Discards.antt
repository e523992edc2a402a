-- What `discard` prints.
use Rattle.std.specs.Prelude.{ℕ, [], codes, Option, Result, Ok, Err}
use Rattle.definitions.specs.Disk.{Content}
use Rattle.command_kit.specs.Told.{RunResult, line}
use Rattle.command_kit.specs.Told.{IsTold}
use Rattle.command_kit.specs.View.{SinkView}
use Rattle.command_kit.specs.declared.status.Status.{Status}
use Rattle.command_kit.specs.declared.status.Status.TheVariants.{Done, Refused, Device}
use Rattle.image_cli.specs.Unmarks.{Ends, Fails}
use Rattle.image_cli.specs.declared.unmarking.discarding.Discarded.{Discarded}
use Rattle.image_cli.specs.declared.unmarking.discarding.Discarded.TheVariants as discarded
use Rattle.image_cli.specs.declared.unmarking.discarding.Fault.{Fault}
use Rattle.image_cli.specs.declared.unmarking.discarding.Fault.TheVariants as fault

-- what became of the image
abbrev pub discard_told : Result Discarded Fault → RunResult
discard_told (Ok discarded.Done) = record { status = Done; out = line (codes "discarded"); note = [] }
discard_told (Ok discarded.NoImage) = record { status = Refused; out = line (codes "no image"); note = [] }
discard_told (Ok discarded.NoOriginal) =
    record { status = Refused; out = line (codes "no original signature"); note = [] }
discard_told (Err fault.Read) = record { status = Device; out = []; note = line (codes "read fault same") }
discard_told (Err fault.Write) = record { status = Device; out = []; note = line (codes "write fault unsure") }
discard_told (Err fault.Sync) = record { status = Device; out = []; note = line (codes "sync fault unsure") }

-- what `discard` makes of the disk
abbrev pub Leaves : (header blocks : ℕ) → (old new : Option Content) → Result Discarded Fault → Type 0
Leaves header blocks old new (Ok end) = Ends header blocks old new end
Leaves header blocks old new (Err fault) = Fails header old new fault

abbrev pub Discards : (header blocks : ℕ) → (old new : Option Content) → Status → (out out' note note' : SinkView) →
    Type 0
Discards header blocks old new status out out' note note' =
    (outcome : Result Discarded Fault) ×
    (Leaves header blocks old new outcome × IsTold (discard_told outcome) status out out' note note')
