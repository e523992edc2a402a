-- What is accepted because it has no findings.
use Rattle.std.specs.Prelude.{◌≡◌, ◌<◌, Bool, true, false, List, [], length}
use Rattle.image_check.specs.declared.finding.Finding.{Finding}
use Rattle.image_check.specs.Told.{Told, Tells}

-- either it is accepted: there are no findings, and nothing is reported; or exactly these findings are reported
abbrev pub Accepts : List Finding → Told → Told → Bool → Type 0
Accepts findings old new true = (findings ≡ []) × (new ≡ old)
Accepts findings old new false = (0 < length findings) × Tells findings old new
