-- What a world shows while it resumes.
use Rattle.std.specs.Prelude.{◌≡◌, ℕ}
use Rattle.plain_machine.specs.Machine.{Hardware}
use Rattle.plain_machine.specs.Shows.{WorldView, loads}
use Rattle.plain_machine.specs.Stands.{ShowsResume}
use Rattle.plain_machine.specs.State.{Load}

-- after k steps the world says so, and shows what the resume does
pub record ShowsLoad (h : Hardware) (shown : WorldView) (load : Load) (k : ℕ) : Type 0 where
  pub activity : shown.activity ≡ loads k
  pub shows : ShowsResume h shown load k
