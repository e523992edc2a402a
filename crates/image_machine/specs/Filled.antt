-- A plan with the pages of its page frames.
use Rattle.std.specs.Prelude.{◌≡◌, ℕ, List}
use Rattle.definitions.specs.Zones.{top}
use Rattle.image_machine.specs.Machines.{laid, numbers_of}
use Rattle.image_machine.specs.Plans.{IsPlan}
use Rattle.image_machine.specs.declared.filled.FilledPlan.{FilledPlan}

-- exactly these page frames were added, each with its page
pub record IsFilled (filled : FilledPlan) (saved : List (ℕ × List ℕ)) : Type 0 where
  pub plan : IsPlan filled.plan
  pub members : filled.plan.saved.members ≡ numbers_of saved
  pub memory : filled.frames ≡ laid (top filled.plan.zones) saved
