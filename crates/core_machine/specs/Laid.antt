-- The page frames of a core file that were added to a plan, with their pages.
use Rattle.std.specs.Prelude.{◌≡◌, ◌<◌, ℕ, All, List, ◌++◌, None}
use Rattle.core_machine.specs.Segments.{segments_fault}
use Rattle.core_machine.specs.declared.segments.segment.Segment.{Segment}
use Rattle.image_machine.specs.Filled.{IsFilled}
use Rattle.image_machine.specs.Machines.{numbers_of}
use Rattle.image_machine.specs.declared.filled.FilledPlan.{FilledPlan}
use Rattle.core_machine.specs.Made.{end_after}

-- a plan keeps its heading, its layout and its zones
pub record IsSamePlan (old new : FilledPlan) : Type 0 where
  pub heading : new.plan.heading ≡ old.plan.heading
  pub layout : new.plan.layout ≡ old.plan.layout
  pub zones : new.plan.zones ≡ old.plan.zones

-- a plan has exactly these page frames, and all of them lie below another one
pub record LiesBelow (filled : FilledPlan) (saved : List (ℕ × List ℕ)) (frame : ℕ) : Type 0 where
  pub has : IsFilled filled saved
  pub below : All (λ m. m < frame) (numbers_of saved)

-- the plan has some more page frames, and `Are` holds for them
pub record IsLaidOver (filled : FilledPlan) (saved : List (ℕ × List ℕ)) (frame : ℕ)
    (Are : List (ℕ × List ℕ) → Type 0) : Type 0 where
  pub more : List (ℕ × List ℕ)
  pub lies : LiesBelow filled (saved ++ more) frame
  pub are : Are more

-- the plan has the page frames of some segments, and `Are` holds for them; the other segments follow at a place, and
-- end at a page frame
pub record IsLaidUpTo (filled : FilledPlan) (place end : ℕ) (rest : List Segment)
    (Are : List (ℕ × List ℕ) → Type 0) : Type 0 where
  pub free : ℕ
  pub saved : List (ℕ × List ℕ)
  pub lies : LiesBelow filled saved free
  pub follows : segments_fault free place rest ≡ None
  pub ends : end_after free rest ≡ end
  pub are : Are saved

-- `Are` holds for exactly the page frames of the plan
pub record IsLaid (filled : FilledPlan) (Are : List (ℕ × List ℕ) → Type 0) : Type 0 where
  pub saved : List (ℕ × List ℕ)
  pub has : IsFilled filled saved
  pub are : Are saved
