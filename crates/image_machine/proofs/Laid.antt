-- Page frames that a plan is given with their pages, each above those before.
use Rattle.std.proofs.Common.{◌≡◌, ◌+◌, ◌-◌, ◌<◌, ℕ, All, List, [], ◌∷◌, ◌++◌, length, map, Option, refl, sym, ap, subst, ◌∙◌, arith, length-append}
use Rattle.std.proofs.lemmas.List.Elements.{All-map}
use Rattle.std.specs.List.{Contains}
use Rattle.definitions.specs.Disk.{Content}
use Rattle.definitions.proofs.Ascending.{Contains-head, Contains-tail}
use Rattle.frame_sets.proofs.Bounds.{few_members}
use Rattle.image_pages.specs.Given.{HasGiven}
use Rattle.image_pages.specs.SavedFrames.{SavedFrame}
use Rattle.image_pages.specs.declared.frames.frames.Frames.{Frames}
use Rattle.image_machine.specs.Filled.{IsFilled}
use Rattle.image_machine.specs.Machines.{numbers_of}
use Rattle.image_machine.specs.declared.filled.FilledPlan.{FilledPlan}
use Rattle.image_machine.proofs.Laying.{numbers-more}
use Rattle.image_machine.specs.Lays.{pages_of}

-- the plan has exactly the page frames that were given
pub record IsLaid (content : Option Content) (blocks header : ℕ) (filled : FilledPlan) (frames : Frames) : Type 0 where
  pub given : List SavedFrame
  pub stands : HasGiven content blocks header frames given
  pub has : IsFilled filled (pages_of given)

pub pages_more : (given : List SavedFrame) (f : SavedFrame) → pages_of (given ++ f ∷ []) ≡ pages_of given ++ (f.number, f.page) ∷ []
pages_more [] f = refl
pages_more (g ∷ rest) f = ap (λ (ps : List (ℕ × List ℕ)). (g.number, g.page) ∷ ps) (pages_more rest f)

numbers_of_pages : (given : List SavedFrame) → map (λ (g : SavedFrame). g.number) given ≡ numbers_of (pages_of given)
numbers_of_pages [] = refl
numbers_of_pages (g ∷ rest) = ap (λ (ns : List ℕ). g.number ∷ ns) (numbers_of_pages rest)

pub above_numbers : (given : List SavedFrame) (n : ℕ) → All (λ (g : SavedFrame). g.number < n) given → All (λ (m : ℕ). m < n) (numbers_of (pages_of given))
above_numbers given n above =
    subst (λ (ns : List ℕ). All (λ (m : ℕ). m < n) ns) (numbers_of_pages given) (All-map (λ (m : ℕ). m < n) (λ (g : SavedFrame). g.number) given above)

pub has_number : (given : List SavedFrame) (f : SavedFrame) → Contains (numbers_of (pages_of (given ++ f ∷ []))) f.number
has_number [] f = Contains-head f.number []
has_number (g ∷ rest) f = Contains-tail g.number (numbers_of (pages_of (rest ++ f ∷ []))) f.number (has_number rest f)

-- there are at most 65,536
pub fewer_laid : (old new : FilledPlan) (saved : List (ℕ × List ℕ)) (s : ℕ × List ℕ) → IsFilled old saved → IsFilled new (saved ++ s ∷ []) →
    65536 - length new.plan.saved.members < 65536 - length old.plan.saved.members
fewer_laid old new saved s was is =
    let one_more : length new.plan.saved.members ≡ length old.plan.saved.members + 1 =
    ap length (is.members ∙ numbers-more saved s) ∙ length-append (numbers_of saved) (s.0 ∷ []) ∙ ap (λ (ms : List ℕ). length ms + 1) (sym was.members) in
    let few = few_members new.plan.saved is.plan.set in
    omega arith
