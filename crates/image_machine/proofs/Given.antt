-- Numbers that a plan is given, each above those before.
use Rattle.std.proofs.Common.{◌≡◌, ◌+◌, ◌-◌, ◌<◌, ℕ, List, [], ◌∷◌, ◌++◌, length, ap, subst, ◌∙◌, arith, length-append}
use Rattle.std.proofs.lemmas.List.Elements.{All-contains}
use Rattle.std.specs.List.{All, Contains}
use Rattle.definitions.specs.FrameSets.{inserted}
use Rattle.definitions.proofs.FrameSets.{Contains-inserted_itself, inserted_above}
use Rattle.frame_sets.proofs.Bounds.{few_members}
use Rattle.image_machine.specs.Plans.{IsPlan}
use Rattle.image_machine.specs.declared.plan.Plan.{Plan}

pub appended : (members : List ℕ) (n : ℕ) → All (λ (g : ℕ). g < n) members → inserted members n ≡ members ++ n ∷ []
appended members n above = inserted_above members n (λ x in'. All-contains (λ (g : ℕ). g < n) members x above in')

pub has_last : (members : List ℕ) (n : ℕ) → All (λ (g : ℕ). g < n) members → Contains (members ++ n ∷ []) n
has_last members n above = subst (λ (ys : List ℕ). Contains ys n) (appended members n above) (Contains-inserted_itself members n)

-- there are at most 65,536
pub fewer_left : (members : List ℕ) (n : ℕ) (new : Plan) → IsPlan new → All (λ (g : ℕ). g < n) members →
    new.saved.members ≡ inserted members n → 65536 - length new.saved.members < 65536 - length members
fewer_left members n new is above e =
    let one_more : length new.saved.members ≡ length members + 1 =
    ap length (e ∙ appended members n above) ∙ length-append members (n ∷ []) in
    let few = few_members new.saved is.set in
    omega arith
