-- The test whether a list has a number.
use Rattle.std.proofs.Common.{◌≡◌, ℕ, List, true, false, eqb, subst, inl, inr}
use Rattle.std.proofs.lemmas.Bool.{cases_Bool, eq-eqb, eqb-true}
use Rattle.std.proofs.lemmas.List.Folds.{Any-from_list_any, list_any_at}
use Rattle.std.specs.List.{Contains, list_any}

pub member_passes : (xs : List ℕ) (p : ℕ) → Contains xs p → list_any (λ q. eqb q p) xs ≡ true
member_passes xs p (k, lt, is) = list_any_at (λ q. eqb q p) xs k p lt (eq-eqb _ p is)

pub passes_member : (xs : List ℕ) (p : ℕ) → list_any (λ q. eqb q p) xs ≡ true → Contains xs p
passes_member xs p is =
    let any = Any-from_list_any (λ q. eqb q p) xs is in
    subst (λ (q : ℕ). Contains xs q) (eqb-true any.1 p any.4) (any.0, any.2, any.3)

pub stranger_fails : (xs : List ℕ) (p : ℕ) → (Contains xs p → ⊥) → list_any (λ q. eqb q p) xs ≡ false
stranger_fails xs p out = elim (cases_Bool (list_any (λ q. eqb q p) xs)) [
  | inl is ↦ absurd (out (passes_member xs p is))
  | inr is ↦ is
]
