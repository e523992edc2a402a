-- A test for a member of a list of numbers.
use Rattle.std.proofs.Common.{◌≡◌, ℕ, List, [], ◌∷◌, Bool, true, false, ◌||◌, eqb, refl, ap, ◌∙◌, subst, inl, inr, ◌⊎◌}
use Rattle.std.proofs.lemmas.Bool.{eqb-true, eq-eqb}
use Rattle.std.specs.List.{Contains, list_any}
use Rattle.definitions.proofs.Ascending.{Contains-head, Contains-tail, Contains-cons_cases, Contains-nil}

or_right : (b : Bool) → (b || true) ≡ true
or_right true = refl
or_right false = refl

or_cases : (a b : Bool) → (a || b) ≡ true → (a ≡ true) ⊎ (b ≡ true)
or_cases true b h = inl refl
or_cases false b h = inr h

pub list_any-member : (p : ℕ) (xs : List ℕ) → Contains xs p → list_any (λ q. eqb q p) xs ≡ true
list_any-member p [] h = absurd (Contains-nil p h)
list_any-member p (x ∷ xs) h = elim (Contains-cons_cases x xs p h) [
  | inl e ↦ ap (λ b. b || list_any (λ q. eqb q p) xs) (eq-eqb x p e)
  | inr in' ↦ ap (λ b. eqb x p || b) (list_any-member p xs in') ∙ or_right (eqb x p)
]

pub member-list_any : (p : ℕ) (xs : List ℕ) → list_any (λ q. eqb q p) xs ≡ true → Contains xs p
member-list_any p [] h = cc
member-list_any p (x ∷ xs) h = elim (or_cases (eqb x p) (list_any (λ q. eqb q p) xs) h) [
  | inl e ↦ subst (λ (z : ℕ). Contains (x ∷ xs) z) (eqb-true x p e) (Contains-head x xs)
  | inr rest ↦ Contains-tail x xs p (member-list_any p xs rest)
]
