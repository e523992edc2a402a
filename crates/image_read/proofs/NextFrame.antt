-- The least page frame from a number on that has a data page.
use Rattle.std.proofs.Common.{◌≡◌, ◌==◌, ℕ, List, ◌∷◌, Bool, true, false, not, filter, slice_get, Some, refl, ap, subst, inl, inr, Contains}
use Rattle.std.proofs.lemmas.Bool.{cases_Bool, eqb-true, eq-eqb, cond-true, cond-false}
use Rattle.std.proofs.lemmas.List.Kept.{IsStrictlyIncreasing-filter}
use Rattle.std.specs.List.{list_any}
use Rattle.std.specs.List.Sorted.{IsStrictlyIncreasing}
use Rattle.definitions.specs.Zones.{first_from}
use Rattle.frame_sets.specs.Left.{members_from}
use Rattle.frame_sets.proofs.Left.{first_passing}
use Rattle.image_read.specs.Taking.{with_data}
use Rattle.image_read.proofs.Blocks.{any_of, some_of}

-- The page frames with data pages.

is_not : (b : Bool) → b ≡ false → not b ≡ true
is_not true h = cc
is_not false h = refl

absent : (zeros : List ℕ) (p : ℕ) → (Contains zeros p → ⊥) → list_any (λ q. q == p) zeros ≡ false
absent zeros p fails = elim (cases_Bool (list_any (λ q. q == p) zeros)) [
  | inl passes ↦ absurd (let found = some_of (λ q. q == p) zeros passes in fails (subst (λ (z : ℕ). Contains zeros z) (eqb-true found.0 p found.2) found.1))
  | inr is ↦ is
]

pub IsStrictlyIncreasing-with_data : (origs zeros : List ℕ) → IsStrictlyIncreasing origs → IsStrictlyIncreasing (with_data origs zeros)
unfolding with_data
IsStrictlyIncreasing-with_data origs zeros up = IsStrictlyIncreasing-filter (λ p. not (list_any (λ q. q == p) zeros)) origs up

-- the first from a page frame on that has a data page
pub first_with_data : (origs zeros : List ℕ) (from : ℕ) → first_from (with_data origs zeros) from ≡ slice_get (with_data (members_from from origs) zeros) 0
unfolding with_data
first_with_data origs zeros from = first_passing (λ p. not (list_any (λ q. q == p) zeros)) from origs

pub data_first : (zeros rest : List ℕ) (p : ℕ) → (Contains zeros p → ⊥) → slice_get (with_data (p ∷ rest) zeros) 0 ≡ Some p
unfolding with_data
data_first zeros rest p fails =
    let test : ℕ → Bool = λ p. not (list_any (λ q. q == p) zeros) in
    ap (λ (ys : List ℕ). slice_get ys 0) (cond-true (test p) (p ∷ filter test rest) (filter test rest) (is_not (list_any (λ q. q == p) zeros) (absent zeros p fails)))

pub data_later : (zeros rest : List ℕ) (p : ℕ) → Contains zeros p → with_data (p ∷ rest) zeros ≡ with_data rest zeros
unfolding with_data
data_later zeros rest p in_zeros =
    let test : ℕ → Bool = λ p. not (list_any (λ q. q == p) zeros) in
    let fails : test p ≡ false = ap not (any_of (λ q. q == p) zeros p in_zeros (eq-eqb p p refl)) in
    cond-false (test p) (p ∷ filter test rest) (filter test rest) fails
