-- The first result among some.
use Rattle.std.proofs.Common.{◌≡◌, ℕ, ◌+◌, ◌<◌, ◌≤◌, ◌↔◌, zero, suc, Option, Some, None, Result, Ok, Err, IsOk, refl, ap, ◌∙◌, subst, inl, inr, add-one, arith}
use Rattle.std.proofs.lemmas.Bool.{cases_lt}
use Rattle.frame_sets.specs.Numbers.{or_else, first_below}

-- one more result, after none
pub first_below-more : {A : Type 0} (f : ℕ → Option A) (j : ℕ) → first_below f j ≡ None → first_below f (j + 1) ≡ f j
first_below-more f j none = ap (first_below f) (add-one j) ∙ ap (λ x. or_else x (f j)) none

-- the first stays the first
pub first_below-found : {A : Type 0} (f : ℕ → Option A) (j n : ℕ) (x : A) → j ≤ n → first_below f j ≡ Some x → first_below f n ≡ Some x
first_below-found f j zero x le found = subst (λ (k : ℕ). first_below f k ≡ Some x) (let e : j ≡ 0 = omega arith in e) found
first_below-found f j (suc n) x le found = elim (cases_lt n j) [
  | inl lt ↦ subst (λ (k : ℕ). first_below f k ≡ Some x) (let e : j ≡ suc n = omega arith in e) found
  | inr ge ↦ ap (λ y. or_else y (f n)) (first_below-found f j n x ge found)
]

-- where there is none in all, there is none before
or_else-none : {A : Type 0} (a b : Option A) → or_else a b ≡ None → (a ≡ None) × (b ≡ None)
or_else-none None b h = (refl, h)
or_else-none (Some x) b h = cc

pub first_below-none : {A : Type 0} (f : ℕ → Option A) (j n : ℕ) → j < n → first_below f n ≡ None → f j ≡ None
first_below-none f j zero lt none = absurd (omega arith)
first_below-none f j (suc n) lt none =
    let both = or_else-none (first_below f n) (f n) none in
    elim (cases_lt j n) [
      | inl below ↦ first_below-none f j n below both.0
      | inr ge ↦ subst (λ (k : ℕ). f k ≡ None) (let e : n ≡ j = omega arith in e) both.1
    ]

-- A result that is refused with the fault that there is, and one that isn't refused.

pub told_ok : {A E : Type 0} (r : Result A E) (o : Option E) (e : E) → r ≡ Err e → o ≡ Some e → IsOk r ↔ (o ≡ None)
told_ok (Ok x) o e r_is o_is = cc
told_ok (Err x) o e r_is o_is = (λ no. cc, λ none. cc)

pub told_fault : {A E : Type 0} (r : Result A E) (o : Option E) (e : E) → r ≡ Err e → o ≡ Some e → (f : E) → (r ≡ Err f) ↔ (o ≡ Some f)
told_fault r o e r_is o_is f = (λ is. cc, λ is. cc)
