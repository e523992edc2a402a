-- Ascending numbers of a list are no more than the list has.
use Rattle.std.proofs.Common.{◌≡◌, ℕ, ◌+◌, ◌<◌, ◌≤◌, zero, suc, inl, inr, true, eqb, List, [], ◌∷◌, length, subst, arith, Contains}
use Rattle.std.specs.List.{list_any}
use Rattle.std.specs.List.Sorted.{IsStrictlyIncreasing}
use Rattle.std.proofs.lemmas.Bool.{cases_lt, or_cases, eqb-true}
use Rattle.definitions.proofs.Ascending.{Contains-nil, Contains-head, Contains-tail, Contains-cons_cases, IsStrictlyIncreasing-tail, head_below}

pub any_member : (xs : List ℕ) (p : ℕ) → list_any (λ q. eqb q p) xs ≡ true → Contains xs p
any_member [] p e = cc
any_member (x ∷ xs) p e = elim (or_cases (eqb x p) (list_any (λ q. eqb q p) xs) e) [
  | inl here ↦ subst (λ (y : ℕ). Contains (x ∷ xs) y) (eqb-true x p here) (Contains-head x xs)
  | inr there ↦ Contains-tail x xs p (any_member xs p there)
]

-- each number is above each one before it
pub rising : (f : ℕ → ℕ) (n : ℕ) → ((j : ℕ) → j + 1 < n → f j < f (j + 1)) → (i j : ℕ) → i < j → j < n → f i < f j
rising f n up i zero lt below = absurd (omega arith)
rising f n up i (suc j) lt below =
    let last : f j < f (suc j) = subst (λ (k : ℕ). f j < f k) (let e : j + 1 ≡ suc j = omega arith in e) (up j (omega arith)) in
    elim (cases_lt i j) [
      | inl before ↦ let rest = rising f n up i j before (omega arith) in omega arith
      | inr le ↦ let same : j ≡ i = omega arith in subst (λ (k : ℕ). f k < f (suc j)) same last
    ]

pub few_numbers : (ys : List ℕ) (f : ℕ → ℕ) (n : ℕ) → IsStrictlyIncreasing ys → ((j : ℕ) → j < n → Contains ys (f j)) → ((i j : ℕ) → i < j → j < n → f i < f j) → n ≤ length ys
few_numbers ys f zero up each rises = omega arith
few_numbers [] f (suc n) up each rises = absurd (Contains-nil (f 0) (each 0 (omega arith)))
few_numbers (y ∷ ys) f (suc n) up each rises =
    let low : y ≤ f 0 = elim (Contains-cons_cases y ys (f 0) (each 0 (omega arith))) [
      | inl same ↦ omega arith
      | inr there ↦ let above = head_below y ys (f 0) up there in omega arith
    ] in
    let rest = few_numbers ys (λ j. f (suc j)) n (IsStrictlyIncreasing-tail y ys up)
    (λ j lt. elim (Contains-cons_cases y ys (f (suc j)) (each (suc j) (omega arith))) [
      | inl same ↦ absurd (let above = rises 0 (suc j) (omega arith) (omega arith) in omega arith)
      | inr there ↦ there
    ])
    (λ i j lt below. rises (suc i) (suc j) (omega arith) (omega arith)) in
    omega arith
