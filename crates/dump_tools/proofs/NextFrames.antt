-- The least number of an ascending list at or above another.
use Rattle.std.proofs.Common.{◌≡◌, ℕ, ◌<◌, ◌≤◌, ◌⊎◌, List, [], ◌∷◌, refl, sym, ◌∙◌, subst, inl, inr, arith, leb, Some, None}
use Rattle.std.proofs.lemmas.Bool.{cases_lt, le-leb, lt-leb, cond-true, cond-false}
use Rattle.std.proofs.lemmas.Option.{same_Some, none-some}
use Rattle.std.specs.List.{Contains}
use Rattle.std.specs.List.Sorted.{IsStrictlyIncreasing}
use Rattle.definitions.specs.Zones.{first_from}
use Rattle.definitions.proofs.Ascending.{Contains-head, Contains-tail, Contains-cons_cases, Contains-nil, IsStrictlyIncreasing-tail, head_below}

-- q is the least number of the list at or above p
pub record IsNext (xs : List ℕ) (p q : ℕ) : Type 0 where
  pub member : Contains xs q
  pub above : p ≤ q
  pub least : (r : ℕ) → Contains xs r → p ≤ r → q ≤ r

next_or_none : (xs : List ℕ) (p : ℕ) → IsStrictlyIncreasing xs → ((first_from xs p ≡ None) × ((r : ℕ) → Contains xs r → r < p)) ⊎ ((q : ℕ) × (first_from xs p ≡ Some q) × IsNext xs p q)
next_or_none [] p up = inl (refl, λ r in'. absurd (Contains-nil r in'))
next_or_none (x ∷ xs) p up = elim (cases_lt x p) [
  | inl lt ↦
      let skip = cond-false (leb p x) (Some x) (first_from xs p) (lt-leb p x lt) in
      elim (next_or_none xs p (IsStrictlyIncreasing-tail x xs up)) [
        | inl none ↦ inl (skip ∙ none.0, λ r in'. elim (Contains-cons_cases x xs r in') [ inl e ↦ omega arith | inr h ↦ none.1 r h ])
        | inr some ↦ inr (
          some.0,
          skip ∙ some.1,
          record {
            member = Contains-tail x xs some.0 some.2.member;
            above = some.2.above;
            least = λ r in' le. elim (Contains-cons_cases x xs r in') [ inl e ↦ absurd (omega arith) | inr h ↦ some.2.least r h le ];
          },
        )
      ]
  | inr ge ↦ inr (
    x,
    cond-true (leb p x) (Some x) (first_from xs p) (le-leb p x ge),
    record {
      member = Contains-head x xs;
      above = ge;
      least = λ r in' le. elim (Contains-cons_cases x xs r in') [ inl e ↦ omega arith | inr h ↦ let low = head_below x xs r up h in omega arith ];
    },
  )
]

pub next_is : (xs : List ℕ) (p q : ℕ) → IsStrictlyIncreasing xs → first_from xs p ≡ Some q → IsNext xs p q
next_is xs p q up is = elim (next_or_none xs p up) [
  | inl none ↦ absurd (none-some q (sym none.0 ∙ is))
  | inr some ↦ subst (λ (r : ℕ). IsNext xs p r) (same_Some some.0 q (sym some.1 ∙ is)) some.2
]

pub none_from : (xs : List ℕ) (p : ℕ) → IsStrictlyIncreasing xs → first_from xs p ≡ None → (r : ℕ) → Contains xs r → r < p
none_from xs p up is = elim (next_or_none xs p up) [
  | inl none ↦ none.1
  | inr some ↦ absurd (none-some some.0 (sym is ∙ some.1))
]
