-- Laws of a walk over an ascending list of page frames.
use Rattle.std.proofs.Common.{◌≡◌, ℕ, ◌+◌, ◌<◌, List, length, get_or, refl, sym, ap, ◌∙◌, subst, inl, inr, arith, Option, Some, IsSome}
use Rattle.std.proofs.lemmas.Bool.{cases_lt}
use Rattle.std.proofs.lemmas.List.{get_or_default}
use Rattle.std.proofs.lemmas.List.Elements.{Contains-get_or}
use Rattle.std.proofs.lemmas.List.Kept.{AllPairs-from_increasing}
use Rattle.std.specs.List.Sorted.{IsStrictlyIncreasing}
use Rattle.definitions.specs.Zones.{first_from}
use Rattle.definitions.proofs.Ascending.{first_from-some}
use Rattle.placement.specs.Walk.{HasPassed}

pub rises : (xs : List ℕ) (i j : ℕ) → IsStrictlyIncreasing xs → i < j → j < length xs → get_or xs i 0 < get_or xs j 0
rises xs i j up lt within = AllPairs-from_increasing xs up i j 0 lt within

pub none_passed : (xs : List ℕ) → HasPassed xs 0 0
none_passed xs = record { below = λ j lt. absurd (omega arith); above = λ j le lt. omega arith }

-- the least number from p on is that at place k
pub next_is : (xs : List ℕ) (p k : ℕ) → IsStrictlyIncreasing xs → HasPassed xs p k → k < length xs → first_from xs p ≡ Some (get_or xs k 0)
next_is xs p k up passed lt =
    first_from-some xs p (get_or xs k 0) up (Contains-get_or xs k 0 lt) (passed.above k (omega arith) lt)
    (λ r (j, within, is) le.
    let at : get_or xs j 0 ≡ r = sym (get_or_default xs j r 0 within) ∙ is in
    elim (cases_lt j k) [
      | inl below ↦ absurd (let low = passed.below j below in omega arith)
      | inr ge ↦ elim (cases_lt k j) [
        | inl after ↦ let higher = rises xs k j up after within in omega arith
        | inr here ↦ let same : k ≡ j = omega arith in let is_k = ap (λ i. get_or xs i 0) same in omega arith
      ]
    ])

pub one_more_passed : (xs : List ℕ) (p k : ℕ) → IsStrictlyIncreasing xs → HasPassed xs p k → k < length xs → HasPassed xs (get_or xs k 0 + 1) (k + 1)
one_more_passed xs p k up passed lt = record {
  below = λ j j_lt. elim (cases_lt j k) [
    | inl before ↦ let up_to = rises xs j k up before lt in omega arith
    | inr ge ↦ let same : j ≡ k = omega arith in let is = ap (λ i. get_or xs i 0) same in omega arith
  ];
  above = λ j le within. let after = rises xs k j up (omega arith) within in omega arith;
}

-- the result of a search from p on, if k numbers are passed
pub ahead : (xs : List ℕ) (p k : ℕ) (found : Option ℕ) → IsStrictlyIncreasing xs → HasPassed xs p k → k < length xs → found ≡ first_from xs p → found ≡ Some (get_or xs k 0)
ahead xs p k found up passed lt is = is ∙ next_is xs p k up passed lt

pub found_some : (found : Option ℕ) (q : ℕ) → found ≡ Some q → IsSome found
found_some found q is = subst IsSome (sym is) refl
