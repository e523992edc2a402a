-- The members that are left, by the least one.
use Rattle.std.proofs.Common.{◌≡◌, ℕ, ◌+◌, ◌<◌, ◌≤◌, leb, Bool, true, false, cond, List, [], ◌∷◌, filter, Option, slice_get, Some, None, refl, sym, ap, ◌∙◌, arith, subst, Contains}
use Rattle.std.specs.List.Sorted.{IsStrictlyIncreasing}
use Rattle.std.proofs.lemmas.Bool.{false≢true, cond-true, cond-false, le-leb, lt-leb, leb-true, leb-false}
use Rattle.definitions.specs.Zones.{first_from}
use Rattle.definitions.proofs.Ascending.{Contains-head, Contains-tail, IsStrictlyIncreasing-tail, head_below}

abbrev some_or : ℕ → Option ℕ → ℕ
some_or d (Some x) = x
some_or d None = d

abbrev is_none : Option ℕ → Bool
is_none None = true
is_none (Some x) = false

pub none_left : (from : ℕ) (xs : List ℕ) → first_from xs from ≡ None → filter (leb from) xs ≡ []
none_left from [] e = refl
none_left from (x ∷ xs) e = by_test (leb from x) e (none_left from xs) where
  by_test : (b : Bool) → cond b (Some x) (first_from xs from) ≡ None → (first_from xs from ≡ None → filter (leb from) xs ≡ []) → cond b (x ∷ filter (leb from) xs) (filter (leb from) xs) ≡ []
  by_test true e rest = absurd (false≢true (ap is_none e))
  by_test false e rest = rest e

-- all members are left if all are at or above `from`
pub all_above : (from : ℕ) (xs : List ℕ) → ((y : ℕ) → Contains xs y → from ≤ y) → filter (leb from) xs ≡ xs
all_above from [] above = refl
all_above from (x ∷ xs) above =
    cond-true (leb from x) (x ∷ filter (leb from) xs) (filter (leb from) xs) (le-leb from x (above x (Contains-head x xs)))
    ∙ ap (λ (ys : List ℕ). x ∷ ys) (all_above from xs (λ y in'. above y (Contains-tail x xs y in')))

-- the least member that is left isn't below `from`
pub least_above : (from p : ℕ) (xs : List ℕ) → first_from xs from ≡ Some p → from ≤ p
least_above from p [] e = absurd (false≢true (sym (ap is_none e)))
least_above from p (x ∷ xs) e = by_test (leb from x) refl e (least_above from p xs) where
  by_test : (b : Bool) → leb from x ≡ b → cond b (Some x) (first_from xs from) ≡ Some p → (first_from xs from ≡ Some p → from ≤ p) → from ≤ p
  by_test true le e rest = let is : x ≡ p = ap (some_or x) e in let at = leb-true from x le in omega arith
  by_test false le e rest = rest e

pub first_left : (from p : ℕ) (xs : List ℕ) → IsStrictlyIncreasing xs → first_from xs from ≡ Some p → filter (leb from) xs ≡ p ∷ filter (leb (p + 1)) xs
first_left from p [] up e = absurd (false≢true (sym (ap is_none e)))
first_left from p (x ∷ xs) up e = by_test (leb from x) refl e (first_left from p xs (IsStrictlyIncreasing-tail x xs up)) (least_above from p xs) where
  by_test : (b : Bool) → leb from x ≡ b → cond b (Some x) (first_from xs from) ≡ Some p → (first_from xs from ≡ Some p → filter (leb from) xs ≡ p ∷ filter (leb (p + 1)) xs) → (first_from xs from ≡ Some p → from ≤ p) →
      cond b (x ∷ filter (leb from) xs) (filter (leb from) xs) ≡ p ∷ cond (leb (p + 1) x) (x ∷ filter (leb (p + 1)) xs) (filter (leb (p + 1)) xs)
  by_test true le e rest least =
      let is : x ≡ p = ap (some_or x) e in
      let at = leb-true from x le in
      let low : filter (leb from) xs ≡ xs = all_above from xs (λ y in'. let lt = head_below x xs y up in' in omega arith) in
      let high : filter (leb (p + 1)) xs ≡ xs = all_above (p + 1) xs (λ y in'. let lt = head_below x xs y up in' in omega arith) in
      ap (λ (n : ℕ). n ∷ filter (leb from) xs) is
      ∙ ap (λ (ys : List ℕ). p ∷ ys) (low ∙ sym high ∙ sym (cond-false (leb (p + 1) x) (x ∷ filter (leb (p + 1)) xs) (filter (leb (p + 1)) xs) (lt-leb (p + 1) x (omega arith))))
  by_test false le e rest least =
      let above = least e in
      let below = leb-false from x le in
      rest e ∙ ap (λ (ys : List ℕ). p ∷ ys) (sym (cond-false (leb (p + 1) x) (x ∷ filter (leb (p + 1)) xs) (filter (leb (p + 1)) xs) (lt-leb (p + 1) x (omega arith))))

pub all_left : (xs : List ℕ) → filter (leb 0) xs ≡ xs
all_left xs = all_above 0 xs (λ y in'. omega arith)

pub found_in : (from p : ℕ) (xs : List ℕ) → first_from xs from ≡ Some p → Contains xs p
found_in from p [] e = absurd (false≢true (sym (ap is_none e)))
found_in from p (x ∷ xs) e = by_test (leb from x) e (found_in from p xs) where
  by_test : (b : Bool) → cond b (Some x) (first_from xs from) ≡ Some p → (first_from xs from ≡ Some p → Contains xs p) → Contains (x ∷ xs) p
  by_test true e rest = subst (Contains (x ∷ xs)) (ap (some_or x) e) (Contains-head x xs)
  by_test false e rest = Contains-tail x xs p (rest e)

-- the first from a page frame on that passes a test
pub first_passing : (test : ℕ → Bool) (from : ℕ) (xs : List ℕ) → first_from (filter test xs) from ≡ slice_get (filter test (filter (leb from) xs)) 0
first_passing test from [] = refl
first_passing test from (x ∷ xs) = by_tests (test x) (leb from x) refl refl (first_passing test from xs) where
  by_tests : (t l : Bool) → test x ≡ t → leb from x ≡ l → first_from (filter test xs) from ≡ slice_get (filter test (filter (leb from) xs)) 0 →
      first_from (cond t (x ∷ filter test xs) (filter test xs)) from ≡ slice_get (filter test (cond l (x ∷ filter (leb from) xs) (filter (leb from) xs))) 0
  by_tests true true passes le rest =
      cond-true (leb from x) (Some x) (first_from (filter test xs) from) le
      ∙ sym (ap (λ (ys : List ℕ). slice_get ys 0) (cond-true (test x) (x ∷ filter test (filter (leb from) xs)) (filter test (filter (leb from) xs)) passes))
  by_tests true false passes lt rest = cond-false (leb from x) (Some x) (first_from (filter test xs) from) lt ∙ rest
  by_tests false true fails le rest =
      rest ∙ sym (ap (λ (ys : List ℕ). slice_get ys 0) (cond-false (test x) (x ∷ filter test (filter (leb from) xs)) (filter test (filter (leb from) xs)) fails))
  by_tests false false fails lt rest = rest
