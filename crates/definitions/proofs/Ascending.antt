-- Laws of ascending lists of numbers: two with the same members are one list, and the least member at or above a number.
use Rattle.std.proofs.Common.{◌≡◌, ℕ, ◌+◌, ◌<◌, ◌≤◌, ◌⊎◌, zero, suc, List, [], ◌∷◌, ◌++◌, length, get_or, refl, sym, ap, ap₂, ◌∙◌, subst, inl, inr, ⊎_elim, arith, leb, Some, None}
use Rattle.std.proofs.lemmas.Bool.{cases_lt, le-leb, lt-leb, cond-true, cond-false}
use Rattle.std.proofs.lemmas.List.Elements.{Contains-get_or, Contains-append_cases}
use Rattle.std.proofs.lemmas.List.Kept.{AllPairs-from_increasing}
use Rattle.std.specs.List.{Contains}
use Rattle.std.specs.List.Sorted.{IsStrictlyIncreasing}
use Rattle.definitions.specs.Zones.{first_from}

-- Members of x ∷ xs.

pub Contains-head : (x : ℕ) (xs : List ℕ) → Contains (x ∷ xs) x
Contains-head x xs = (0, omega arith, refl)

pub Contains-tail : (x : ℕ) (xs : List ℕ) (y : ℕ) → Contains xs y → Contains (x ∷ xs) y
Contains-tail x xs y (k, l, e) = (suc k, omega arith, e)

pub Contains-cons_cases : (x : ℕ) (xs : List ℕ) (y : ℕ) → Contains (x ∷ xs) y → (x ≡ y) ⊎ Contains xs y
Contains-cons_cases x xs y (zero, l, e) = inl e
Contains-cons_cases x xs y (suc k, l, e) = inr (k, omega arith, e)

pub Contains-nil : (y : ℕ) → Contains [] y → ⊥
Contains-nil y (k, l, e) = omega arith

-- An ascending list: its first number is below the others, which ascend.

pub IsStrictlyIncreasing-tail : (x : ℕ) (xs : List ℕ) → IsStrictlyIncreasing (x ∷ xs) → IsStrictlyIncreasing xs
IsStrictlyIncreasing-tail x xs up k l =
    let more : suc k + 1 ≡ suc (k + 1) = omega arith in
    subst (λ (j : ℕ). get_or xs k 0 < get_or (x ∷ xs) j 0) more (up (suc k) (omega arith))

pub head_below : (x : ℕ) (xs : List ℕ) (y : ℕ) → IsStrictlyIncreasing (x ∷ xs) → Contains xs y → x < y
head_below x xs y up (k, l, e) =
    let pairs = AllPairs-from_increasing (x ∷ xs) up 0 (suc k) y (omega arith) (omega arith) in
    subst (λ (z : ℕ). x < z) e pairs

pub IsStrictlyIncreasing-cons : (x : ℕ) (xs : List ℕ) → ((y : ℕ) → Contains xs y → x < y) → IsStrictlyIncreasing xs → IsStrictlyIncreasing (x ∷ xs)
IsStrictlyIncreasing-cons x xs below up zero l = below (get_or xs 0 0) (Contains-get_or xs 0 0 (omega arith))
IsStrictlyIncreasing-cons x xs below up (suc k) l =
    let more : suc (k + 1) ≡ suc k + 1 = omega arith in
    subst (λ (j : ℕ). get_or xs k 0 < get_or (x ∷ xs) j 0) more (up k (omega arith))

pub IsStrictlyIncreasing-append : (xs ys : List ℕ) → IsStrictlyIncreasing xs → IsStrictlyIncreasing ys → ((x y : ℕ) → Contains xs x → Contains ys y → x < y) → IsStrictlyIncreasing (xs ++ ys)
IsStrictlyIncreasing-append [] ys up_x up_y below = up_y
IsStrictlyIncreasing-append (x ∷ xs) ys up_x up_y below =
    IsStrictlyIncreasing-cons x (xs ++ ys)
    (λ y in'. ⊎_elim (λ h. head_below x xs y up_x h) (λ h. below x y (Contains-head x xs) h) (Contains-append_cases xs ys y in'))
    (IsStrictlyIncreasing-append xs ys (IsStrictlyIncreasing-tail x xs up_x) up_y (λ a b a_in b_in. below a b (Contains-tail x xs a a_in) b_in))

-- an ascending list from low to below high has at most high - low numbers
pub length-between : (xs : List ℕ) (low high : ℕ) → IsStrictlyIncreasing xs → ((x : ℕ) → Contains xs x → (low ≤ x) × (x < high)) → low ≤ high → low + length xs ≤ high
length-between [] low high up within le = omega arith
length-between (x ∷ xs) low high up within le =
    let first = within x (Contains-head x xs) in
    let rest = length-between xs (x + 1) high (IsStrictlyIncreasing-tail x xs up)
    (λ y in'. let above = head_below x xs y up in' in let h = within y (Contains-tail x xs y in') in (omega arith, omega arith)) (omega arith) in
    omega arith

same_heads : (x : ℕ) (xs : List ℕ) (y : ℕ) (ys : List ℕ) → IsStrictlyIncreasing (x ∷ xs) → IsStrictlyIncreasing (y ∷ ys) → Contains (y ∷ ys) x → Contains (x ∷ xs) y → x ≡ y
same_heads x xs y ys up_x up_y x_in y_in = elim (Contains-cons_cases y ys x x_in) [
  | inl e ↦ sym e
  | inr h ↦ elim (Contains-cons_cases x xs y y_in) [
    | inl e ↦ e
    | inr g ↦ absurd (let lt = head_below y ys x up_y h in let gt = head_below x xs y up_x g in omega arith)
  ]
]

-- two ascending lists with the same members are one
pub same_members : (xs ys : List ℕ) → IsStrictlyIncreasing xs → IsStrictlyIncreasing ys → ((p : ℕ) → Contains xs p → Contains ys p) → ((p : ℕ) → Contains ys p → Contains xs p) → xs ≡ ys
same_members [] [] up_x up_y to from = refl
same_members [] (y ∷ ys) up_x up_y to from = absurd (Contains-nil y (from y (Contains-head y ys)))
same_members (x ∷ xs) [] up_x up_y to from = absurd (Contains-nil x (to x (Contains-head x xs)))
same_members (x ∷ xs) (y ∷ ys) up_x up_y to from =
    let heads : x ≡ y = same_heads x xs y ys up_x up_y (to x (Contains-head x xs)) (from y (Contains-head y ys)) in
    let tails : xs ≡ ys = same_members xs ys (IsStrictlyIncreasing-tail x xs up_x) (IsStrictlyIncreasing-tail y ys up_y)
    (λ p in'. ⊎_elim (λ e. absurd (let lt = head_below x xs p up_x in' in omega arith)) (λ h. h) (Contains-cons_cases y ys p (to p (Contains-tail x xs p in'))))
    (λ p in'. ⊎_elim (λ e. absurd (let lt = head_below y ys p up_y in' in omega arith)) (λ h. h) (Contains-cons_cases x xs p (from p (Contains-tail y ys p in')))) in
    ap₂ ◌∷◌ heads tails

-- The least member at or above a number.

pub first_from-none : (xs : List ℕ) (p : ℕ) → ((q : ℕ) → Contains xs q → q < p) → first_from xs p ≡ None
first_from-none [] p below = refl
first_from-none (x ∷ xs) p below =
    let none = lt-leb p x (below x (Contains-head x xs)) in
    cond-false (leb p x) (Some x) (first_from xs p) none ∙ first_from-none xs p (λ q in'. below q (Contains-tail x xs q in'))

pub first_from-some : (xs : List ℕ) (p q : ℕ) → IsStrictlyIncreasing xs → Contains xs q → p ≤ q → ((r : ℕ) → Contains xs r → p ≤ r → q ≤ r) → first_from xs p ≡ Some q
first_from-some [] p q up in' le least = absurd (Contains-nil q in')
first_from-some (x ∷ xs) p q up in' le least = elim (Contains-cons_cases x xs q in') [
  | inl e ↦ cond-true (leb p x) (Some x) (first_from xs p) (le-leb p x (omega arith)) ∙ ap Some e
  | inr h ↦
      let above = head_below x xs q up h in
      let below : x < p = elim (cases_lt x p) [ inl lt ↦ lt | inr ge ↦ absurd (let no = least x (Contains-head x xs) ge in omega arith) ] in
      cond-false (leb p x) (Some x) (first_from xs p) (lt-leb p x below)
      ∙ first_from-some xs p q (IsStrictlyIncreasing-tail x xs up) h le (λ r r_in. least r (Contains-tail x xs r r_in))
]
