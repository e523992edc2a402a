-- Laws of sets of page frames as ascending lists: what a filter keeps, the set with a number, the set without one.
use Rattle.std.proofs.Common.{◌≡◌, ℕ, ◌+◌, ◌-◌, ◌<◌, ◌≤◌, ◌⊎◌, zero, suc, List, [], ◌∷◌, ◌++◌, length, get_or, filter, not, refl, sym, ap, ap₂, ◌∙◌, subst, inl, inr, ⊎_elim, arith, Bool, true, false, cond, ltb, eqb, length-append}
use Rattle.std.proofs.lemmas.Bool.{cases_lt, cases_eq, cases_order, cases_Bool, cond-true, cond-false, false≢true, ltb-true, lt-ltb, le-ltb, eqb-false, eq-eqb, ne_eqb, not-true, not_from_false}
use Rattle.std.proofs.lemmas.List.Elements.{Contains-append_left, Contains-append_right, Contains-append_cases}
use Rattle.std.proofs.lemmas.List.Kept.{IsStrictlyIncreasing-filter}
use Rattle.std.specs.List.{Contains}
use Rattle.std.specs.List.Sorted.{IsStrictlyIncreasing}
use Rattle.definitions.specs.FrameSets.{inserted, removed}
use Rattle.definitions.proofs.Ascending.{Contains-head, Contains-tail, Contains-cons_cases, Contains-nil, IsStrictlyIncreasing-append, IsStrictlyIncreasing-cons, same_members}

-- Members of what a filter keeps.

pub Contains-filter : (test : ℕ → Bool) (xs : List ℕ) (x : ℕ) → Contains xs x → test x ≡ true → Contains (filter test xs) x
Contains-filter test [] x in' passes = absurd (Contains-nil x in')
Contains-filter test (y ∷ ys) x in' passes = elim (Contains-cons_cases y ys x in') [
  | inl e ↦
      let kept = cond-true (test y) (y ∷ filter test ys) (filter test ys) (ap test e ∙ passes) in
      subst (λ (t : List ℕ). Contains t x) (sym kept) (subst (λ (z : ℕ). Contains (y ∷ filter test ys) z) e (Contains-head y (filter test ys)))
  | inr h ↦
      let rest = Contains-filter test ys x h passes in
      elim (cases_Bool (test y)) [
        | inl e ↦ subst (λ (t : List ℕ). Contains t x) (sym (cond-true (test y) (y ∷ filter test ys) (filter test ys) e)) (Contains-tail y (filter test ys) x rest)
        | inr e ↦ subst (λ (t : List ℕ). Contains t x) (sym (cond-false (test y) (y ∷ filter test ys) (filter test ys) e)) rest
      ]
]

pub Contains-from_filter : (test : ℕ → Bool) (xs : List ℕ) (x : ℕ) → Contains (filter test xs) x → Contains xs x × (test x ≡ true)
Contains-from_filter test [] x in' = absurd (Contains-nil x in')
Contains-from_filter test (y ∷ ys) x in' = elim (cases_Bool (test y)) [
  | inl e ↦
      let kept = subst (λ (t : List ℕ). Contains t x) (cond-true (test y) (y ∷ filter test ys) (filter test ys) e) in' in
      elim (Contains-cons_cases y (filter test ys) x kept) [
        | inl same ↦ (subst (λ (z : ℕ). Contains (y ∷ ys) z) same (Contains-head y ys), ap test (sym same) ∙ e)
        | inr h ↦ let rest = Contains-from_filter test ys x h in (Contains-tail y ys x rest.0, rest.1)
      ]
  | inr e ↦
      let kept = subst (λ (t : List ℕ). Contains t x) (cond-false (test y) (y ∷ filter test ys) (filter test ys) e) in' in
      let rest = Contains-from_filter test ys x kept in (Contains-tail y ys x rest.0, rest.1)
]

-- The set with p.

pub Contains-inserted_itself : (xs : List ℕ) (p : ℕ) → Contains (inserted xs p) p
unfolding inserted
Contains-inserted_itself xs p =
    Contains-append_right (filter (λ q. ltb q p) xs) (p ∷ filter (λ q. ltb p q) xs) p (Contains-head p (filter (λ q. ltb p q) xs))

pub Contains-inserted : (xs : List ℕ) (p q : ℕ) → Contains xs q → Contains (inserted xs p) q
unfolding inserted
Contains-inserted xs p q in' =
    let low = filter (λ r. ltb r p) xs in
    let high = filter (λ r. ltb p r) xs in
    elim (cases_order q p) [
      | inl e ↦ subst (λ (z : ℕ). Contains (low ++ p ∷ high) z) (sym e) (Contains-append_right low (p ∷ high) p (Contains-head p high))
      | inr apart ↦ elim apart [
        | inl lt ↦ Contains-append_left low (p ∷ high) q (Contains-filter (λ r. ltb r p) xs q in' (lt-ltb q p lt))
        | inr gt ↦ Contains-append_right low (p ∷ high) q (Contains-tail p high q (Contains-filter (λ r. ltb p r) xs q in' (lt-ltb p q gt)))
      ]
    ]

pub Contains-from_inserted : (xs : List ℕ) (p q : ℕ) → Contains (inserted xs p) q → (q ≡ p) ⊎ Contains xs q
unfolding inserted
Contains-from_inserted xs p q in' =
    let low = filter (λ r. ltb r p) xs in
    let high = filter (λ r. ltb p r) xs in
    elim (Contains-append_cases low (p ∷ high) q in') [
      | inl h ↦ inr (Contains-from_filter (λ r. ltb r p) xs q h).0
      | inr h ↦ elim (Contains-cons_cases p high q h) [
        | inl e ↦ inl (sym e)
        | inr g ↦ inr (Contains-from_filter (λ r. ltb p r) xs q g).0
      ]
    ]

pub IsStrictlyIncreasing-inserted : (xs : List ℕ) (p : ℕ) → IsStrictlyIncreasing xs → IsStrictlyIncreasing (inserted xs p)
unfolding inserted
IsStrictlyIncreasing-inserted xs p up =
    let low = filter (λ r. ltb r p) xs in
    let high = filter (λ r. ltb p r) xs in
    let above : (y : ℕ) → Contains high y → p < y = λ y in'. ltb-true p y (Contains-from_filter (λ r. ltb p r) xs y in').1 in
    IsStrictlyIncreasing-append low (p ∷ high)
    (IsStrictlyIncreasing-filter (λ r. ltb r p) xs up)
    (IsStrictlyIncreasing-cons p high above (IsStrictlyIncreasing-filter (λ r. ltb p r) xs up))
    (λ x y x_in y_in.
    let below = ltb-true x p (Contains-from_filter (λ r. ltb r p) xs x x_in).1 in
    elim (Contains-cons_cases p high y y_in) [
      | inl e ↦ omega arith
      | inr h ↦ let over = above y h in omega arith
    ])

-- a member changes nothing
pub inserted_member : (xs : List ℕ) (p : ℕ) → IsStrictlyIncreasing xs → Contains xs p → inserted xs p ≡ xs
inserted_member xs p up in' =
    same_members (inserted xs p) xs (IsStrictlyIncreasing-inserted xs p up) up
    (λ q h. ⊎_elim (λ e. subst (λ (z : ℕ). Contains xs z) (sym e) in') (λ g. g) (Contains-from_inserted xs p q h))
    (Contains-inserted xs p)

length-apart : (xs : List ℕ) (p : ℕ) → (Contains xs p → ⊥) → length (filter (λ r. ltb r p) xs) + length (filter (λ r. ltb p r) xs) ≡ length xs
length-apart [] p absent = refl
length-apart (x ∷ xs) p absent =
    let rest = length-apart xs p (λ in'. absent (Contains-tail x xs p in')) in
    elim (cases_order x p) [
      | inl e ↦ absurd (absent (subst (λ (z : ℕ). Contains (x ∷ xs) z) e (Contains-head x xs)))
      | inr apart ↦ elim apart [
        | inl lt ↦
            let low = ap length (cond-true (ltb x p) (x ∷ filter (λ r. ltb r p) xs) (filter (λ r. ltb r p) xs) (lt-ltb x p lt)) in
            let high = ap length (cond-false (ltb p x) (x ∷ filter (λ r. ltb p r) xs) (filter (λ r. ltb p r) xs) (le-ltb p x (omega arith))) in
            omega arith
        | inr gt ↦
            let low = ap length (cond-false (ltb x p) (x ∷ filter (λ r. ltb r p) xs) (filter (λ r. ltb r p) xs) (le-ltb x p (omega arith))) in
            let high = ap length (cond-true (ltb p x) (x ∷ filter (λ r. ltb p r) xs) (filter (λ r. ltb p r) xs) (lt-ltb p x gt)) in
            omega arith
      ]
    ]

pub length-inserted : (xs : List ℕ) (p : ℕ) → (Contains xs p → ⊥) → length (inserted xs p) ≡ length xs + 1
unfolding inserted
length-inserted xs p absent =
    let low = filter (λ r. ltb r p) xs in
    let high = filter (λ r. ltb p r) xs in
    let parts = length-append low (p ∷ high) in
    let sum = length-apart xs p absent in
    omega arith

-- The set without p.

pub Contains-removed : (xs : List ℕ) (p q : ℕ) → Contains xs q → (q ≡ p → ⊥) → Contains (removed xs p) q
unfolding removed
Contains-removed xs p q in' ne = Contains-filter (λ r. not (eqb r p)) xs q in' (not_from_false (eqb q p) (ne_eqb q p ne))

pub Contains-from_removed : (xs : List ℕ) (p q : ℕ) → Contains (removed xs p) q → Contains xs q × (q ≡ p → ⊥)
unfolding removed
Contains-from_removed xs p q in' =
    let kept = Contains-from_filter (λ r. not (eqb r p)) xs q in' in
    (kept.0, eqb-false q p (not-true (eqb q p) kept.1))

pub IsStrictlyIncreasing-removed : (xs : List ℕ) (p : ℕ) → IsStrictlyIncreasing xs → IsStrictlyIncreasing (removed xs p)
unfolding removed
IsStrictlyIncreasing-removed xs p up = IsStrictlyIncreasing-filter (λ r. not (eqb r p)) xs up

-- a number that is no member changes nothing
pub removed_other : (xs : List ℕ) (p : ℕ) → IsStrictlyIncreasing xs → (Contains xs p → ⊥) → removed xs p ≡ xs
removed_other xs p up absent =
    same_members (removed xs p) xs (IsStrictlyIncreasing-removed xs p up) up
    (λ q h. (Contains-from_removed xs p q h).0)
    (λ q h. Contains-removed xs p q h (λ e. absent (subst (λ (z : ℕ). Contains xs z) e h)))

-- to take a member out and put it back
pub inserted-removed : (xs : List ℕ) (p : ℕ) → IsStrictlyIncreasing xs → Contains xs p → inserted (removed xs p) p ≡ xs
inserted-removed xs p up in' =
    same_members (inserted (removed xs p) p) xs (IsStrictlyIncreasing-inserted (removed xs p) p (IsStrictlyIncreasing-removed xs p up)) up
    (λ q h. ⊎_elim (λ e. subst (λ (z : ℕ). Contains xs z) (sym e) in') (λ g. (Contains-from_removed xs p q g).0) (Contains-from_inserted (removed xs p) p q h))
    (λ q h. elim (cases_eq q p) [
      | inl e ↦ subst (λ (z : ℕ). Contains (inserted (removed xs p) p) z) (sym e) (Contains-inserted_itself (removed xs p) p)
      | inr ne ↦ Contains-inserted (removed xs p) p q (Contains-removed xs p q h ne)
    ])

pub length-removed : (xs : List ℕ) (p : ℕ) → IsStrictlyIncreasing xs → Contains xs p → length (removed xs p) + 1 ≡ length xs
length-removed xs p up in' =
    sym (length-inserted (removed xs p) p (λ h. (Contains-from_removed xs p p h).1 refl)) ∙ ap length (inserted-removed xs p up in')

-- A number above all members goes to the end.

filter_all : (test : ℕ → Bool) (xs : List ℕ) → ((x : ℕ) → Contains xs x → test x ≡ true) → filter test xs ≡ xs
filter_all test [] pass = refl
filter_all test (x ∷ xs) pass =
    cond-true (test x) (x ∷ filter test xs) (filter test xs) (pass x (Contains-head x xs))
    ∙ ap (λ t. x ∷ t) (filter_all test xs (λ y in'. pass y (Contains-tail x xs y in')))

filter_none : (test : ℕ → Bool) (xs : List ℕ) → ((x : ℕ) → Contains xs x → test x ≡ false) → filter test xs ≡ []
filter_none test [] fail = refl
filter_none test (x ∷ xs) fail =
    cond-false (test x) (x ∷ filter test xs) (filter test xs) (fail x (Contains-head x xs))
    ∙ filter_none test xs (λ y in'. fail y (Contains-tail x xs y in'))

pub inserted_above : (xs : List ℕ) (p : ℕ) → ((x : ℕ) → Contains xs x → x < p) → inserted xs p ≡ xs ++ p ∷ []
unfolding inserted
inserted_above xs p below =
    ap₂ (λ low high. low ++ p ∷ high)
    (filter_all (λ r. ltb r p) xs (λ x in'. lt-ltb x p (below x in')))
    (filter_none (λ r. ltb p r) xs (λ x in'. le-ltb p x (let h = below x in' in omega arith)))
