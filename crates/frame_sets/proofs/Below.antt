-- Laws of the members of an ascending list below a number.
use Rattle.std.proofs.Common.{◌≡◌, ℕ, ◌+◌, ◌<◌, ◌≤◌, zero, suc, List, [], ◌∷◌, ◌++◌, length, get_or, filter, drop, leb, ltb, Some, refl, sym, ap, ◌∙◌, subst, inl, inr, ⊎_elim, arith, length-append}
use Rattle.std.proofs.lemmas.Bool.{cases_lt, cond-true, cond-false, lt-leb, lt-ltb, le-ltb, ltb-true}
use Rattle.std.proofs.lemmas.List.{get_or_default}
use Rattle.std.proofs.lemmas.List.Elements.{Contains-get_or, Contains-append_left, Contains-append_right, Contains-append_cases}
use Rattle.std.proofs.lemmas.List.Kept.{IsStrictlyIncreasing-filter, AllPairs-from_increasing}
use Rattle.std.specs.List.{Contains}
use Rattle.std.specs.List.Sorted.{IsStrictlyIncreasing}
use Rattle.definitions.specs.Zones.{first_from}
use Rattle.definitions.proofs.Ascending.{Contains-head, Contains-tail, Contains-cons_cases, Contains-nil, IsStrictlyIncreasing-tail, IsStrictlyIncreasing-cons, IsStrictlyIncreasing-append, head_below, same_members, first_from-some}
use Rattle.definitions.proofs.FrameSets.{Contains-filter, Contains-from_filter}
use Rattle.definitions.proofs.ZoneNumbers.{below_top, top_at_most}
use Rattle.frame_sets.specs.FrameSet.{FrameSet, IsFrameSet}
use Rattle.frame_sets.specs.Left.{members_from}
use Rattle.frame_sets.proofs.Left.{all_above}
use Rattle.frame_sets.specs.Places.{count_below}

-- none, and all

pub count_below-none : (xs : List ℕ) (p : ℕ) → ((q : ℕ) → Contains xs q → p ≤ q) → count_below xs p ≡ 0
unfolding count_below
count_below-none [] p above = refl
count_below-none (x ∷ xs) p above =
    ap length (cond-false (ltb x p) (x ∷ filter (λ q. ltb q p) xs) (filter (λ q. ltb q p) xs) (le-ltb x p (above x (Contains-head x xs))))
    ∙ count_below-none xs p (λ q in'. above q (Contains-tail x xs q in'))

pub count_below-zero : (xs : List ℕ) → count_below xs 0 ≡ 0
count_below-zero xs = count_below-none xs 0 (λ q in'. omega arith)

count_below-cons : (x : ℕ) (xs : List ℕ) (p : ℕ) → x < p → count_below (x ∷ xs) p ≡ suc (count_below xs p)
unfolding count_below
count_below-cons x xs p lt = ap length (cond-true (ltb x p) (x ∷ filter (λ q. ltb q p) xs) (filter (λ q. ltb q p) xs) (lt-ltb x p lt))

pub count_below-all : (xs : List ℕ) (p : ℕ) → ((q : ℕ) → Contains xs q → q < p) → count_below xs p ≡ length xs
unfolding count_below
count_below-all [] p below = refl
count_below-all (x ∷ xs) p below =
    count_below-cons x xs p (below x (Contains-head x xs)) ∙ ap suc (count_below-all xs p (λ q in'. below q (Contains-tail x xs q in')))

-- the members from p on are those after the ones below
pub left_from : (xs : List ℕ) (p : ℕ) → IsStrictlyIncreasing xs → members_from p xs ≡ drop (count_below xs p) xs
unfolding count_below
left_from [] p up = refl
left_from (x ∷ xs) p up = elim (cases_lt x p) [
  | inl lt ↦
      cond-false (leb p x) (x ∷ filter (leb p) xs) (filter (leb p) xs) (lt-leb p x lt)
      ∙ left_from xs p (IsStrictlyIncreasing-tail x xs up)
      ∙ ap (λ (n : ℕ). drop n (x ∷ xs)) (sym (count_below-cons x xs p lt))
  | inr le ↦
      let above : (q : ℕ) → Contains (x ∷ xs) q → p ≤ q = λ q in'. elim (Contains-cons_cases x xs q in') [
        | inl is ↦ omega arith
        | inr rest ↦ let lt = head_below x xs q up rest in omega arith
      ] in
      all_above p (x ∷ xs) above ∙ ap (λ (n : ℕ). drop n (x ∷ xs)) (sym (count_below-none (x ∷ xs) p above))
]

-- `ys` are the members of `xs` from p up to before r
pub record AreBetween (xs : List ℕ) (p r : ℕ) (ys : List ℕ) : Type 0 where
  pub ascending : IsStrictlyIncreasing ys
  pub members : (q : ℕ) → Contains ys q → Contains xs q × (p ≤ q) × (q < r)
  pub all : (q : ℕ) → Contains xs q → p ≤ q → q < r → Contains ys q

pub count_below-more : (xs : List ℕ) (p r : ℕ) (ys : List ℕ) → IsStrictlyIncreasing xs → p ≤ r → AreBetween xs p r ys → count_below xs r ≡ count_below xs p + length ys
unfolding count_below
count_below-more xs p r ys up le between =
    let low = filter (λ q. ltb q p) xs in
    let whole = filter (λ q. ltb q r) xs in
    let same : whole ≡ low ++ ys = same_members whole (low ++ ys) (IsStrictlyIncreasing-filter (λ q. ltb q r) xs up)
    (IsStrictlyIncreasing-append low ys (IsStrictlyIncreasing-filter (λ q. ltb q p) xs up) between.ascending
    (λ x y x_in y_in. let kept = Contains-from_filter (λ q. ltb q p) xs x x_in in let lt = ltb-true x p kept.1 in let is = between.members y y_in in let from = is.1 in omega arith))
    (λ q in'.
    let kept = Contains-from_filter (λ z. ltb z r) xs q in' in
    let lt = ltb-true q r kept.1 in
    elim (cases_lt q p) [
      | inl below ↦ Contains-append_left low ys q (Contains-filter (λ z. ltb z p) xs q kept.0 (lt-ltb q p below))
      | inr ge ↦ Contains-append_right low ys q (between.all q kept.0 ge lt)
    ])
    (λ q in'. ⊎_elim
    (λ h. let kept = Contains-from_filter (λ z. ltb z p) xs q h in let lt = ltb-true q p kept.1 in Contains-filter (λ z. ltb z r) xs q kept.0 (lt-ltb q r (omega arith)))
    (λ h. let is = between.members q h in Contains-filter (λ z. ltb z r) xs q is.0 (lt-ltb q r is.2))
    (Contains-append_cases low ys q in')) in
    ap length same ∙ length-append low ys

-- The members at the places before the count lie below the number, and the others don't.

below_at_cons : (x : ℕ) (xs : List ℕ) (p j : ℕ) → ((k : ℕ) → k < count_below xs p → get_or xs k 0 < p) → x < p → j < count_below (x ∷ xs) p → get_or (x ∷ xs) j 0 < p
below_at_cons x xs p zero rest low lt = low
below_at_cons x xs p (suc j) rest low lt = let more = count_below-cons x xs p low in rest j (omega arith)

pub below_at : (xs : List ℕ) (p j : ℕ) → IsStrictlyIncreasing xs → j < count_below xs p → get_or xs j 0 < p
below_at [] p j up lt = let none = count_below-none [] p (λ q in'. absurd (Contains-nil q in')) in absurd (omega arith)
below_at (x ∷ xs) p j up lt = elim (cases_lt x p) [
  | inl low ↦ below_at_cons x xs p j (λ k. below_at xs p k (IsStrictlyIncreasing-tail x xs up)) low lt
  | inr ge ↦
      let none = count_below-none (x ∷ xs) p (λ q in'. ⊎_elim (λ e. omega arith) (λ h. let above = head_below x xs q up h in omega arith) (Contains-cons_cases x xs q in')) in
      absurd (omega arith)
]

pub above_at : (xs : List ℕ) (p j : ℕ) → IsStrictlyIncreasing xs → count_below xs p ≤ j → j < length xs → p ≤ get_or xs j 0
above_at [] p j up le lt = absurd (omega arith)
above_at (x ∷ xs) p zero up le lt = elim (cases_lt x p) [
  | inl low ↦ let more = count_below-cons x xs p low in absurd (omega arith)
  | inr ge ↦ ge
]
above_at (x ∷ xs) p (suc j) up le lt = elim (cases_lt x p) [
  | inl low ↦ let more = count_below-cons x xs p low in above_at xs p j (IsStrictlyIncreasing-tail x xs up) (omega arith) (omega arith)
  | inr ge ↦ let above = head_below x xs (get_or xs j 0) up (Contains-get_or xs j 0 (omega arith)) in omega arith
]

rises : (xs : List ℕ) (i j : ℕ) → IsStrictlyIncreasing xs → i < j → j < length xs → get_or xs i 0 < get_or xs j 0
rises xs i j up lt within = AllPairs-from_increasing xs up i j 0 lt within

-- a member at or above the number is at or above the first of these
pub next_least : (xs : List ℕ) (p r : ℕ) → IsStrictlyIncreasing xs → count_below xs p < length xs → Contains xs r → p ≤ r → get_or xs (count_below xs p) 0 ≤ r
next_least xs p r up lt (j, within, is) le =
    let k = count_below xs p in
    let at : get_or xs j 0 ≡ r = sym (get_or_default xs j r 0 within) ∙ is in
    elim (cases_lt j k) [
      | inl low ↦ absurd (let below = below_at xs p j up low in omega arith)
      | inr ge ↦ elim (cases_lt k j) [
        | inl after ↦ let higher = rises xs k j up after within in omega arith
        | inr here ↦ let same : k ≡ j = omega arith in let is_k = ap (λ i. get_or xs i 0) same in omega arith
      ]
    ]

-- the least member from p on is the one at the place that `count_below` gives
pub next_is : (xs : List ℕ) (p : ℕ) → IsStrictlyIncreasing xs → count_below xs p < length xs → first_from xs p ≡ Some (get_or xs (count_below xs p) 0)
next_is xs p up lt =
    let k = count_below xs p in
    first_from-some xs p (get_or xs k 0) up (Contains-get_or xs k 0 lt) (above_at xs p k up (omega arith) lt)
    (λ r in' le. next_least xs p r up lt in' le)

-- one more member lies below the number after it
pub count_below-next : (xs : List ℕ) (p : ℕ) → IsStrictlyIncreasing xs → count_below xs p < length xs → count_below xs (get_or xs (count_below xs p) 0 + 1) ≡ count_below xs p + 1
count_below-next xs p up lt =
    let k = count_below xs p in
    let x = get_or xs k 0 in
    let from = above_at xs p k up (omega arith) lt in
    count_below-more xs p (x + 1) (x ∷ []) up (omega arith) record {
      ascending = IsStrictlyIncreasing-cons x [] (λ y in'. absurd (Contains-nil y in')) (λ j l. absurd (omega arith));
      members = λ q in'. ⊎_elim (λ e. (subst (λ (z : ℕ). Contains xs z) e (Contains-get_or xs k 0 lt), omega arith, omega arith)) (λ h. absurd (Contains-nil q h)) (Contains-cons_cases x [] q in');
      all = λ q in' ge below.
          let least = next_least xs p q up lt in' ge in
          let same : x ≡ q = omega arith in
          subst (λ (z : ℕ). Contains (x ∷ []) z) same (Contains-head x []);
    }

-- a member's number is below 65536
pub small : (set : FrameSet) (k : ℕ) → IsFrameSet set → k < length set.members → get_or set.members k 0 < 65536
small set k h lt =
    let apart = h.zones.apart in
    let below = below_top set.zones (get_or set.members k 0) apart (h.valid k 0 lt) in
    let most = top_at_most set.zones h.zones in
    omega arith
