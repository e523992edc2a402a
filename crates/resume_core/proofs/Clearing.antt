-- A set of page frames without those of a run.
use Rattle.std.proofs.Common.{◌≡◌, ℕ, ◌+◌, ◌&&◌, ◌||◌, ◌<◌, ◌≤◌, ◌⊎◌, List, [], ◌∷◌, length, take, get_or, filter, not, cond, Bool, true, false, leb, ltb, max, Some, refl, sym, ap, ap₂, ◌∙◌, subst, inl, inr, arith}
use Rattle.std.proofs.lemmas.Bool.{cases_lt, lt-leb, le-ltb, not_from_false, and_left, and_right, ltb-false, leb-false, and_cases, not-true}
use Rattle.std.proofs.lemmas.List.Elements.{All-contains, Contains-get_or, filter_agree}
use Rattle.std.proofs.lemmas.List.Folds.{list_any_more}
use Rattle.std.proofs.lemmas.List.Kept.{IsStrictlyIncreasing-filter}
use Rattle.std.specs.List.{Contains, list_any}
use Rattle.std.specs.List.Sorted.{IsStrictlyIncreasing}
use Rattle.definitions.specs.Zones.{first_from, numbers}
use Rattle.frame_sets.specs.FrameSet.{FrameSet, IsFrameSet}
use Rattle.definitions.specs.FrameSets.{removed}
use Rattle.definitions.proofs.Ascending.{same_members}
use Rattle.definitions.proofs.FrameSets.{Contains-filter, Contains-from_filter, Contains-removed, Contains-from_removed, IsStrictlyIncreasing-removed}
use Rattle.resume_core.proofs.First.{is_first}

-- the numbers below `first`, and those from `end` on
abbrev pub without_run : ℕ → ℕ → List ℕ → List ℕ
without_run first end = filter (λ p. not (leb first p && ltb p end))

-- a number is outside a run where it is below it or past it
out : (first end p : ℕ) → not (leb first p && ltb p end) ≡ true → (p < first) ⊎ (end ≤ p)
out first end p is = elim (and_cases (leb first p) (ltb p end) (not-true (leb first p && ltb p end) is)) [
  | inl below ↦ inl (leb-false first p below)
  | inr past ↦ inr (ltb-false p end past)
]

below_run : (first end p : ℕ) → p < first → not (leb first p && ltb p end) ≡ true
below_run first end p lt = not_from_false (leb first p && ltb p end) (and_left (leb first p) (ltb p end) (lt-leb first p lt))

past_run : (first end p : ℕ) → end ≤ p → not (leb first p && ltb p end) ≡ true
past_run first end p le = not_from_false (leb first p && ltb p end) (and_right (leb first p) (ltb p end) (le-ltb p end le))

outside : (first end p : ℕ) → (p < first) ⊎ (end ≤ p) → not (leb first p && ltb p end) ≡ true
outside first end p (inl lt) = below_run first end p lt
outside first end p (inr le) = past_run first end p le

-- an empty run leaves all
pub without_none : (xs : List ℕ) (first : ℕ) → IsStrictlyIncreasing xs → xs ≡ without_run first first xs
without_none xs first up =
    same_members xs (without_run first first xs) up (IsStrictlyIncreasing-filter (λ p. not (leb first p && ltb p first)) xs up)
    (λ p in'. Contains-filter (λ q. not (leb first q && ltb q first)) xs p in' (outside first first p (cases_lt p first)))
    (λ p in'. (Contains-from_filter (λ q. not (leb first q && ltb q first)) xs p in').0)

-- the next member of the run goes
pub without_next : (xs ys : List ℕ) (first from p : ℕ) → IsStrictlyIncreasing xs → ys ≡ without_run first from xs → first ≤ from → first_from ys from ≡ Some p → removed ys p ≡ without_run first (p + 1) xs
without_next xs ys first from p up are le is =
    let test : ℕ → ℕ → Bool = λ end q. not (leb first q && ltb q end) in
    let ups : IsStrictlyIncreasing ys = subst IsStrictlyIncreasing (sym are) (IsStrictlyIncreasing-filter (test from) xs up) in
    let next = is_first ys from p ups is in
    let above = next.above in
    same_members (removed ys p) (without_run first (p + 1) xs) (IsStrictlyIncreasing-removed ys p ups) (IsStrictlyIncreasing-filter (test (p + 1)) xs up)
    (λ q in'.
    let was = Contains-from_removed ys p q in' in
    let kept = Contains-from_filter (test from) xs q (subst (λ (zs : List ℕ). Contains zs q) are was.0) in
    Contains-filter (test (p + 1)) xs q kept.0 (outside first (p + 1) q (elim (out first from q kept.1) [
      | inl lt ↦ inl lt
      | inr ge ↦ inr (let least = next.least q was.0 ge in let other = was.1 in omega arith)
    ])))
    (λ q in'.
    let kept = Contains-from_filter (test (p + 1)) xs q in' in
    let far : (q < first) ⊎ (from ≤ q) = elim (out first (p + 1) q kept.1) [ inl lt ↦ inl lt | inr ge ↦ inr (omega arith) ] in
    let was : Contains ys q = subst (λ (zs : List ℕ). Contains zs q) (sym are) (Contains-filter (test from) xs q kept.0 (outside first from q far)) in
    Contains-removed ys p q was (λ e. elim (out first (p + 1) q kept.1) [ inl lt ↦ absurd (omega arith) | inr ge ↦ absurd (omega arith) ]))

-- at the end no member is left in the run
pub without_all : (xs ys : List ℕ) (first from last : ℕ) → IsStrictlyIncreasing xs → ys ≡ without_run first from xs → from ≤ max first (last + 1) → ((q : ℕ) → Contains ys q → from ≤ q → last < q) → ys ≡ filter (λ p. not (leb first p && leb p last)) xs
without_all xs ys first from last up are le none =
    let test : ℕ → Bool = λ q. not (leb first q && ltb q from) in
    let all : ℕ → Bool = λ q. not (leb first q && leb q last) in
    same_members ys (filter all xs) (subst IsStrictlyIncreasing (sym are) (IsStrictlyIncreasing-filter test xs up)) (IsStrictlyIncreasing-filter all xs up)
    (λ q in'.
    let kept = Contains-from_filter test xs q (subst (λ (zs : List ℕ). Contains zs q) are in') in
    Contains-filter all xs q kept.0 (elim (out first from q kept.1) [
      | inl lt ↦ not_from_false (leb first q && leb q last) (and_left (leb first q) (leb q last) (lt-leb first q lt))
      | inr ge ↦ not_from_false (leb first q && leb q last) (and_right (leb first q) (leb q last) (lt-leb q last (none q in' ge)))
    ]))
    (λ q in'.
    let kept = Contains-from_filter all xs q in' in
    let far : (q < first) ⊎ (from ≤ q) = elim (and_cases (leb first q) (leb q last) (not-true (leb first q && leb q last) kept.1)) [
      | inl below ↦ inl (leb-false first q below)
      | inr past ↦ (let above = leb-false q last past in elim (cases_lt q first) [ inl lt ↦ inl lt | inr ge ↦ inr (omega arith) ])
    ] in
    subst (λ (zs : List ℕ). Contains zs q) (sym are) (Contains-filter test xs q kept.0 (outside first from q far)))

pub run_ascending : (xs ys : List ℕ) (first end : ℕ) → IsStrictlyIncreasing xs → ys ≡ without_run first end xs → IsStrictlyIncreasing ys
run_ascending xs ys first end up are = subst IsStrictlyIncreasing (sym are) (IsStrictlyIncreasing-filter (λ p. not (leb first p && ltb p end)) xs up)

-- what is left is valid
pub run_valid : (set left : FrameSet) (first end p : ℕ) → IsFrameSet set → left.zones ≡ set.zones → left.members ≡ without_run first end set.members → Contains left.members p → Contains (numbers left.zones) p
run_valid set left first end p is zones are in' =
    let was = Contains-from_filter (λ q. not (leb first q && ltb q end)) set.members p (subst (λ (xs : List ℕ). Contains xs p) are in') in
    subst (λ (zs : List (ℕ × ℕ)). Contains (numbers zs) p) (sym zones) (All-contains (Contains (numbers set.zones)) set.members p is.valid was.0)

pub set_is : (set : FrameSet) (zones : List (ℕ × ℕ)) {members : List ℕ} → set.zones ≡ zones → set.members ≡ members → set ≡ record { zones = zones; members = members }
set_is set zones same are = ap₂ set_of same are where
  set_of : List (ℕ × ℕ) → List ℕ → FrameSet
  set_of zs ms = record { zones = zs; members = ms }

-- Sets that are cleared one run after another.

pub filter_twice : (f g : ℕ → Bool) (xs : List ℕ) → filter f (filter g xs) ≡ filter (λ x. g x && f x) xs
filter_twice f g [] = refl
filter_twice f g (x ∷ xs) = by_first (g x) (filter_twice f g xs) where
  by_first : (b : Bool) → filter f (filter g xs) ≡ filter (λ y. g y && f y) xs → filter f (cond b (x ∷ filter g xs) (filter g xs)) ≡ cond (b && f x) (x ∷ filter (λ y. g y && f y) xs) (filter (λ y. g y && f y) xs)
  by_first true rest = ap (λ (ys : List ℕ). cond (f x) (x ∷ ys) ys) rest
  by_first false rest = rest

both_fail : (a b : Bool) → (not a && not b) ≡ not (a || b)
both_fail true b = refl
both_fail false b = refl

-- the numbers at which each of these tests fails
abbrev pub without_any : {X : Type 0} → (X → ℕ → Bool) → List X → List ℕ → List ℕ
without_any t xs = filter (λ p. not (list_any (λ x. t x p) xs))

pub one_more : {X : Type 0} (t : X → ℕ → Bool) (xs : List X) (k : ℕ) (d : X) (f : ℕ → Bool) (ns : List ℕ) → k < length xs → ((p : ℕ) → f p ≡ t (get_or xs k d) p) → filter (λ p. not (f p)) (without_any t (take k xs) ns) ≡ without_any t (take (k + 1) xs) ns
one_more t xs k d f ns lt same =
    filter_twice (λ p. not (f p)) (λ p. not (list_any (λ x. t x p) (take k xs))) ns
    ∙ filter_agree (λ p. not (list_any (λ x. t x p) (take k xs)) && not (f p)) (λ p. not (list_any (λ x. t x p) (take (k + 1) xs)))
    (λ p. both_fail (list_any (λ x. t x p) (take k xs)) (f p) ∙ ap (λ (b : Bool). not (list_any (λ x. t x p) (take k xs) || b)) (same p) ∙ ap not (sym (list_any_more (λ x. t x p) xs k d lt))) ns

or_false : (a b : Bool) → b ≡ false → (a || b) ≡ a
or_false true b e = refl
or_false false b e = e

pub none_more : {X : Type 0} (t : X → ℕ → Bool) (xs : List X) (k : ℕ) (d : X) (ns : List ℕ) → k < length xs → ((p : ℕ) → t (get_or xs k d) p ≡ false) → without_any t (take k xs) ns ≡ without_any t (take (k + 1) xs) ns
none_more t xs k d ns lt fails =
    filter_agree (λ p. not (list_any (λ x. t x p) (take k xs))) (λ p. not (list_any (λ x. t x p) (take (k + 1) xs)))
    (λ p. ap not (sym (list_any_more (λ x. t x p) xs k d lt ∙ or_false (list_any (λ x. t x p) (take k xs)) (t (get_or xs k d) p) (fails p)))) ns

filter_all : (xs : List ℕ) → filter (λ p. true) xs ≡ xs
filter_all [] = refl
filter_all (x ∷ xs) = ap (λ (ys : List ℕ). x ∷ ys) (filter_all xs)

-- none at first
pub none_yet : {X : Type 0} (t : X → ℕ → Bool) (xs : List X) (ns : List ℕ) → ns ≡ without_any t (take 0 xs) ns
none_yet t xs ns = sym (filter_all ns)

-- a set that is left is a set
pub set_left : (set left : FrameSet) (test : ℕ → Bool) → IsFrameSet set → left ≡ record { zones = set.zones; members = filter test set.members } → IsFrameSet left
set_left set left test is same = subst IsFrameSet (sym same) (record {
  zones = is.zones;
  ascending = IsStrictlyIncreasing-filter test set.members is.ascending;
  valid = λ k d lt.
      let there = Contains-from_filter test set.members (get_or (filter test set.members) k d) (Contains-get_or (filter test set.members) k d lt) in
      All-contains (Contains (numbers set.zones)) set.members (get_or (filter test set.members) k d) is.valid there.0;
})
