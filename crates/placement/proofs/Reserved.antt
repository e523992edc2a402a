-- Laws of sets of page frames without others, and of the free page frames that aren't reserved.
use Rattle.std.proofs.Common.{◌≡◌, ℕ, ◌+◌, ◌<◌, ◌≤◌, List, [], ◌∷◌, ◌++◌, length, get_or, filter, take, refl, sym, ap, ap₂, ◌∙◌, inl, inr, arith, Bool, true, false, ltb, not, nat_eq, ◌||◌, slice_get, Some}
use Rattle.std.proofs.lemmas.Bool.{cases_Bool, cond-true, cond-false, lt-ltb, le-ltb, false≢true, eqb-true, or_left, or_right, or_from, not_from_true, not_from_false}
use Rattle.std.proofs.lemmas.Cmp.{nat_eq_equiv}
use Rattle.std.proofs.lemmas.Map.Views.{Contains-from_any, list_any-from_Contains}
use Rattle.std.proofs.lemmas.List.{length-take-le, take_more}
use Rattle.std.proofs.lemmas.List.Elements.{Contains-get_or}
use Rattle.std.proofs.lemmas.List.Kept.{IsStrictlyIncreasing-filter}
use Rattle.std.specs.List.{Contains, list_any, zip}
use Rattle.std.specs.List.Sorted.{IsStrictlyIncreasing}
use Rattle.definitions.specs.Zones.{first_from}
use Rattle.definitions.proofs.FrameSets.{Contains-filter, Contains-from_filter}
use Rattle.frame_sets.specs.FrameSet.{FrameSet, IsFrameSet}
use Rattle.placement.specs.Plan.{without}
use Rattle.placement.specs.Walk.{unreserved}
use Rattle.frame_sets.specs.Left.{members_from}
use Rattle.frame_sets.proofs.Bounds.{member_below}
use Rattle.frame_sets.proofs.Left.{first_passing}

-- The test for a member.

pub member_passes : (xs : List ℕ) (p : ℕ) → Contains xs p → list_any (nat_eq p) xs ≡ true
member_passes xs p in' = list_any-from_Contains nat_eq_equiv p xs in'

pub passes_member : (xs : List ℕ) (p : ℕ) → list_any (nat_eq p) xs ≡ true → Contains xs p
passes_member xs p is = Contains-from_any (λ x y e. eqb-true x y e) p xs is

pub stranger_fails : (xs : List ℕ) (p : ℕ) → (Contains xs p → ⊥) → list_any (nat_eq p) xs ≡ false
stranger_fails xs p out = elim (cases_Bool (list_any (nat_eq p) xs)) [
  | inl is ↦ absurd (out (passes_member xs p is))
  | inr is ↦ is
]

-- The first of a list, where it passes a test, and where it doesn't.

passes_first : (test : ℕ → Bool) (rest : List ℕ) (p : ℕ) → test p ≡ true → slice_get (filter test (p ∷ rest)) 0 ≡ Some p
passes_first test rest p passes = ap (λ (ps : List ℕ). slice_get ps 0) (cond-true (test p) (p ∷ filter test rest) (filter test rest) passes)

fails_first : (test : ℕ → Bool) (rest : List ℕ) (p : ℕ) → test p ≡ false → filter test (p ∷ rest) ≡ filter test rest
fails_first test rest p fails = cond-false (test p) (p ∷ filter test rest) (filter test rest) fails

-- The walk over those that are in no other set.

pub first_without : (free origs : List ℕ) (from : ℕ) → first_from (without free origs) from ≡ slice_get (without (members_from from free) origs) 0
unfolding without
first_without free origs from = first_passing (λ q. not (list_any (nat_eq q) origs)) from free

pub apart_first : (origs rest : List ℕ) (p : ℕ) → (Contains origs p → ⊥) → slice_get (without (p ∷ rest) origs) 0 ≡ Some p
unfolding without
apart_first origs rest p out =
    passes_first (λ q. not (list_any (nat_eq q) origs)) rest p (not_from_false (list_any (nat_eq p) origs) (stranger_fails origs p out))

pub among_later : (origs rest : List ℕ) (p : ℕ) → Contains origs p → without (p ∷ rest) origs ≡ without rest origs
unfolding without
among_later origs rest p in' =
    fails_first (λ q. not (list_any (nat_eq q) origs)) rest p (not_from_true (list_any (nat_eq p) origs) (member_passes origs p in'))

-- The walk over those that aren't reserved.

pub first_unreserved : (origs free : List ℕ) (bounce from : ℕ) → first_from (unreserved origs free bounce) from ≡ slice_get (unreserved origs (members_from from free) bounce) 0
unfolding unreserved
first_unreserved origs free bounce from = first_passing (λ q. ltb bounce q || list_any (nat_eq q) origs) from free

pub above_first : (origs rest : List ℕ) (bounce p : ℕ) → bounce < p → slice_get (unreserved origs (p ∷ rest) bounce) 0 ≡ Some p
unfolding unreserved
above_first origs rest bounce p above =
    passes_first (λ q. ltb bounce q || list_any (nat_eq q) origs) rest p (or_left (ltb bounce p) (list_any (nat_eq p) origs) (lt-ltb bounce p above))

pub original_first : (origs rest : List ℕ) (bounce p : ℕ) → Contains origs p → slice_get (unreserved origs (p ∷ rest) bounce) 0 ≡ Some p
unfolding unreserved
original_first origs rest bounce p in' =
    passes_first (λ q. ltb bounce q || list_any (nat_eq q) origs) rest p (or_right (ltb bounce p) (list_any (nat_eq p) origs) (member_passes origs p in'))

pub reserved_later : (origs rest : List ℕ) (bounce p : ℕ) → p ≤ bounce → (Contains origs p → ⊥) → unreserved origs (p ∷ rest) bounce ≡ unreserved origs rest bounce
unfolding unreserved
reserved_later origs rest bounce p le out =
    fails_first (λ q. ltb bounce q || list_any (nat_eq q) origs) rest p
    (or_from (ltb bounce p) (list_any (nat_eq p) origs) (le-ltb bounce p le) (stranger_fails origs p out))

-- Both lists ascend, and their numbers are below 65536.

pub up_without : (free origs : List ℕ) → IsStrictlyIncreasing free → IsStrictlyIncreasing (without free origs)
unfolding without
up_without free origs up = IsStrictlyIncreasing-filter (λ p. not (list_any (nat_eq p) origs)) free up

pub up_unreserved : (origs free : List ℕ) (bounce : ℕ) → IsStrictlyIncreasing free → IsStrictlyIncreasing (unreserved origs free bounce)
unfolding unreserved
up_unreserved origs free bounce up = IsStrictlyIncreasing-filter (λ p. ltb bounce p || list_any (nat_eq p) origs) free up

pub Contains-from_without : (free origs : List ℕ) (p : ℕ) → Contains (without free origs) p → Contains free p × (Contains origs p → ⊥)
unfolding without
Contains-from_without free origs p in' =
    let both = Contains-from_filter (λ q. not (list_any (nat_eq q) origs)) free p in' in
    (both.0, λ h. false≢true (sym (not_from_true (list_any (nat_eq p) origs) (member_passes origs p h)) ∙ both.1))

pub Contains-without : (free origs : List ℕ) (p : ℕ) → Contains free p → (Contains origs p → ⊥) → Contains (without free origs) p
unfolding without
Contains-without free origs p in' out =
    Contains-filter (λ q. not (list_any (nat_eq q) origs)) free p in' (not_from_false (list_any (nat_eq p) origs) (stranger_fails origs p out))

pub small_without : (free : FrameSet) (origs : List ℕ) (k : ℕ) → IsFrameSet free → k < length (without free.members origs) → get_or (without free.members origs) k 0 < 65536
small_without free origs k h lt =
    let p = get_or (without free.members origs) k 0 in
    member_below free p h (Contains-from_without free.members origs p (Contains-get_or (without free.members origs) k 0 lt)).0

pub small_unreserved : (origs : List ℕ) (free : FrameSet) (bounce k : ℕ) → IsFrameSet free → k < length (unreserved origs free.members bounce) → get_or (unreserved origs free.members bounce) k 0 < 65536
unfolding unreserved
small_unreserved origs free bounce k h lt =
    let test : ℕ → Bool = λ p. ltb bounce p || list_any (nat_eq p) origs in
    let p = get_or (filter test free.members) k 0 in
    member_below free p h (Contains-from_filter test free.members p (Contains-get_or (filter test free.members) k 0 lt)).0

-- Pairs, one more.

zip-seam : (xs ys : List ℕ) (x y : ℕ) → length xs ≡ length ys → zip (xs ++ x ∷ []) (ys ++ y ∷ []) ≡ zip xs ys ++ (x, y) ∷ []
zip-seam [] [] x y same = refl
zip-seam [] (b ∷ bs) x y same = absurd (omega arith)
zip-seam (a ∷ as') [] x y same = absurd (omega arith)
zip-seam (a ∷ as') (b ∷ bs) x y same = ap (λ (ps : List (ℕ × ℕ)). (a, b) ∷ ps) (zip-seam as' bs x y (omega arith))

pub zip-more : (xs ys : List ℕ) (k : ℕ) → k < length xs → k < length ys → zip (take (k + 1) xs) (take (k + 1) ys) ≡ zip (take k xs) (take k ys) ++ (get_or xs k 0, get_or ys k 0) ∷ []
zip-more xs ys k lt_x lt_y =
    let front_x = length-take-le k xs (omega arith) in
    let front_y = length-take-le k ys (omega arith) in
    ap₂ (λ (us vs : List ℕ). zip us vs) (take_more xs k 0 lt_x) (take_more ys k 0 lt_y)
    ∙ zip-seam (take k xs) (take k ys) (get_or xs k 0) (get_or ys k 0) (front_x ∙ sym front_y)
