-- Laws of ascending lists as sets: parts of them, and how many members there are.
use Rattle.std.proofs.Common.{◌≡◌, ℕ, ◌+◌, ◌≤◌, List, length, get_or, filter, take, drop, refl, ap, subst, arith, not, nat_eq, All, length-drop}
use Rattle.std.proofs.lemmas.Bool.{ne_eqb}
use Rattle.std.proofs.lemmas.List.{get_or-take, get_or-drop, length-take, take-append-drop}
use Rattle.std.proofs.lemmas.List.Elements.{Contains-get_or, Contains-append_left, Contains-append_right}
use Rattle.std.proofs.lemmas.List.Filters.{length-filter_both}
use Rattle.std.proofs.lemmas.List.Kept.{AllPairs-from_increasing, IsStrictlyIncreasing-filter}
use Rattle.std.proofs.lemmas.List.Sums.{count_by-le-length, length-filter}
use Rattle.std.proofs.lemmas.Map.Keys.{IsDistinct-from_apart}
use Rattle.std.specs.List.{Contains, IsDistinct, list_any}
use Rattle.std.specs.List.Sorted.{IsStrictlyIncreasing}
use Rattle.definitions.proofs.Ascending.{same_members}
use Rattle.definitions.proofs.FrameSets.{Contains-filter, Contains-from_filter}
use Rattle.placement.specs.Plan.{without}
use Rattle.placement.proofs.Reserved.{member_passes, passes_member}

-- A part at the front or the back.

pub up_take : (n : ℕ) (xs : List ℕ) → IsStrictlyIncreasing xs → IsStrictlyIncreasing (take n xs)
up_take n xs up k lt =
    let size = length-take n xs in
    let here = get_or-take n xs k 0 (omega arith) in
    let next = get_or-take n xs (k + 1) 0 (omega arith) in
    let low = up k (omega arith) in
    omega arith

pub up_drop : (n : ℕ) (xs : List ℕ) → IsStrictlyIncreasing xs → IsStrictlyIncreasing (drop n xs)
up_drop n xs up k lt =
    let size = length-drop n xs in
    let here = get_or-drop n xs k 0 in
    let next = get_or-drop n xs (k + 1) 0 in
    let place : n + (k + 1) ≡ n + k + 1 = omega arith in
    let at = ap (λ (j : ℕ). get_or xs j 0) place in
    let low = up (n + k) (omega arith) in
    omega arith

pub Contains-from_take : (n : ℕ) (xs : List ℕ) (x : ℕ) → Contains (take n xs) x → Contains xs x
Contains-from_take n xs x in' = subst (λ (ys : List ℕ). Contains ys x) (take-append-drop n xs) (Contains-append_left (take n xs) (drop n xs) x in')

pub Contains-from_drop : (n : ℕ) (xs : List ℕ) (x : ℕ) → Contains (drop n xs) x → Contains xs x
Contains-from_drop n xs x in' = subst (λ (ys : List ℕ). Contains ys x) (take-append-drop n xs) (Contains-append_right (take n xs) (drop n xs) x in')

pub All-of_members : (P : ℕ → Type 0) (xs : List ℕ) → ((x : ℕ) → Contains xs x → P x) → All P xs
All-of_members P xs h i d lt = h (get_or xs i d) (Contains-get_or xs i d lt)

pub member_of_All : (P : ℕ → Type 0) (xs : List ℕ) (x : ℕ) → All P xs → Contains xs x → P x
member_of_All P xs x all (k, lt, is) = subst P is (all k x lt)

-- the numbers of an ascending list are distinct
pub IsDistinct-ascending : (xs : List ℕ) → IsStrictlyIncreasing xs → IsDistinct nat_eq xs
IsDistinct-ascending xs up =
    IsDistinct-from_apart nat_eq xs
    (λ i j d lt within.
    let low = AllPairs-from_increasing xs up i j d lt within in
    ne_eqb (get_or xs i d) (get_or xs j d) (λ e. omega arith))

-- How many there are.

-- the members of a part, picked from the whole
picked_part : (whole part : List ℕ) → IsStrictlyIncreasing whole → IsStrictlyIncreasing part → ((x : ℕ) → Contains part x → Contains whole x) → filter (λ p. list_any (nat_eq p) part) whole ≡ part
picked_part whole part up_w up_p inside =
    same_members (filter (λ p. list_any (nat_eq p) part) whole) part (IsStrictlyIncreasing-filter (λ p. list_any (nat_eq p) part) whole up_w) up_p
    (λ x in'. passes_member part x (Contains-from_filter (λ p. list_any (nat_eq p) part) whole x in').1)
    (λ x in'. Contains-filter (λ p. list_any (nat_eq p) part) whole x (inside x in') (member_passes part x in'))

pub length-part : (whole part : List ℕ) → IsStrictlyIncreasing whole → IsStrictlyIncreasing part → ((x : ℕ) → Contains part x → Contains whole x) → length part ≤ length whole
length-part whole part up_w up_p inside =
    let size = ap length (picked_part whole part up_w up_p inside) in
    let count = length-filter (λ p. list_any (nat_eq p) part) whole in
    let most = count_by-le-length (λ p. list_any (nat_eq p) part) whole in
    omega arith

-- what is left without a part
pub length-without_part : (whole part : List ℕ) → IsStrictlyIncreasing whole → IsStrictlyIncreasing part → ((x : ℕ) → Contains part x → Contains whole x) → length (without whole part) + length part ≡ length whole
unfolding without
length-without_part whole part up_w up_p inside =
    let size = ap length (picked_part whole part up_w up_p inside) in
    let both = length-filter_both (λ p. list_any (nat_eq p) part) (λ p. not (list_any (nat_eq p) part)) (λ p. refl) whole in
    omega arith

-- a set takes away no more than it has
pub length-without : (whole others : List ℕ) → IsStrictlyIncreasing whole → IsStrictlyIncreasing others → length whole ≤ length (without whole others) + length others
unfolding without
length-without whole others up_w up_o =
    let common = filter (λ p. list_any (nat_eq p) others) whole in
    let both = length-filter_both (λ p. list_any (nat_eq p) others) (λ p. not (list_any (nat_eq p) others)) (λ p. refl) whole in
    let most = length-part others common up_o (IsStrictlyIncreasing-filter (λ p. list_any (nat_eq p) others) whole up_w)
    (λ x in'. passes_member others x (Contains-from_filter (λ p. list_any (nat_eq p) others) whole x in').1) in
    omega arith
