-- The page frames of an image that are listed rise, and those with data pages are the others.
use Rattle.std.proofs.Common.{◌≡◌, ℕ, ◌+◌, ◌-◌, ◌<◌, ◌≤◌, ◌==◌, zero, suc, List, [], ◌∷◌, ◌++◌, map, filter, length, Bool, not, None, refl, sym, ap, ◌∙◌, subst, inl, inr, ⊎_elim, append_assoc, append-nil, add-one, arith}
use Rattle.std.proofs.lemmas.Bool.{cases_Bool, cases_order, cond-true, cond-false, eqb-true, eq-eqb}
use Rattle.std.proofs.lemmas.List.{length-map}
use Rattle.std.proofs.lemmas.List.FromFn.{length-map-range_with_len, get_or-map-range_with_len, length-range_with_len}
use Rattle.std.proofs.lemmas.List.Kept.{AllPairs-from_increasing}
use Rattle.std.specs.List.{Contains, list_any, range_with_len}
use Rattle.std.specs.List.Sorted.{IsStrictlyIncreasing}
use Rattle.definitions.specs.Disk as disk
use Rattle.definitions.proofs.Ascending.{Contains-head, Contains-tail, Contains-cons_cases, Contains-nil, IsStrictlyIncreasing-append, IsStrictlyIncreasing-cons}
use Rattle.definitions.proofs.ZoneNumbers.{range-bounds}
use Rattle.definitions.proofs.FrameSets.{Contains-filter, Contains-from_filter}
use Rattle.frame_sets.specs.Unpacked.{Unpacked, IsUpTo}
use Rattle.frame_sets.specs.Numbers.{number_in, before_in, fault_in, numbers_in, first_below}
use Rattle.frame_sets.proofs.Firsts.{first_below-none}
use Rattle.frame_sets.proofs.Listing.{numbers_in-none, numbers_in-more, up_to_numbers, above_all}
use Rattle.plain_machine.specs.Machine.{Hardware}
use Rattle.plain_machine.specs.Trace as trace
use Rattle.image_read.specs.Stream.{frames_in, marked_in}
use Rattle.plain_machine.specs.Trace.{data_frames}
use Rattle.image_read.specs.Taking.{with_data}
use Rattle.image_read.proofs.Blocks.{any_of, some_of}

-- Numbers without a fault rise on.

one_more : (xs : List ℕ) (p : ℕ) → IsStrictlyIncreasing xs → ((q : ℕ) → Contains xs q → q < p) → IsStrictlyIncreasing (xs ++ p ∷ [])
one_more xs p up above =
    IsStrictlyIncreasing-append xs (p ∷ []) up (IsStrictlyIncreasing-cons p [] (λ y in'. absurd (Contains-nil y in')) (λ k lt. absurd (omega arith)))
    (λ x y x_in y_in. ⊎_elim (λ (e : p ≡ y). let lt = above x x_in in let le : x < y = omega arith in le) (λ none. absurd (Contains-nil y none)) (Contains-cons_cases p [] y y_in))

pub rising_on : (zones : List (ℕ × ℕ)) (u : Unpacked) (page members : List ℕ) (count j : ℕ) → j ≤ count → first_below (fault_in zones u page) count ≡ None → IsUpTo u.last members → IsStrictlyIncreasing members → IsStrictlyIncreasing (members ++ numbers_in u page j)
rising_on zones u page members count zero le none up rising =
    subst IsStrictlyIncreasing (sym (append-nil members) ∙ ap (λ t. members ++ t) (sym (numbers_in-none u page))) rising
rising_on zones u page members count (suc j) le none up rising =
    let rest = rising_on zones u page members count j (omega arith) none up rising in
    let upto = up_to_numbers zones u page members count j (omega arith) none up in
    let sound = first_below-none (fault_in zones u page) j count (omega arith) none in
    subst IsStrictlyIncreasing
    (append_assoc members (numbers_in u page j) (number_in u page j ∷ []) ∙ ap (λ t. members ++ t) (sym (numbers_in-more u page j)) ∙ ap (λ i. members ++ numbers_in u page i) (add-one j))
    (one_more (members ++ numbers_in u page j) (number_in u page j) rest (above_all zones (before_in u page j) (number_in u page j) (members ++ numbers_in u page j) upto sound))

-- Two different places have different numbers.

number_of : (f : ℕ → ℕ) (n j : ℕ) → j < n → Contains (map f (range_with_len 0 n)) (f j)
number_of f n j lt =
    let len = length-map-range_with_len f 0 n in
    (j, omega arith, get_or-map-range_with_len f 0 n j j (f j) lt (omega arith))

pub numbers_differ : (f : ℕ → ℕ) (n i j : ℕ) → IsStrictlyIncreasing (map f (range_with_len 0 n)) → i < n → j < n → f i ≡ f j → i ≡ j
numbers_differ f n i j up i_lt j_lt e =
    let len = length-map-range_with_len f 0 n in
    let at_i = get_or-map-range_with_len f 0 n i i 0 i_lt (omega arith) in
    let at_j = get_or-map-range_with_len f 0 n j j 0 j_lt (omega arith) in
    elim (cases_order i j) [
      | inl same ↦ same
      | inr apart ↦ elim apart [
        | inl lt ↦ absurd (let pair = AllPairs-from_increasing (map f (range_with_len 0 n)) up i j 0 lt (omega arith) in omega arith)
        | inr gt ↦ absurd (let pair = AllPairs-from_increasing (map f (range_with_len 0 n)) up j i 0 gt (omega arith) in omega arith)
      ]
    ]

-- The page frames without a mark are those with data pages.

Contains-map : (f : ℕ → ℕ) (xs : List ℕ) (x : ℕ) → Contains xs x → Contains (map f xs) (f x)
Contains-map f [] x in' = absurd (Contains-nil x in')
Contains-map f (y ∷ ys) x in' = elim (Contains-cons_cases y ys x in') [
  | inl e ↦ subst (λ (z : ℕ). Contains (f y ∷ map f ys) z) (ap f e) (Contains-head (f y) (map f ys))
  | inr rest ↦ Contains-tail (f y) (map f ys) (f x) (Contains-map f ys x rest)
]

Contains-from_map : (f : ℕ → ℕ) (xs : List ℕ) (p : ℕ) → Contains (map f xs) p → (x : ℕ) × Contains xs x × (f x ≡ p)
Contains-from_map f [] p in' = absurd (Contains-nil p in')
Contains-from_map f (y ∷ ys) p in' = elim (Contains-cons_cases (f y) (map f ys) p in') [
  | inl e ↦ (y, Contains-head y ys, e)
  | inr rest ↦ let found = Contains-from_map f ys p rest in (found.0, Contains-tail y ys found.0 found.1, found.2)
]

has : List ℕ → ℕ → Bool
has zeros p = list_any (λ q. q == p) zeros

-- where a test on numbers is a test on places, the same is kept
pub kept_same : (f : ℕ → ℕ) (on_number on_place : ℕ → Bool) (js : List ℕ) → ((j : ℕ) → Contains js j → on_number (f j) ≡ on_place j) → filter on_number (map f js) ≡ map f (filter on_place js)
kept_same f on_number on_place [] each = refl
kept_same f on_number on_place (j ∷ js) each =
    let rest = kept_same f on_number on_place js (λ i in'. each i (Contains-tail j js i in')) in
    let here = each j (Contains-head j js) in
    elim (cases_Bool (on_place j)) [
      | inl on ↦
          cond-true (on_number (f j)) (f j ∷ filter on_number (map f js)) (filter on_number (map f js)) (here ∙ on)
          ∙ ap (λ t. f j ∷ t) rest
          ∙ sym (ap (map f) (cond-true (on_place j) (j ∷ filter on_place js) (filter on_place js) on))
      | inr off ↦
          cond-false (on_number (f j)) (f j ∷ filter on_number (map f js)) (filter on_number (map f js)) (here ∙ off)
          ∙ rest
          ∙ sym (ap (map f) (cond-false (on_place j) (j ∷ filter on_place js) (filter on_place js) off))
    ]

pub data_kept : (f : ℕ → ℕ) (marked : ℕ → Bool) (n : ℕ) → IsStrictlyIncreasing (map f (range_with_len 0 n)) → filter (λ p. not (list_any (λ q. q == p) (map f (filter marked (range_with_len 0 n))))) (map f (range_with_len 0 n)) ≡ map f (filter (λ j. not (marked j)) (range_with_len 0 n))
data_kept f marked n up =
    let zeros = map f (filter marked (range_with_len 0 n)) in
    kept_same f (λ p. not (list_any (λ q. q == p) zeros)) (λ j. not (marked j)) (range_with_len 0 n)
    (λ j in'.
    let lt = (range-bounds 0 n j in').1 in
    ap not (elim (cases_Bool (marked j)) [
      | inl on ↦ any_of (λ q. q == f j) zeros (f j) (Contains-map f (filter marked (range_with_len 0 n)) j (Contains-filter marked (range_with_len 0 n) j in' on)) (eq-eqb (f j) (f j) refl) ∙ sym on
      | inr off ↦ elim (cases_Bool (list_any (λ q. q == f j) zeros)) [
        | inl found ↦ absurd (
            let at = some_of (λ q. q == f j) zeros found in
            let from = Contains-from_map f (filter marked (range_with_len 0 n)) at.0 at.1 in
            let kept = Contains-from_filter marked (range_with_len 0 n) from.0 from.1 in
            let below = (range-bounds 0 n from.0 kept.0).1 in
            let same = numbers_differ f n from.0 j up (omega arith) (omega arith) (from.2 ∙ eqb-true at.0 (f j) at.2) in
            let on = sym (ap marked same) ∙ kept.1 in
            cc)
        | inr none ↦ none ∙ sym off
      ]
    ]))

-- how many page frames there are with and without data pages
count_apart : (test : ℕ → Bool) (xs : List ℕ) → length (filter test xs) + length (filter (λ x. not (test x)) xs) ≡ length xs
count_apart test [] = refl
count_apart test (x ∷ xs) =
    let rest = count_apart test xs in
    elim (cases_Bool (test x)) [
      | inl on ↦
          let a = ap length (cond-true (test x) (x ∷ filter test xs) (filter test xs) on) in
          let b = ap length (cond-false (not (test x)) (x ∷ filter (λ y. not (test y)) xs) (filter (λ y. not (test y)) xs) (ap not on)) in
          omega arith
      | inr off ↦
          let a = ap length (cond-false (test x) (x ∷ filter test xs) (filter test xs) off) in
          let b = ap length (cond-true (not (test x)) (x ∷ filter (λ y. not (test y)) xs) (filter (λ y. not (test y)) xs) (ap not off)) in
          omega arith
    ]

pub data_count : (f : ℕ → ℕ) (marked : ℕ → Bool) (n : ℕ) → length (map f (filter (λ j. not (marked j)) (range_with_len 0 n))) ≡ n - length (map f (filter marked (range_with_len 0 n)))
data_count f marked n =
    let a = length-map {A = ℕ} {B = ℕ} (filter (λ j. not (marked j)) (range_with_len 0 n)) f in
    let b = length-map {A = ℕ} {B = ℕ} (filter marked (range_with_len 0 n)) f in
    let c = count_apart marked (range_with_len 0 n) in
    let d = length-range_with_len 0 n in
    omega arith

-- The same for the page frames of an image.

pub data_frames_are : (h : Hardware) (v : disk.DiskImage) → IsStrictlyIncreasing (frames_in h v (trace.info_in h v).image_pages) → with_data (frames_in h v (trace.info_in h v).image_pages) (marked_in h v (trace.info_in h v).image_pages) ≡ data_frames h v
unfolding frames_in marked_in data_frames with_data
data_frames_are h v up = data_kept (trace.number_in h v) (λ j. trace.is_marked_by (trace.format_in h v) (trace.number_word h v j)) (trace.info_in h v).image_pages up

pub data_length : (h : Hardware) (v : disk.DiskImage) → length (data_frames h v) ≡ (trace.info_in h v).image_pages - length (marked_in h v (trace.info_in h v).image_pages)
unfolding marked_in data_frames
data_length h v = data_count (trace.number_in h v) (λ j. trace.is_marked_by (trace.format_in h v) (trace.number_word h v j)) (trace.info_in h v).image_pages

pub data_words : (h : Hardware) (v : disk.DiskImage) → length (data_frames h v) ≡ trace.d_in h v
unfolding data_frames
data_words h v =
    let js = range_with_len 0 (trace.info_in h v).image_pages in
    let on_place : ℕ → Bool = λ j. not (trace.is_marked_by (trace.format_in h v) (trace.number_word h v j)) in
    length-map {A = ℕ} {B = ℕ} (filter on_place js) (trace.number_in h v)
    ∙ sym (length-map {A = ℕ} {B = ℕ} (filter on_place js) (trace.number_word h v))
    ∙ ap length (sym (kept_same (trace.number_word h v) (λ w. not (trace.is_marked_by (trace.format_in h v) w)) on_place js (λ j in'. refl)))
