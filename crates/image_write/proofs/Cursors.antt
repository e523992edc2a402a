-- Laws of how far the copies are read.
use Rattle.std.proofs.Common.{◌≡◌, ℕ, ◌+◌, ◌<◌, ◌≤◌, zero, suc, Bool, true, List, [], ◌∷◌, length, get_or, take, zip, filter, cond, Some, refl, sym, ap, ap₂, ◌∙◌, inl, inr, arith}
use Rattle.std.proofs.lemmas.Bool.{cases_lt, cases_Bool, cond-true, cond-false}
use Rattle.std.proofs.lemmas.List.{take_all}
use Rattle.std.proofs.lemmas.List.Filters.{length-filter_more}
use Rattle.std.proofs.lemmas.Slice.Zip.{get_or-zip, length-zip}
use Rattle.std.specs.List.Sorted.{IsStrictlyIncreasing}
use Rattle.definitions.specs.Zones.{first_from}
use Rattle.frame_sets.specs.Places.{count_below}
use Rattle.frame_sets.proofs.Below.{count_below-zero, count_below-next, next_is}
use Rattle.image_write.specs.Copies.{has_data, with_data, IsPassed}

pub none_passed : (origs copies zeros : List ℕ) → IsPassed origs copies zeros 0 0 0 0
none_passed origs copies zeros = record {
  within = omega arith;
  origs_below = count_below-zero origs;
  copies_below = count_below-zero copies;
  counted = refl;
}

-- what the call's conditions say of the two sets
pub record ArePaired (origs copies : List ℕ) : Type 0 where
  pub up : IsStrictlyIncreasing origs
  pub copies_up : IsStrictlyIncreasing copies
  pub equal : length origs ≡ length copies

-- while a page with data is left, an original is
pub some_left : (origs copies zeros : List ℕ) (orig copy passed found : ℕ) → ArePaired origs copies → IsPassed origs copies zeros orig copy passed found → found < length (with_data origs copies zeros) → passed < length origs
some_left origs copies zeros orig copy passed found pair h lt = elim (cases_lt passed (length origs)) [
  | inl more ↦ more
  | inr over ↦
      let equal = pair.equal in
      let size : length (zip origs copies) ≤ passed = omega (arith, length-zip origs copies) in
      let all = ap (λ (ps : List (ℕ × ℕ)). length (filter (has_data zeros) ps)) (take_all passed (zip origs copies) size) in
      let counted = h.counted in
      absurd (omega arith)
]

pub next_orig : (origs copies zeros : List ℕ) (orig copy passed found : ℕ) → ArePaired origs copies → IsPassed origs copies zeros orig copy passed found → passed < length origs → first_from origs orig ≡ Some (get_or origs passed 0)
next_orig origs copies zeros orig copy passed found pair h lt =
    let below = h.origs_below in
    next_is origs orig pair.up (omega arith) ∙ ap (λ (k : ℕ). Some (get_or origs k 0)) below

pub next_copy : (origs copies zeros : List ℕ) (orig copy passed found : ℕ) → ArePaired origs copies → IsPassed origs copies zeros orig copy passed found → passed < length origs → first_from copies copy ≡ Some (get_or copies passed 0)
next_copy origs copies zeros orig copy passed found pair h lt =
    let below = h.copies_below in
    let equal = pair.equal in
    next_is copies copy pair.copies_up (omega arith) ∙ ap (λ (k : ℕ). Some (get_or copies k 0)) below

-- the pair that is next
abbrev pub next_pair : List ℕ → List ℕ → ℕ → ℕ × ℕ
next_pair origs copies passed = (get_or origs passed 0, get_or copies passed 0)

pub pass_one : (origs copies zeros : List ℕ) (orig copy passed found : ℕ) → ArePaired origs copies → IsPassed origs copies zeros orig copy passed found → passed < length origs →
    IsPassed origs copies zeros (get_or origs passed 0 + 1) (get_or copies passed 0 + 1) (passed + 1) (found + cond (has_data zeros (next_pair origs copies passed)) 1 0)
pass_one origs copies zeros orig copy passed found pair h lt =
    let equal = pair.equal in
    let below = h.origs_below in
    let copies_below = h.copies_below in
    let pairs = zip origs copies in
    let size = length-zip origs copies in
    record {
      within = omega arith;
      origs_below = ap (λ (k : ℕ). count_below origs (get_or origs k 0 + 1)) (sym below) ∙ count_below-next origs orig pair.up (omega arith) ∙ ap (λ (k : ℕ). k + 1) below;
      copies_below = ap (λ (k : ℕ). count_below copies (get_or copies k 0 + 1)) (sym copies_below) ∙ count_below-next copies copy pair.copies_up (omega arith) ∙ ap (λ (k : ℕ). k + 1) copies_below;
      counted =
          length-filter_more (has_data zeros) pairs passed (0, 0) (omega arith)
          ∙ ap₂ (λ (n : ℕ) (p : ℕ × ℕ). n + cond (has_data zeros p) 1 0) h.counted (get_or-zip origs copies passed (0, 0) lt (omega arith));
    }

-- a pair that passes a test stands in the filtered list after those of the pairs before it
filtered_at : (test : ℕ × ℕ → Bool) (pairs : List (ℕ × ℕ)) (i : ℕ) → i < length pairs → test (get_or pairs i (0, 0)) ≡ true → get_or (filter test pairs) (length (filter test (take i pairs))) (0, 0) ≡ get_or pairs i (0, 0)
filtered_at test [] i lt passes = absurd (omega arith)
filtered_at test (p ∷ pairs) zero lt passes = ap (λ (xs : List (ℕ × ℕ)). get_or xs 0 (0, 0)) (cond-true (test p) (p ∷ filter test pairs) (filter test pairs) passes)
filtered_at test (p ∷ pairs) (suc i) lt passes = elim (cases_Bool (test p)) [
  | inl e ↦
      ap₂ (λ (xs ys : List (ℕ × ℕ)). get_or xs (length ys) (0, 0)) (cond-true (test p) (p ∷ filter test pairs) (filter test pairs) e) (cond-true (test p) (p ∷ filter test (take i pairs)) (filter test (take i pairs)) e)
      ∙ filtered_at test pairs i (omega arith) passes
  | inr e ↦
      ap₂ (λ (xs ys : List (ℕ × ℕ)). get_or xs (length ys) (0, 0)) (cond-false (test p) (p ∷ filter test pairs) (filter test pairs) e) (cond-false (test p) (p ∷ filter test (take i pairs)) (filter test (take i pairs)) e)
      ∙ filtered_at test pairs i (omega arith) passes
]

pub found_next : (origs copies zeros : List ℕ) (orig copy passed found : ℕ) → ArePaired origs copies → IsPassed origs copies zeros orig copy passed found → passed < length origs →
    has_data zeros (next_pair origs copies passed) ≡ true → get_or (with_data origs copies zeros) found (0, 0) ≡ next_pair origs copies passed
found_next origs copies zeros orig copy passed found pair h lt passes =
    let equal = pair.equal in
    let size = length-zip origs copies in
    let here = get_or-zip origs copies passed (0, 0) lt (omega arith) in
    ap (λ (n : ℕ). get_or (with_data origs copies zeros) n (0, 0)) (sym h.counted)
    ∙ filtered_at (has_data zeros) (zip origs copies) passed (omega arith) (ap (has_data zeros) here ∙ passes)
    ∙ here
