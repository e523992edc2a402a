-- What is dropped of a list, one element or one zone more.
use Rattle.std.proofs.Common.{◌≡◌, ◌≢◌, ℕ, zero, suc, ◌+◌, ◌-◌, ◌<◌, ◌≤◌, Bool, true, false, List, [], ◌∷◌, ◌++◌, length, length-take, filter, take, drop, subst, Contains, All, refl, sym, ap, ap₂, ◌∙◌, inl, inr, arith, cond, eqb, not, ◌&&◌}
use Rattle.std.specs.List.{range_with_len}
use Rattle.std.proofs.lemmas.Bool.{cases_lt, cases_Bool, both_ways}
use Rattle.std.proofs.lemmas.List.{append-nil, take_all, take-append-le, take-append-drop}
use Rattle.std.proofs.lemmas.List.Elements.{Contains-append_left}
use Rattle.std.proofs.Math.Seq.{take-append-add}
use Rattle.definitions.specs.Bytes.{IsPage}
use Rattle.definitions.specs.Tables.{saveable_frames}
use Rattle.definitions.specs.Tables.{HasTable, page_flags, with_entry, with_entries}
use Rattle.definitions.proofs.Ascending.{Contains-head, Contains-tail}
use Rattle.definitions.proofs.FrameSets.{Contains-from_filter}
use Rattle.definitions.specs.Zones.{numbers, top}
use Rattle.definitions.proofs.Picks.{picks_one, picks_none}
use Rattle.definitions.proofs.TableEntries.{entry_at-with_entries_other}
use Rattle.definitions.proofs.ZoneNumbers.{range-bounds, zone_end_at_most_top}
use Rattle.definitions.proofs.ZoneWalk.{IsAtZone, below_zone, filter_one_zone_more}
use Rattle.definitions.proofs.ZoneLists.{Contains-saveable_frames, Contains-from_saveable_frames}
use Rattle.frame_table.specs.Tests.{saveable_by_entry}
use Rattle.frame_table.specs.Drop.{may_drop, is_in_runs}

pub with_entries-append : (frames : List (List ℕ)) (table : ℕ) (xs ys : List ℕ) (v : ℕ) → with_entries frames table (xs ++ ys) v ≡ with_entries (with_entries frames table xs v) table ys v
unfolding with_entries
with_entries-append frames table [] ys v = refl
with_entries-append frames table (x ∷ xs) ys v = with_entries-append (with_entry frames table x v) table xs ys v

-- the first n of two lists: those of the first, and as many as are missing of the second
pub take_both : (n : ℕ) (xs ys : List ℕ) → take n (xs ++ ys) ≡ take n xs ++ take (n - length (take n xs)) ys
take_both n xs ys = elim (cases_lt n (length xs)) [
  | inl lt ↦
      let full = length-take n xs in
      let none : n - length (take n xs) ≡ 0 = omega arith in
      take-append-le n xs ys (omega arith) ∙ sym (append-nil (take n xs)) ∙ ap (λ (k : ℕ). take n xs ++ take k ys) (sym none)
  | inr ge ↦
      let all = take_all n xs ge in
      let count : length xs + (n - length xs) ≡ n = omega arith in
      ap (λ (k : ℕ). take k (xs ++ ys)) (sym count) ∙ take-append-add xs ys (n - length xs)
      ∙ ap (λ (zs : List ℕ). zs ++ take (n - length zs) ys) (sym all)
]

filter_cons : (p q : ℕ → Bool) (x : ℕ) (xs : List ℕ) (b : Bool) → p x ≡ b → q x ≡ b → filter p xs ≡ filter q xs → filter p (x ∷ xs) ≡ filter q (x ∷ xs)
filter_cons p q x xs b is is' rest = ap₂ (λ (c : Bool) (ys : List ℕ). cond c (x ∷ ys) ys) (is ∙ sym is') rest

-- two tests that agree on a list pick the same elements
pub filter_agrees : (p q : ℕ → Bool) (xs : List ℕ) → ((x : ℕ) → Contains xs x → p x ≡ q x) → filter p xs ≡ filter q xs
filter_agrees p q [] agree = refl
filter_agrees p q (x ∷ xs) agree = filter_cons p q x xs (q x) (agree x (Contains-head x xs)) refl (filter_agrees p q xs (λ y in'. agree y (Contains-tail x xs y in')))

-- what is dropped of the page frames of this list
abbrev pub dropped_of : List (ℕ × ℕ) → ℕ → List (List ℕ) → ℕ → List ℕ → List ℕ
dropped_of keep table old most ps = take most (filter (may_drop keep table old) ps)

pub Contains-from_take : (n : ℕ) (xs : List ℕ) (x : ℕ) → Contains (take n xs) x → Contains xs x
Contains-from_take n xs x in' = subst (λ (ys : List ℕ). Contains ys x) (take-append-drop n xs) (Contains-append_left (take n xs) (drop n xs) x in')

in_dropped : (keep : List (ℕ × ℕ)) (table : ℕ) (old : List (List ℕ)) (most : ℕ) (ps : List ℕ) (k : ℕ) → Contains (dropped_of keep table old most ps) k → Contains ps k
in_dropped keep table old most ps k in' = (Contains-from_filter (may_drop keep table old) ps k (Contains-from_take most (filter (may_drop keep table old) ps) k in')).0

-- whether a page frame may be dropped doesn't change as others are
pub still_may_drop : (keep : List (ℕ × ℕ)) (table n : ℕ) (old : List (List ℕ)) (most : ℕ) (ps : List ℕ) (p : ℕ) → All IsPage old → HasTable old table n → ((k : ℕ) → Contains ps k → (k < n) × (k ≢ p)) →
    may_drop keep table (with_entries old table (dropped_of keep table old most ps) 1) p ≡ may_drop keep table old p
still_may_drop keep table n old most ps p pages has others =
    ap (λ (e : ℕ). eqb (page_flags e) 64 && not (is_in_runs keep p))
    (entry_at-with_entries_other old table n (dropped_of keep table old most ps) 1 p pages has (λ k in'. others k (in_dropped keep table old most ps k in')))

-- Page frames so far, and then one more.
pub dropped_one : (most : ℕ) (xs ys : List ℕ) (p : ℕ) → ys ≡ xs ++ p ∷ [] → length (take most xs) < most → take most ys ≡ take most xs ++ p ∷ []
dropped_one most xs ys p is room =
    ap (take most) is ∙ take_both most xs (p ∷ []) ∙ ap (λ (zs : List ℕ). take most xs ++ zs) (some (most - length (take most xs)) (omega arith)) where
      some : (n : ℕ) → 0 < n → take n (p ∷ []) ≡ p ∷ []
      some zero lt = absurd (omega arith)
      some (suc n) lt = take_all (suc n) (p ∷ []) (omega arith)

pub dropped_full : (most : ℕ) (xs ys zs : List ℕ) → ys ≡ xs ++ zs → most ≤ length (take most xs) → take most ys ≡ take most xs
dropped_full most xs ys zs is full =
    let none : most - length (take most xs) ≡ 0 = omega arith in
    ap (take most) is ∙ take_both most xs zs ∙ ap (λ (n : ℕ). take most xs ++ take n zs) none ∙ append-nil (take most xs)

-- one of a zone's page frames so far lies below the next
pub in_front : (start p k : ℕ) → start ≤ p → Contains (range_with_len start (p - start)) k → k < p
in_front start p k le in' = let bounds = range-bounds start (p - start) k in' in let high = bounds.1 in omega arith

-- Page frames of a zone so far, and what is dropped of them with one more.
pub dropped_next : (keep : List (ℕ × ℕ)) (table : ℕ) (old : List (List ℕ)) (most start p : ℕ) → start ≤ p → may_drop keep table old p ≡ true → length (dropped_of keep table old most (range_with_len start (p - start))) < most →
    dropped_of keep table old most (range_with_len start (p + 1 - start)) ≡ dropped_of keep table old most (range_with_len start (p - start)) ++ p ∷ []
dropped_next keep table old most start p le pass room =
    let test = may_drop keep table old in
    dropped_one most (filter test (range_with_len start (p - start))) (filter test (range_with_len start (p + 1 - start))) p (picks_one test start p le pass) room

pub dropped_fail : (keep : List (ℕ × ℕ)) (table : ℕ) (old : List (List ℕ)) (most start p : ℕ) → start ≤ p → may_drop keep table old p ≡ false → dropped_of keep table old most (range_with_len start (p + 1 - start)) ≡ dropped_of keep table old most (range_with_len start (p - start))
dropped_fail keep table old most start p le fail = ap (take most) (picks_none (may_drop keep table old) start p le fail)

pub dropped_enough : (keep : List (ℕ × ℕ)) (table : ℕ) (old : List (List ℕ)) (most start p : ℕ) → start ≤ p → most ≤ length (dropped_of keep table old most (range_with_len start (p - start))) → dropped_of keep table old most (range_with_len start (p + 1 - start)) ≡ dropped_of keep table old most (range_with_len start (p - start))
dropped_enough keep table old most start p le full =
    let test = may_drop keep table old in
    elim (cases_Bool (test p)) [
      | inl pass ↦ dropped_full most (filter test (range_with_len start (p - start))) (filter test (range_with_len start (p + 1 - start))) (p ∷ []) (picks_one test start p le pass) full
      | inr fail ↦ dropped_fail keep table old most start p le fail
    ]

-- The zones so far, and one more: as many of its page frames are dropped as are left to drop.
pub dropped_zone : (keep : List (ℕ × ℕ)) (table : ℕ) (old : List (List ℕ)) (most : ℕ) (zones : List (ℕ × ℕ)) (j : ℕ) (zone : ℕ × ℕ) → IsAtZone zones j zone → All IsPage old → HasTable old table (top zones) →
    let before = dropped_of keep table old most (numbers (take j zones)) in
    let now = with_entries old table before 1 in
    dropped_of keep table old most (numbers (take (j + 1) zones)) ≡ before ++ take (most - length before) (filter (may_drop keep table now) (range_with_len zone.0 zone.1))
dropped_zone keep table old most zones j zone at pages has =
    let test = may_drop keep table old in
    let before = dropped_of keep table old most (numbers (take j zones)) in
    let now = with_entries old table before 1 in
    let low = at.below_top in
    let agrees : (p : ℕ) → Contains (range_with_len zone.0 zone.1) p → test p ≡ may_drop keep table now p = λ p in'.
    let bounds = range-bounds zone.0 zone.1 p in' in
    let above = bounds.0 in
    sym (still_may_drop keep table (top zones) old most (numbers (take j zones)) p pages has
    (λ k in_k. let below = below_zone zones j zone k at in_k in let top_is = zone_end_at_most_top zones j at.zones_are.apart at.within in (omega arith, λ e. absurd (omega arith)))) in
    ap (take most) (filter_one_zone_more test zones j zone at)
    ∙ take_both most (filter test (numbers (take j zones))) (filter test (range_with_len zone.0 zone.1))
    ∙ ap (λ (ps : List ℕ). before ++ take (most - length before) ps) (filter_agrees test (may_drop keep table now) (range_with_len zone.0 zone.1) agrees)

-- of no page frame nothing is dropped
pub range_none : (keep : List (ℕ × ℕ)) (table : ℕ) (old : List (List ℕ)) (most start : ℕ) → dropped_of keep table old most (range_with_len start (start - start)) ≡ []
range_none keep table old most start =
    let zero_len : start - start ≡ 0 = omega arith in
    ap (λ (n : ℕ). dropped_of keep table old most (range_with_len start n)) zero_len ∙ take_all most [] (omega arith)

-- A page frame is saveable if and only if its entry says so.
pub saveable-true : (zones : List (ℕ × ℕ)) (table : ℕ) (frames : List (List ℕ)) (p : ℕ) → Contains (saveable_frames zones table frames) p → saveable_by_entry table frames p ≡ true
saveable-true zones table frames p in' = (Contains-from_saveable_frames zones table frames p in').1

pub saveable-false : (zones : List (ℕ × ℕ)) (table : ℕ) (frames : List (List ℕ)) (p : ℕ) → Contains (numbers zones) p → (b : Bool) → (Contains (saveable_frames zones table frames) p → b ≡ true) → b ≡ false → saveable_by_entry table frames p ≡ false
saveable-false zones table frames p in' b told isn't = elim (cases_Bool (saveable_by_entry table frames p)) [
  | inl is ↦ absurd (both_ways b isn't (told (Contains-saveable_frames zones table frames p in' is)))
  | inr not' ↦ not'
]
