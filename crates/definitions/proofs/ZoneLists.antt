-- Laws of lists of page frames that a test picks, zone by zone, and of the saveable and the free page frames.
use Rattle.std.proofs.Common.{◌≡◌, ℕ, ◌+◌, ◌-◌, ◌<◌, ◌≤◌, suc, zero, List, [], ◌∷◌, ◌++◌, length, take, filter, refl, sym, ap, ap₂, ◌∙◌, arith, Bool, true, false, cond, eqb}
use Rattle.std.proofs.lemmas.Bool.{cases_Bool, eqb-true, eq-eqb}
use Rattle.std.proofs.lemmas.List.{append-nil}
use Rattle.std.proofs.lemmas.List.Elements.{filter-append}
use Rattle.std.proofs.lemmas.List.Kept.{IsStrictlyIncreasing-filter}
use Rattle.std.specs.List.{Contains, range_with_len}
use Rattle.std.specs.List.Sorted.{IsStrictlyIncreasing}
use Rattle.definitions.specs.Zones.{numbers, zone_at}
use Rattle.definitions.specs.ZoneFacts.{AreApart}
use Rattle.definitions.specs.Tables.{entry_at, page_flags, is_saveable}
use Rattle.definitions.specs.Tables.{saveable_frames, free_frames}
use Rattle.definitions.proofs.FrameSets.{Contains-filter, Contains-from_filter}
use Rattle.definitions.proofs.ZoneNumbers.{numbers-take_more, IsStrictlyIncreasing-numbers}

-- A test over a run of numbers, and over the numbers of the first zones.

range-more : (a n : ℕ) → range_with_len a (n + 1) ≡ range_with_len a n ++ (a + n) ∷ []
range-more a zero = let same : a ≡ a + 0 = omega arith in ap (λ x. x ∷ []) same
range-more a (suc n) =
    let more : suc n + 1 ≡ suc (n + 1) = omega arith in
    let last : a + 1 + n ≡ a + suc n = omega arith in
    ap (range_with_len a) more ∙ ap (λ t. a ∷ t) (range-more (a + 1) n)
    ∙ ap (λ x. a ∷ (range_with_len (a + 1) n ++ x ∷ [])) last

-- one number more
pub filter-range_more : (test : ℕ → Bool) (a n : ℕ) → filter test (range_with_len a (n + 1)) ≡ filter test (range_with_len a n) ++ cond (test (a + n)) ((a + n) ∷ []) []
filter-range_more test a n =
    ap (filter test) (range-more a n) ∙ filter-append test (range_with_len a n) ((a + n) ∷ [])

-- one zone more
pub filter-numbers_more : (test : ℕ → Bool) (zones : List (ℕ × ℕ)) (j : ℕ) → j < length zones → filter test (numbers (take (j + 1) zones)) ≡ filter test (numbers (take j zones)) ++ filter test (range_with_len (zone_at zones j).0 (zone_at zones j).1)
filter-numbers_more test zones j l =
    ap (filter test) (numbers-take_more zones j l)
    ∙ filter-append test (numbers (take j zones)) (range_with_len (zone_at zones j).0 (zone_at zones j).1)

-- The saveable page frames.

pub IsStrictlyIncreasing-saveable_frames : (zones : List (ℕ × ℕ)) (table : ℕ) (frames : List (List ℕ)) → AreApart zones → IsStrictlyIncreasing (saveable_frames zones table frames)
unfolding saveable_frames
IsStrictlyIncreasing-saveable_frames zones table frames apart =
    IsStrictlyIncreasing-filter (λ p. is_saveable (page_flags (entry_at frames table p))) (numbers zones) (IsStrictlyIncreasing-numbers zones apart)

pub Contains-saveable_frames : (zones : List (ℕ × ℕ)) (table : ℕ) (frames : List (List ℕ)) (p : ℕ) → Contains (numbers zones) p → is_saveable (page_flags (entry_at frames table p)) ≡ true → Contains (saveable_frames zones table frames) p
unfolding saveable_frames
Contains-saveable_frames zones table frames p in' is =
    Contains-filter (λ q. is_saveable (page_flags (entry_at frames table q))) (numbers zones) p in' is

pub Contains-from_saveable_frames : (zones : List (ℕ × ℕ)) (table : ℕ) (frames : List (List ℕ)) (p : ℕ) → Contains (saveable_frames zones table frames) p → Contains (numbers zones) p × (is_saveable (page_flags (entry_at frames table p)) ≡ true)
unfolding saveable_frames
Contains-from_saveable_frames zones table frames p in' =
    Contains-from_filter (λ q. is_saveable (page_flags (entry_at frames table q))) (numbers zones) p in'

-- The free page frames.

pub IsStrictlyIncreasing-free_frames : (zones : List (ℕ × ℕ)) (table : ℕ) (frames : List (List ℕ)) → AreApart zones → IsStrictlyIncreasing (free_frames zones table frames)
unfolding free_frames
IsStrictlyIncreasing-free_frames zones table frames apart =
    IsStrictlyIncreasing-filter (λ p. eqb (entry_at frames table p) 1) (numbers zones) (IsStrictlyIncreasing-numbers zones apart)

pub Contains-free_frames : (zones : List (ℕ × ℕ)) (table : ℕ) (frames : List (List ℕ)) (p : ℕ) → Contains (numbers zones) p → entry_at frames table p ≡ 1 → Contains (free_frames zones table frames) p
unfolding free_frames
Contains-free_frames zones table frames p in' is =
    Contains-filter (λ q. eqb (entry_at frames table q) 1) (numbers zones) p in' (eq-eqb (entry_at frames table p) 1 is)

pub Contains-from_free_frames : (zones : List (ℕ × ℕ)) (table : ℕ) (frames : List (List ℕ)) (p : ℕ) → Contains (free_frames zones table frames) p → Contains (numbers zones) p × (entry_at frames table p ≡ 1)
unfolding free_frames
Contains-from_free_frames zones table frames p in' =
    let kept = Contains-from_filter (λ q. eqb (entry_at frames table q) 1) (numbers zones) p in' in
    (kept.0, eqb-true (entry_at frames table p) 1 kept.1)
