-- Laws of the page frame numbers of zones.
use Rattle.std.proofs.Common.{◌≡◌, ℕ, ◌+◌, ◌-◌, ◌<◌, ◌≤◌, zero, suc, List, [], ◌∷◌, ◌++◌, length, get_or, take, drop, refl, sym, ap, ◌∙◌, subst, inl, inr, arith, append_assoc, add-one, length-append}
use Rattle.std.proofs.lemmas.Bool.{cases_eq, cases_lt}
use Rattle.std.proofs.lemmas.List.{append-nil, get_or-take, length-take-le, take-append-drop, take_more}
use Rattle.std.proofs.lemmas.List.Elements.{Contains-append_left, Contains-append_right, Contains-append_cases}
use Rattle.std.proofs.lemmas.List.FromFn.{length-range_with_len, get_or-range_with_len}
use Rattle.std.specs.List.{All, Contains, range_with_len}
use Rattle.std.specs.List.Sorted.{IsStrictlyIncreasing}
use Rattle.definitions.specs.Zones.{numbers, zone_end, zone_at, top}
use Rattle.definitions.specs.ZoneFacts.{IsZone, AreApart, AreZones, InZone}
use Rattle.definitions.proofs.Ascending.{IsStrictlyIncreasing-append, length-between}

-- A run of numbers.

pub Contains-range : (a n p : ℕ) → a ≤ p → p < a + n → Contains (range_with_len a n) p
Contains-range a n p le lt =
    let len = length-range_with_len a n in
    (p - a, omega arith, get_or-range_with_len a n (p - a) p (omega arith) ∙ omega arith)

pub range-bounds : (a n p : ℕ) → Contains (range_with_len a n) p → (a ≤ p) × (p < a + n)
range-bounds a n p (k, l, e) =
    let len = length-range_with_len a n in
    let is = get_or-range_with_len a n k p (omega arith) in
    (omega arith, omega arith)

pub IsStrictlyIncreasing-range : (a n : ℕ) → IsStrictlyIncreasing (range_with_len a n)
IsStrictlyIncreasing-range a n k l =
    let len = length-range_with_len a n in
    let this = get_or-range_with_len a n k 0 (omega arith) in
    let next = get_or-range_with_len a n (k + 1) 0 (omega arith) in
    omega arith

-- The zone of a number.

zone_apart_from_next : (zones : List (ℕ × ℕ)) → AreApart zones → (j : ℕ) → suc j < length zones → zone_end (zone_at zones j) ≤ (zone_at zones (suc j)).0
zone_apart_from_next zones apart j l =
    subst (λ (k : ℕ). zone_end (zone_at zones j) ≤ (zone_at zones k).0) (add-one j) (apart j (0, 0) (omega arith))

-- zone i lies below zone j
pub zones_apart : (zones : List (ℕ × ℕ)) → AreApart zones → (i j : ℕ) → i < j → j < length zones → zone_end (zone_at zones i) ≤ (zone_at zones j).0
zones_apart zones apart i zero lt l = absurd (omega arith)
zones_apart zones apart i (suc j) lt l =
    let this = zone_apart_from_next zones apart j l in
    elim (cases_lt i j) [
      | inl below ↦ let before = zones_apart zones apart i j below (omega arith) in omega arith
      | inr ge ↦
          let same : j ≡ i = omega arith in
          subst (λ (k : ℕ). zone_end (zone_at zones k) ≤ (zone_at zones (suc j)).0) same this
    ]

pub AreApart-tail : (z : ℕ × ℕ) (zs : List (ℕ × ℕ)) → AreApart (z ∷ zs) → AreApart zs
AreApart-tail z zs apart k d l =
    let more : suc k + 1 ≡ suc (k + 1) = omega arith in
    subst (λ (j : ℕ). zone_end (get_or zs k d) ≤ (get_or (z ∷ zs) j d).0) more (apart (suc k) d (omega arith))

pub Contains-numbers : (zones : List (ℕ × ℕ)) (j p : ℕ) → j < length zones → (zone_at zones j).0 ≤ p → p < zone_end (zone_at zones j) → Contains (numbers zones) p
Contains-numbers [] j p l le lt = absurd (omega arith)
Contains-numbers (z ∷ zs) zero p l le lt = Contains-append_left (range_with_len z.0 z.1) (numbers zs) p (Contains-range z.0 z.1 p le lt)
Contains-numbers (z ∷ zs) (suc j) p l le lt = Contains-append_right (range_with_len z.0 z.1) (numbers zs) p (Contains-numbers zs j p (omega arith) le lt)

pub zone_of : (zones : List (ℕ × ℕ)) (p : ℕ) → Contains (numbers zones) p → (j : ℕ) × InZone zones p j
zone_of [] p in' = absurd (let l = in'.1 in omega arith)
zone_of (z ∷ zs) p in' = elim (Contains-append_cases (range_with_len z.0 z.1) (numbers zs) p in') [
  | inl h ↦ let b = range-bounds z.0 z.1 p h in (0, record { within = omega arith; from = b.0; below = b.1 })
  | inr h ↦ let at = zone_of zs p h in (suc at.0, record { within = let w = at.1.within in omega arith; from = at.1.from; below = at.1.below })
]

-- The numbers as a list.

pub numbers-append : (xs ys : List (ℕ × ℕ)) → numbers (xs ++ ys) ≡ numbers xs ++ numbers ys
numbers-append [] ys = refl
numbers-append (z ∷ zs) ys =
    ap (λ t. range_with_len z.0 z.1 ++ t) (numbers-append zs ys) ∙ sym (append_assoc (range_with_len z.0 z.1) (numbers zs) (numbers ys))

-- the numbers of one zone more
pub numbers-take_more : (zones : List (ℕ × ℕ)) (j : ℕ) → j < length zones → numbers (take (j + 1) zones) ≡ numbers (take j zones) ++ range_with_len (zone_at zones j).0 (zone_at zones j).1
numbers-take_more zones j l =
    let zone = zone_at zones j in
    ap numbers (take_more zones j (0, 0) l)
    ∙ numbers-append (take j zones) (zone ∷ [])
    ∙ ap (λ t. numbers (take j zones) ++ t) (append-nil (range_with_len zone.0 zone.1))

pub IsStrictlyIncreasing-numbers : (zones : List (ℕ × ℕ)) → AreApart zones → IsStrictlyIncreasing (numbers zones)
IsStrictlyIncreasing-numbers [] apart = λ k l. absurd (omega arith)
IsStrictlyIncreasing-numbers (z ∷ zs) apart =
    IsStrictlyIncreasing-append (range_with_len z.0 z.1) (numbers zs)
    (IsStrictlyIncreasing-range z.0 z.1)
    (IsStrictlyIncreasing-numbers zs (AreApart-tail z zs apart))
    (λ x y x_in y_in.
    let low = range-bounds z.0 z.1 x x_in in
    let at = zone_of zs y y_in in
    let w = at.1.within in
    let f = at.1.from in
    let over = zones_apart (z ∷ zs) apart 0 (suc at.0) (omega arith) (omega arith) in
    omega arith)

-- The highest number.

pub below_top : (zones : List (ℕ × ℕ)) (p : ℕ) → AreApart zones → Contains (numbers zones) p → p < top zones
below_top zones p apart in' =
    let at = zone_of zones p in' in
    let j = at.0 in
    let last = length zones - 1 in
    let w : j < length zones = at.1.within in
    let b : p < zone_end (zone_at zones j) = at.1.below in
    elim (cases_lt j last) [
      | inl lt ↦ let over = zones_apart zones apart j last lt (omega arith) in omega arith
      | inr ge ↦
          let same : j ≡ last = omega arith in
          subst (λ (k : ℕ). p < zone_end (zone_at zones k)) same b
    ]

pub top_at_most : (zones : List (ℕ × ℕ)) → AreZones zones → top zones ≤ 65536
top_at_most zones h =
    let some = h.some in
    (h.each (length zones - 1) (0, 0) (omega arith)).1

-- the number below the top is valid
pub top_is_next : (zones : List (ℕ × ℕ)) → AreZones zones → Contains (numbers zones) (top zones - 1)
top_is_next zones h =
    let some = h.some in
    let last = length zones - 1 in
    let zone = h.each last (0, 0) (omega arith) in
    let has = zone.0 in
    Contains-numbers zones last (top zones - 1) (omega arith) (omega arith) (omega arith)

pub count_at_most : (zones : List (ℕ × ℕ)) → AreZones zones → length (numbers zones) ≤ top zones
count_at_most zones h =
    let few = length-between (numbers zones) 0 (top zones) (IsStrictlyIncreasing-numbers zones h.apart)
    (λ p in'. (omega arith, below_top zones p h.apart in')) (omega arith) in
    omega arith

-- The numbers of the first zones.

pub length-numbers_more : (zones : List (ℕ × ℕ)) (j : ℕ) → j < length zones → length (numbers (take (j + 1) zones)) ≡ length (numbers (take j zones)) + (zone_at zones j).1
length-numbers_more zones j l =
    let zone = zone_at zones j in
    let run = length-range_with_len zone.0 zone.1 in
    ap length (numbers-take_more zones j l) ∙ length-append (numbers (take j zones)) (range_with_len zone.0 zone.1)
    ∙ ap (λ n. length (numbers (take j zones)) + n) run

pub length-numbers_front : (zones : List (ℕ × ℕ)) (j : ℕ) → AreZones zones → length (numbers (take j zones)) ≤ 65536
length-numbers_front zones j h =
    let whole = ap numbers (take-append-drop j zones) in
    let parts = sym (ap length (numbers-append (take j zones) (drop j zones))) ∙ ap length whole in
    let sum = length-append (numbers (take j zones)) (numbers (drop j zones)) in
    let all = count_at_most zones h in
    let high = top_at_most zones h in
    omega arith

-- The zones before a zone, and the top above each.

pub numbers-take_below : (zones : List (ℕ × ℕ)) (j p : ℕ) → AreApart zones → j < length zones → Contains (numbers (take j zones)) p → p < (zone_at zones j).0
numbers-take_below zones j p apart l in' =
    let at = zone_of (take j zones) p in' in
    let within = at.1.within in
    let len = length-take-le j zones (omega arith) in
    let lower : at.0 < j = omega arith in
    let below : p < zone_end (zone_at zones at.0) = subst (λ (z : ℕ × ℕ). p < zone_end z) (get_or-take j zones at.0 (0, 0) lower) at.1.below in
    let over = zones_apart zones apart at.0 j lower l in
    omega arith

pub zone_end_at_most_top : (zones : List (ℕ × ℕ)) (j : ℕ) → AreApart zones → j < length zones → zone_end (zone_at zones j) ≤ top zones
zone_end_at_most_top zones j apart l =
    elim (cases_eq j (length zones - 1)) [
      | inl e ↦ let same = ap (λ i. zone_end (zone_at zones i)) e in omega arith
      | inr ne ↦ let over = zones_apart zones apart j (length zones - 1) (omega arith) (omega arith) in omega arith
    ]
