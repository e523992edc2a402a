-- The tests of zones, where each is one and lies above the one before.
use Rattle.std.proofs.Common.{◌≡◌, ℕ, ◌+◌, ◌-◌, ◌<◌, ◌≤◌, ◌⊎◌, Bool, true, false, eqb, leb, ltb, ◌&&◌, ◌||◌, List, length, refl, subst, inl, inr, arith}
use Rattle.std.proofs.lemmas.Bool.{and_from, cases_eq, le-leb, lt-ltb, eq-eqb}
use Rattle.std.proofs.lemmas.Bool.Decides.{leb_tells}
use Rattle.definitions.specs.Zones.{zone_at, zone_end}
use Rattle.definitions.specs.ZoneFacts.{IsZone, LiesBelow, AreZones}
use Rattle.machine.specs.HardFault.{is_zone}

pub not_most : (a b : ℕ) → b < a → leb a b ≡ false
not_most a b h = elim (leb_tells a b) [ inl there ↦ absurd (let most = there.1 in omega (arith, most, h)) | inr few ↦ few.0 ]

or_true : (x y : Bool) → (x ≡ true) ⊎ (y ≡ true) → (x || y) ≡ true
or_true true y h = refl
or_true false y (inl e) = absurd (let no : false ≡ true = e in grind (arith, no))
or_true false y (inr e) = e

is_one : (zones : List (ℕ × ℕ)) (j : ℕ) → IsZone (zone_at zones j) → (j ≡ 0) ⊎ (zone_end (zone_at zones (j - 1)) ≤ (zone_at zones j).0) → is_zone zones j ≡ true
is_one zones j z apart =
    let e = zone_at zones j in
    and_from (ltb 0 e.1 && leb (zone_end e) 65536) (eqb j 0 || leb (zone_end (zone_at zones (j - 1))) e.0)
    (and_from (ltb 0 e.1) (leb (zone_end e) 65536) (lt-ltb 0 e.1 z.0) (le-leb (zone_end e) 65536 z.1))
    (or_true (eqb j 0) (leb (zone_end (zone_at zones (j - 1))) e.0)
    (elim apart [ inl first ↦ inl (eq-eqb j 0 first) | inr above ↦ inr (le-leb (zone_end (zone_at zones (j - 1))) e.0 above) ]))

apart_at : (zones : List (ℕ × ℕ)) (n j : ℕ) → ((k : ℕ) → k + 1 < n → LiesBelow (zone_at zones k) (zone_at zones (k + 1))) → j < n → (j ≡ 0) ⊎ (zone_end (zone_at zones (j - 1)) ≤ (zone_at zones j).0)
apart_at zones n j h lt = elim (cases_eq j 0) [
  | inl first ↦ inl first
  | inr later ↦
      let same : j - 1 + 1 ≡ j = omega (arith, later) in
      inr (subst (λ (k : ℕ). zone_end (zone_at zones (j - 1)) ≤ (zone_at zones k).0) same (h (j - 1) (omega (arith, later, lt))))
]

-- zones are each in order
pub each_is_one : (zones : List (ℕ × ℕ)) → AreZones zones → (j : ℕ) → j < length zones → is_zone zones j ≡ true
each_is_one zones h j lt =
    is_one zones j (h.each j (0, 0) lt) (apart_at zones (length zones) j (λ k k_lt. h.apart k (0, 0) k_lt) lt)
