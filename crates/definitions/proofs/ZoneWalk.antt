-- A walk over zones in their order.
use Rattle.std.proofs.Common.{◌≡◌, ℕ, ◌+◌, ◌<◌, ◌≤◌, List, length, length-append, take, filter, Bool, sym, ap, ◌∙◌, ◌++◌, subst, arith}
use Rattle.std.proofs.lemmas.List.{take_all}
use Rattle.std.proofs.lemmas.List.Sums.{count_by-le-length, length-filter}
use Rattle.std.specs.List.{Contains, range_with_len}
use Rattle.definitions.specs.Zones.{numbers, top, zone_at, zone_end}
use Rattle.definitions.specs.ZoneFacts.{IsZone, AreZones}
use Rattle.definitions.proofs.ZoneNumbers.{Contains-numbers, length-numbers_front, numbers-take_below, zone_end_at_most_top}
use Rattle.definitions.proofs.ZoneLists.{filter-numbers_more}

-- the zone that the walk is at
pub record IsAtZone (zones : List (ℕ × ℕ)) (j : ℕ) (zone : ℕ × ℕ) : Type 0 where
  pub zones_are : AreZones zones
  pub within : j < length zones
  pub zone_is : zone_at zones j ≡ zone
  pub is_zone : IsZone zone
  pub below_top : zone_end zone ≤ top zones

-- the walk goes over the pairs of the zones
pub at_zone : (zones pairs : List (ℕ × ℕ)) (j : ℕ) → pairs ≡ zones → AreZones zones → j < length pairs → IsAtZone zones j (zone_at pairs j)
at_zone zones pairs j same h lt =
    let within : j < length zones = omega (arith, lt, ap length same) in
    let is : zone_at zones j ≡ zone_at pairs j = ap (λ (zs : List (ℕ × ℕ)). zone_at zs j) (sym same) in
    record {
      zones_are = h;
      within = within;
      zone_is = is;
      is_zone = subst IsZone is (h.each j (0, 0) within);
      below_top = subst (λ (z : ℕ × ℕ). zone_end z ≤ top zones) is (zone_end_at_most_top zones j h.apart within);
    }

-- the page frames of the zone are valid, and those of the zones before it lie below
pub valid_in_zone : (zones : List (ℕ × ℕ)) (j : ℕ) (zone : ℕ × ℕ) (p : ℕ) → IsAtZone zones j zone → zone.0 ≤ p → p < zone_end zone → Contains (numbers zones) p
valid_in_zone zones j zone p h le lt =
    Contains-numbers zones j p h.within
    (subst (λ (z : ℕ × ℕ). z.0 ≤ p) (sym h.zone_is) le)
    (subst (λ (z : ℕ × ℕ). p < zone_end z) (sym h.zone_is) lt)

pub below_zone : (zones : List (ℕ × ℕ)) (j : ℕ) (zone : ℕ × ℕ) (p : ℕ) → IsAtZone zones j zone → Contains (numbers (take j zones)) p → p < zone.0
below_zone zones j zone p h in' =
    subst (λ (z : ℕ × ℕ). p < z.0) h.zone_is (numbers-take_below zones j p h.zones_are.apart h.within in')

-- the walk has ended
pub all_zones : (zones pairs : List (ℕ × ℕ)) (j : ℕ) → pairs ≡ zones → length pairs ≤ j → take j zones ≡ zones
all_zones zones pairs j same over = take_all j zones (omega (arith, over, ap length same))

-- what a test picks of one zone more, and of all zones
pub filter_one_zone_more : (test : ℕ → Bool) (zones : List (ℕ × ℕ)) (j : ℕ) (zone : ℕ × ℕ) → IsAtZone zones j zone → filter test (numbers (take (j + 1) zones)) ≡ filter test (numbers (take j zones)) ++ filter test (range_with_len zone.0 zone.1)
filter_one_zone_more test zones j zone h =
    filter-numbers_more test zones j h.within
    ∙ ap (λ (z : ℕ × ℕ). filter test (numbers (take j zones)) ++ filter test (range_with_len z.0 z.1)) h.zone_is

pub filter_all_zones : (test : ℕ → Bool) (zones pairs : List (ℕ × ℕ)) (j : ℕ) → pairs ≡ zones → length pairs ≤ j → filter test (numbers (take j zones)) ≡ filter test (numbers zones)
filter_all_zones test zones pairs j same over = ap (λ (zs : List (ℕ × ℕ)). filter test (numbers zs)) (all_zones zones pairs j same over)

-- how many it picks of one zone more
pub count_more : (test : ℕ → Bool) (zones : List (ℕ × ℕ)) (j : ℕ) (zone : ℕ × ℕ) (count more : ℕ) → IsAtZone zones j zone → count ≡ length (filter test (numbers (take j zones))) → more ≡ length (filter test (range_with_len zone.0 zone.1)) → count + more ≡ length (filter test (numbers (take (j + 1) zones)))
count_more test zones j zone count more at is more_is =
    let parts = ap length (filter_one_zone_more test zones j zone at) in
    let sum = length-append (filter test (numbers (take j zones))) (filter test (range_with_len zone.0 zone.1)) in
    omega (arith, parts, sum, is, more_is)

-- a test picks at most 65,536
pub few_picked : (test : ℕ → Bool) (zones : List (ℕ × ℕ)) (j : ℕ) → AreZones zones → length (filter test (numbers (take j zones))) ≤ 65536
few_picked test zones j h =
    let count = length-filter test (numbers (take j zones)) in
    let part = count_by-le-length test (numbers (take j zones)) in
    let all = length-numbers_front zones j h in
    omega arith
