-- Which lists of pairs `of` refuses, and the fault of each.
use Rattle.std.specs.Prelude.{◌≡◌, ℕ, ◌-◌, ◌<◌, ◌≤◌, List, [], length}
use Rattle.std.specs.List.{AllWithin, AllAdjacentBelow}
use Rattle.definitions.specs.Zones.{zone_at, zone_end}
use Rattle.definitions.specs.ZoneFacts.{IsZone, LiesBelow}
use Rattle.frame_sets.specs.declared.zones.fault.ZoneFault.{ZoneFault}
use Rattle.frame_sets.specs.declared.zones.fault.ZoneFault.TheVariants.{NoZone, TooMany, Empty, TooLarge, Overlap}

-- there are at most 16 zones, and those before zone j are in order
pub record IsFirst (zones : List (ℕ × ℕ)) (j : ℕ) : Type 0 where
  pub few : length zones ≤ 16
  pub within : j < length zones
  pub each : AllWithin IsZone zones 0 j
  pub apart : AllAdjacentBelow LiesBelow zones j

-- The fault of a list of pairs, which is the first that applies in this table: no zone, more than 16, or the first zone
-- that has no page frame, passes page frame number 65535, or doesn't lie above the zone before.
abbrev pub Refuses : List (ℕ × ℕ) → ZoneFault → Type 0
Refuses zones NoZone = zones ≡ []
Refuses zones TooMany = 16 < length zones
Refuses zones (Empty at) = IsFirst zones at × ((zone_at zones at).1 ≡ 0)
Refuses zones (TooLarge at) = IsFirst zones at × (0 < (zone_at zones at).1) × (65536 < zone_end (zone_at zones at))
Refuses zones (Overlap at) =
    IsFirst zones at × IsZone (zone_at zones at) × (0 < at) × ((zone_at zones at).0 < zone_end (zone_at zones (at - 1)))

-- zone `at` has this fault, given that the zones before it are in order and end at `above`
abbrev pub HasFault : ℕ → ℕ × ℕ → ℕ → ZoneFault → Type 0
HasFault at zone above NoZone = ⊥
HasFault at zone above TooMany = ⊥
HasFault at zone above (Empty j) = (j ≡ at) × (zone.1 ≡ 0)
HasFault at zone above (TooLarge j) = (j ≡ at) × (0 < zone.1) × (65536 < zone_end zone)
HasFault at zone above (Overlap j) = (j ≡ at) × IsZone zone × (zone.0 < above)
