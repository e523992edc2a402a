-- Which runs of page frames are zones.
use Rattle.std.specs.Prelude.{ℕ, ◌-◌, ◌<◌, ◌≤◌, List, length, All}
use Rattle.std.specs.List.{AllAdjacentBelow}
use Rattle.definitions.specs.Zones.{zone_end, zone_at}

-- a zone has at least one page frame, and none with a number above 65535
abbrev pub IsZone : ℕ × ℕ → Type 0
IsZone zone = (0 < zone.1) × (zone_end zone ≤ 65536)

-- the first zone lies below the second
abbrev pub LiesBelow : ℕ × ℕ → ℕ × ℕ → Type 0
LiesBelow a b = zone_end a ≤ b.0

-- each zone lies above the one before
abbrev pub AreApart : List (ℕ × ℕ) → Type 0
AreApart zones = AllAdjacentBelow LiesBelow zones (length zones)

-- the zones of a machine: 1 to 16 of them, each above the one before
pub record AreZones (zones : List (ℕ × ℕ)) : Type 0 where
  pub some : 0 < length zones
  pub few : length zones ≤ 16
  pub each : All IsZone zones
  pub apart : AreApart zones

-- p is a page frame number of zone j
pub record InZone (zones : List (ℕ × ℕ)) (p j : ℕ) : Type 0 where
  pub within : j < length zones
  pub from : (zone_at zones j).0 ≤ p
  pub below : p < zone_end (zone_at zones j)
