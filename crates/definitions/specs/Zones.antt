-- Zones: runs of page frame numbers that the machine has, a pair (first number, count) each, in ascending order
-- (struct zone, zone_start_pfn and spanned_pages).
use Rattle.std.specs.Prelude.{ℕ, ◌+◌, ◌-◌, List, [], ◌∷◌, ◌++◌, length, nat_le, Option, slice_index_or}
use Rattle.std.specs.List.{range_with_len, find}

-- the page frame numbers that are valid (pfn_valid), ascending
abbrev pub numbers : List (ℕ × ℕ) → List ℕ
numbers [] = []
numbers (zone ∷ zones) = range_with_len zone.0 zone.1 ++ numbers zones

-- the least member of an ascending list that is at or above p
abbrev pub first_from : List ℕ → ℕ → Option ℕ
first_from members p = find (λ q. nat_le p q) members

-- the page frame number after a zone (zone_end_pfn)
abbrev pub zone_end : ℕ × ℕ → ℕ
zone_end zone = zone.0 + zone.1

-- zone j, from 0
abbrev pub zone_at : List (ℕ × ℕ) → ℕ → ℕ × ℕ
zone_at zones j = slice_index_or zones j (0, 0)

-- one above the highest valid page frame number, which the last zone has (max_pfn)
abbrev pub top : List (ℕ × ℕ) → ℕ
top zones = zone_end (zone_at zones (length zones - 1))
