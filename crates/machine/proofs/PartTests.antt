-- What the tests of a machine's parts decide, and the first part at fault.
use Rattle.std.proofs.Common.{◌≡◌, ℕ, ◌+◌, ◌-◌, ◌%◌, ◌<◌, ◌≤◌, ◌⊎◌, max, Bool, true, false, not, cond, eqb, leb, ltb, ◌&&◌, ◌||◌, List, length, ◌++◌, ap, subst, inl, inr, ⊎_elim, arith}
use Rattle.std.proofs.lemmas.Bool.{cases_eq, cases_lt}
use Rattle.std.proofs.lemmas.Bool.Decides.{Decides-and, Decides-or, Decides-not, Decides-like, Decides-ltb, Decides-eqb}
use Rattle.std.proofs.lemmas.List.{get_or_default}
use Rattle.std.proofs.lemmas.List.Elements.{Contains-append_left, Contains-append_right, Contains-append_cases}
use Rattle.std.specs.Bool.{Decides}
use Rattle.std.specs.List.{All, Contains, list_all, list_any, range_with_len}
use Rattle.definitions.specs.Zones.{numbers, top, zone_at, zone_end}
use Rattle.definitions.specs.ZoneFacts.{IsZone, AreZones}
use Rattle.definitions.specs.Slots.{extent_at, slots_before, slots_of}
use Rattle.definitions.specs.FileMaps.{LieApart, IsFileMap}
use Rattle.definitions.proofs.ZoneNumbers.{Contains-range, range-bounds, top_is_next, below_top}
use Rattle.plain_machine.specs.Machine.{Hardware, IsInRegion, IsOfTable, IsRegion, IsTableFrame, frame_table_frames, is_of_table, is_table_frame, is_valid, slot_table_frames, table_frames, table_len}
use Rattle.machine.specs.HardFault.{each_below, has_extents, has_flags, has_regions, has_slots, has_tables, is_extent, is_in_region, is_region, is_region_at, is_zone, is_zones, lie_apart, region_at, region_frames}
use Rattle.machine.proofs.ListTests.{Decides-all, Decides-any, Decides-below, Decides-leb}
use Rattle.machine.proofs.Rows.{any_Contains, valid_true}

-- Zones.

abbrev IsZoneAt : List (ℕ × ℕ) → ℕ → Type 0
IsZoneAt zones j =
    ((0 < (zone_at zones j).1) × (zone_end (zone_at zones j) ≤ 65536)) × ((j ≡ 0) ⊎ (zone_end (zone_at zones (j - 1)) ≤ (zone_at zones j).0))

decides_zone : (zones : List (ℕ × ℕ)) (j : ℕ) → Decides (is_zone zones j) (IsZoneAt zones j)
decides_zone zones j =
    let z = zone_at zones j in
    let before = zone_end (zone_at zones (j - 1)) in
    Decides-and (ltb 0 z.1 && leb (zone_end z) 65536) (eqb j 0 || leb before z.0)
    (Decides-and (ltb 0 z.1) (leb (zone_end z) 65536) (Decides-ltb 0 z.1) (Decides-leb (zone_end z) 65536))
    (Decides-or (eqb j 0) (leb before z.0) (Decides-eqb j 0) (Decides-leb before z.0))

zones_from : (zones : List (ℕ × ℕ)) → ((0 < length zones) × (length zones ≤ 16)) × ((j : ℕ) → j < length zones → IsZoneAt zones j) → AreZones zones
zones_from zones all = record {
  some = all.0.0;
  few = all.0.1;
  each = λ j d lt. subst IsZone (get_or_default zones j (0, 0) d lt) ((all.1 j lt).0.0, (all.1 j lt).0.1);
  apart = λ k d lt.
      let here = get_or_default zones k (0, 0) d (omega arith) in
      let next = get_or_default zones (k + 1) (0, 0) d (omega arith) in
      let same : k + 1 - 1 ≡ k = omega arith in
      let le : zone_end (zone_at zones k) ≤ (zone_at zones (k + 1)).0 = elim ((all.1 (k + 1) (omega arith)).1) [
        | inl none ↦ absurd (omega arith)
        | inr le ↦ subst (λ (i : ℕ). zone_end (zone_at zones i) ≤ (zone_at zones (k + 1)).0) same le
      ] in
      let end = ap zone_end here in
      let start = ap (λ (z : ℕ × ℕ). z.0) next in
      omega arith;
}

zones_to : (zones : List (ℕ × ℕ)) → AreZones zones → ((0 < length zones) × (length zones ≤ 16)) × ((j : ℕ) → j < length zones → IsZoneAt zones j)
zones_to zones h = (
  (h.some, h.few),
  λ j lt. (
    h.each j (0, 0) lt,
    elim (cases_eq j 0) [
      | inl first ↦ inl first
      | inr later ↦
          let same : j - 1 + 1 ≡ j = omega arith in
          inr (subst (λ (i : ℕ). zone_end (zone_at zones (j - 1)) ≤ (zone_at zones i).0) same (h.apart (j - 1) (0, 0) (omega arith)))
    ],
  ),
)

pub decides_zones : (h : Hardware) → Decides (is_zones h) (AreZones h.zones)
decides_zones h =
    let n = length h.zones in
    Decides-like (is_zones h) (zones_from h.zones) (zones_to h.zones)
    (Decides-and (ltb 0 n && leb n 16) (each_below n (is_zone h.zones))
    (Decides-and (ltb 0 n) (leb n 16) (Decides-ltb 0 n) (Decides-leb n 16))
    (Decides-below n (is_zone h.zones) (IsZoneAt h.zones) (λ j lt. decides_zone h.zones j)))

-- Slots.

pub decides_slots : (h : Hardware) → Decides (has_slots h) ((2 ≤ h.slots) × (h.slots ≤ 131072))
decides_slots h = Decides-and (leb 2 h.slots) (leb h.slots 131072) (Decides-leb 2 h.slots) (Decides-leb h.slots 131072)

-- Tables.

pub some_frames : (h : Hardware) → AreZones h.zones → 1 ≤ top h.zones
some_frames h zones = let low = below_top h.zones (top h.zones - 1) zones.apart (top_is_next h.zones zones) in omega arith

pub decides_valid : (h : Hardware) (p : ℕ) → Decides (is_valid h p) (Contains (numbers h.zones) p)
decides_valid h p = (any_Contains (numbers h.zones) p, valid_true h p)

decides_of_table : (first entries p : ℕ) → Decides (is_of_table first entries p) (IsOfTable first entries p)
decides_of_table first entries p =
    Decides-like (is_of_table first entries p)
    (λ (both : (first ≤ p) × (p < first + table_len entries)). record { from = both.0; below = both.1 })
    (λ (of : IsOfTable first entries p). (of.from, of.below))
    (Decides-and (leb first p) (ltb p (first + table_len entries)) (Decides-leb first p) (Decides-ltb p (first + table_len entries)))

decides_table_frame : (h : Hardware) (p : ℕ) → Decides (is_table_frame h p) (IsTableFrame h p)
decides_table_frame h p =
    Decides-or (is_of_table h.frame_table (top h.zones) p) (is_of_table h.slot_table h.slots p)
    (decides_of_table h.frame_table (top h.zones) p) (decides_of_table h.slot_table h.slots p)

-- the page frames of the tables, as IsHardware has them
pub record HasTables (h : Hardware) : Type 0 where
  pub frame_table : (i : ℕ) → i < table_len (top h.zones) → Contains (numbers h.zones) (h.frame_table + i)
  pub slot_table : (i : ℕ) → i < table_len h.slots → Contains (numbers h.zones) (h.slot_table + i)
  pub apart : (h.frame_table + table_len (top h.zones) ≤ h.slot_table) ⊎ (h.slot_table + table_len h.slots ≤ h.frame_table)

Contains-table : (first entries f : ℕ) → IsOfTable first entries f → Contains (range_with_len first (table_len entries)) f
Contains-table first entries f of = Contains-range first (table_len entries) f of.from of.below

of_table_from : (first entries f : ℕ) → Contains (range_with_len first (table_len entries)) f → IsOfTable first entries f
of_table_from first entries f in' = let bounds = range-bounds first (table_len entries) f in' in record { from = bounds.0; below = bounds.1 }

-- the page frames of both tables, in the one order or the other
in_either : (b : Bool) (h : Hardware) (f : ℕ) → IsTableFrame h f → Contains (cond b (frame_table_frames h ++ slot_table_frames h) (slot_table_frames h ++ frame_table_frames h)) f
in_either true h f (inl of) = Contains-append_left (frame_table_frames h) (slot_table_frames h) f (Contains-table h.frame_table (top h.zones) f of)
in_either true h f (inr of) = Contains-append_right (frame_table_frames h) (slot_table_frames h) f (Contains-table h.slot_table h.slots f of)
in_either false h f (inl of) = Contains-append_right (slot_table_frames h) (frame_table_frames h) f (Contains-table h.frame_table (top h.zones) f of)
in_either false h f (inr of) = Contains-append_left (slot_table_frames h) (frame_table_frames h) f (Contains-table h.slot_table h.slots f of)

pub in_table_frames : (h : Hardware) (f : ℕ) → IsTableFrame h f → Contains (table_frames h) f
in_table_frames h f of = in_either (ltb h.frame_table h.slot_table) h f of

from_either : (b : Bool) (h : Hardware) (f : ℕ) → Contains (cond b (frame_table_frames h ++ slot_table_frames h) (slot_table_frames h ++ frame_table_frames h)) f → IsTableFrame h f
from_either true h f in' = elim (Contains-append_cases (frame_table_frames h) (slot_table_frames h) f in') [
  | inl of ↦ inl (of_table_from h.frame_table (top h.zones) f of)
  | inr of ↦ inr (of_table_from h.slot_table h.slots f of)
]
from_either false h f in' = elim (Contains-append_cases (slot_table_frames h) (frame_table_frames h) f in') [
  | inl of ↦ inr (of_table_from h.slot_table h.slots f of)
  | inr of ↦ inl (of_table_from h.frame_table (top h.zones) f of)
]

abbrev AreTables : Hardware → Type 0
AreTables h =
    ((f : ℕ) → Contains (table_frames h) f → Contains (numbers h.zones) f)
    × (((f : ℕ) × Contains (slot_table_frames h) f × IsOfTable h.frame_table (top h.zones) f) → ⊥)

tables_from : (h : Hardware) → 1 ≤ top h.zones → 1 ≤ h.slots → AreTables h → HasTables h
tables_from h some_frames some_slots tables = record {
  frame_table = λ i lt. tables.0 (h.frame_table + i) (in_table_frames h (h.frame_table + i) (inl (record { from = omega arith; below = omega arith })));
  slot_table = λ i lt. tables.0 (h.slot_table + i) (in_table_frames h (h.slot_table + i) (inr (record { from = omega arith; below = omega arith })));
  apart = elim (cases_lt h.slot_table (h.frame_table + table_len (top h.zones))) [
    | inr le ↦ inl le
    | inl lt ↦ elim (cases_lt h.frame_table (h.slot_table + table_len h.slots)) [
      | inr le ↦ inr le
      | inl lt' ↦
          let f = max h.frame_table h.slot_table in
          absurd (tables.1 (f, Contains-range h.slot_table (table_len h.slots) f (omega arith) (omega arith), record { from = omega arith; below = omega arith }))
    ]
  ];
}

tables_to : (h : Hardware) → HasTables h → AreTables h
tables_to h has = (
  λ f in'. elim (from_either (ltb h.frame_table h.slot_table) h f in') [
    | inl of ↦
        let from = of.from in
        let below = of.below in
        let at : h.frame_table + (f - h.frame_table) ≡ f = omega arith in
        subst (Contains (numbers h.zones)) at (has.frame_table (f - h.frame_table) (omega arith))
    | inr of ↦
        let from = of.from in
        let below = of.below in
        let at : h.slot_table + (f - h.slot_table) ≡ f = omega arith in
        subst (Contains (numbers h.zones)) at (has.slot_table (f - h.slot_table) (omega arith))
  ],
  λ both.
      let bounds = range-bounds h.slot_table (table_len h.slots) both.0 both.1 in
      let low = bounds.0 in
      let high = bounds.1 in
      let from = both.2.from in
      let below = both.2.below in
      ⊎_elim
      (λ (le : h.frame_table + table_len (top h.zones) ≤ h.slot_table). let r : ⊥ = omega arith in r)
      (λ (le : h.slot_table + table_len h.slots ≤ h.frame_table). let r : ⊥ = omega arith in r)
      has.apart,
)

pub decides_tables : (h : Hardware) → 1 ≤ top h.zones → 1 ≤ h.slots → Decides (has_tables h) (HasTables h)
decides_tables h some_frames some_slots =
    let shared = list_any (is_of_table h.frame_table (top h.zones)) (slot_table_frames h) in
    Decides-like (has_tables h) (tables_from h some_frames some_slots) (tables_to h)
    (Decides-and (list_all (is_valid h) (table_frames h)) (not shared)
    (Decides-all (is_valid h) (Contains (numbers h.zones)) (table_frames h) (λ f in'. decides_valid h f))
    (Decides-not shared
    (Decides-any (is_of_table h.frame_table (top h.zones)) (IsOfTable h.frame_table (top h.zones)) (slot_table_frames h) (decides_of_table h.frame_table (top h.zones)))))

-- Regions.

-- what is known of a region's flags and count
pub record HasFlags (r : ℕ × ℕ × ℕ) : Type 0 where
  pub some : 0 < r.1
  pub few : r.2 ≤ 126
  pub even : r.2 % 2 ≡ 0

pub decides_flags : (r : ℕ × ℕ × ℕ) → Decides (has_flags r) (HasFlags r)
decides_flags r =
    Decides-like (has_flags r)
    (λ (all : ((0 < r.1) × (r.2 ≤ 126)) × (r.2 % 2 ≡ 0)). record { some = all.0.0; few = all.0.1; even = all.1 })
    (λ (has : HasFlags r). ((has.some, has.few), has.even))
    (Decides-and (ltb 0 r.1 && leb r.2 126) (eqb (r.2 % 2) 0)
    (Decides-and (ltb 0 r.1) (leb r.2 126) (Decides-ltb 0 r.1) (Decides-leb r.2 126))
    (Decides-eqb (r.2 % 2) 0))

abbrev HasFrames : Hardware → ℕ × ℕ × ℕ → Type 0
HasFrames h r = (p : ℕ) → Contains (region_frames r) p → Contains (numbers h.zones) p × (IsTableFrame h p → ⊥)

region_from : (h : Hardware) (r : ℕ × ℕ × ℕ) → HasFlags r × HasFrames h r → IsRegion h r
region_from h r all = record {
  some = let some = all.0.some in omega arith;
  few_flags = let few = all.0.few in omega arith;
  even = all.0.even;
  valid = λ p of. (all.1 p (Contains-range r.0 r.1 p of.from of.below)).0;
  of_no_table = λ p of. (all.1 p (Contains-range r.0 r.1 p of.from of.below)).1;
}

in_region_from : (r : ℕ × ℕ × ℕ) (p : ℕ) → Contains (region_frames r) p → IsInRegion r p
in_region_from r p in' = let bounds = range-bounds r.0 r.1 p in' in record { from = bounds.0; below = bounds.1 }

region_to : (h : Hardware) (r : ℕ × ℕ × ℕ) → IsRegion h r → HasFlags r × HasFrames h r
region_to h r is =
    let some = is.some in
    let few = is.few_flags in
    let even = is.even in (
      record { some = omega arith; few = omega arith; even = even },
      λ p in'. (is.valid p (in_region_from r p in'), is.of_no_table p (in_region_from r p in')),
    )

pub decides_region : (h : Hardware) (r : ℕ × ℕ × ℕ) → Decides (is_region h r) (IsRegion h r)
decides_region h r =
    let test = λ (p : ℕ). is_valid h p && not (is_table_frame h p) in
    Decides-like (is_region h r) (region_from h r) (region_to h r)
    (Decides-and (has_flags r) (list_all test (region_frames r)) (decides_flags r)
    (Decides-all test (λ p. Contains (numbers h.zones) p × (IsTableFrame h p → ⊥)) (region_frames r)
    (λ p in'. Decides-and (is_valid h p) (not (is_table_frame h p)) (decides_valid h p) (Decides-not (is_table_frame h p) (decides_table_frame h p)))))

decides_in_region : (r : ℕ × ℕ × ℕ) (p : ℕ) → Decides (is_in_region r p) (IsInRegion r p)
decides_in_region r p =
    Decides-like (is_in_region r p)
    (λ (both : (r.0 ≤ p) × (p < r.0 + r.1)). record { from = both.0; below = both.1 })
    (λ (of : IsInRegion r p). (of.from, of.below))
    (Decides-and (leb r.0 p) (ltb p (r.0 + r.1)) (Decides-leb r.0 p) (Decides-ltb p (r.0 + r.1)))

-- region k has no page frame of a region before
abbrev pub IsBehind : List (ℕ × ℕ × ℕ) → ℕ → Type 0
IsBehind regions k = (j : ℕ) → j < k → ((p : ℕ) × Contains (region_frames (region_at regions k)) p × IsInRegion (region_at regions j) p) → ⊥

pub decides_region_at : (h : Hardware) (k : ℕ) → Decides (is_region_at h k) (IsRegion h (region_at h.regions k) × IsBehind h.regions k)
decides_region_at h k =
    let r = region_at h.regions k in
    let shared = λ (j : ℕ). list_any (is_in_region (region_at h.regions j)) (region_frames r) in
    Decides-and (is_region h r) (each_below k (λ j. not (shared j))) (decides_region h r)
    (Decides-below k (λ j. not (shared j)) (λ j. ((p : ℕ) × Contains (region_frames r) p × IsInRegion (region_at h.regions j) p) → ⊥)
    (λ j lt. Decides-not (shared j)
    (Decides-any (is_in_region (region_at h.regions j)) (IsInRegion (region_at h.regions j)) (region_frames r) (decides_in_region (region_at h.regions j)))))

-- the regions, as IsHardware has them
pub record HasRegions (h : Hardware) : Type 0 where
  pub few : length h.regions ≤ 64
  pub each : All (IsRegion h) h.regions
  pub apart : (j k p : ℕ) → j < k → k < length h.regions → IsInRegion (region_at h.regions j) p → IsInRegion (region_at h.regions k) p → ⊥

abbrev AreRegions : Hardware → Type 0
AreRegions h = (length h.regions ≤ 64) × ((k : ℕ) → k < length h.regions → IsRegion h (region_at h.regions k) × IsBehind h.regions k)

regions_from : (h : Hardware) → AreRegions h → HasRegions h
regions_from h all = record {
  few = all.0;
  each = λ k d lt. subst (IsRegion h) (get_or_default h.regions k (0, 0, 0) d lt) (all.1 k lt).0;
  apart = λ j k p lt within one other. (all.1 k within).1 j lt (p, Contains-range (region_at h.regions k).0 (region_at h.regions k).1 p other.from other.below, one);
}

regions_to : (h : Hardware) → HasRegions h → AreRegions h
regions_to h has = (
  has.few,
  λ k within. (has.each k (0, 0, 0) within, λ j lt shared. has.apart j k shared.0 lt within shared.2 (in_region_from (region_at h.regions k) shared.0 shared.1)),
)

-- few, and each by its test
pub decides_regions_by : (h : Hardware) → Decides (has_regions h) ((length h.regions ≤ 64) × ((k : ℕ) → k < length h.regions → is_region_at h k ≡ true))
decides_regions_by h =
    let n = length h.regions in
    Decides-and (leb n 64) (each_below n (is_region_at h)) (Decides-leb n 64)
    (Decides-below n (is_region_at h) (λ k. is_region_at h k ≡ true) (λ k lt. (λ e. e, λ e. e)))

pub decides_regions : (h : Hardware) → Decides (has_regions h) (HasRegions h)
decides_regions h =
    let n = length h.regions in
    Decides-like (has_regions h) (regions_from h) (regions_to h)
    (Decides-and (leb n 64) (each_below n (is_region_at h)) (Decides-leb n 64)
    (Decides-below n (is_region_at h) (λ k. IsRegion h (region_at h.regions k) × IsBehind h.regions k) (λ k lt. decides_region_at h k)))

-- Extents.

abbrev IsExtent : List (ℕ × ℕ × ℕ) → ℕ → Type 0
IsExtent extents i =
    (((((extent_at extents i).0 ≡ slots_before extents i) × (0 < (extent_at extents i).1)) × ((extent_at extents i).2 + (extent_at extents i).1 ≤ 4294967295))
    × ((j : ℕ) → j < i → LieApart (extent_at extents j) (extent_at extents i)))
    × (((extent_at extents i).2 ≡ 0 → ⊥) ⊎ ((extent_at extents i).0 ≡ 0))

decides_apart : (e f : ℕ × ℕ × ℕ) → Decides (lie_apart e f) (LieApart e f)
decides_apart e f = Decides-or (leb (e.2 + e.1) f.2) (leb (f.2 + f.1) e.2) (Decides-leb (e.2 + e.1) f.2) (Decides-leb (f.2 + f.1) e.2)

decides_extent : (extents : List (ℕ × ℕ × ℕ)) (i : ℕ) → Decides (is_extent extents i) (IsExtent extents i)
decides_extent extents i =
    let e = extent_at extents i in
    let start = eqb e.0 (slots_before extents i) in
    let some = ltb 0 e.1 in
    let fits = leb (e.2 + e.1) 4294967295 in
    let apart = each_below i (λ j. lie_apart (extent_at extents j) e) in
    let header = not (eqb e.2 0) || eqb e.0 0 in
    Decides-and (start && some && fits && apart) header
    (Decides-and (start && some && fits) apart
    (Decides-and (start && some) fits (Decides-and start some (Decides-eqb e.0 (slots_before extents i)) (Decides-ltb 0 e.1)) (Decides-leb (e.2 + e.1) 4294967295))
    (Decides-below i (λ j. lie_apart (extent_at extents j) e) (λ j. LieApart (extent_at extents j) e) (λ j lt. decides_apart (extent_at extents j) e)))
    (Decides-or (not (eqb e.2 0)) (eqb e.0 0) (Decides-not (eqb e.2 0) (Decides-eqb e.2 0)) (Decides-eqb e.0 0))

abbrev AreExtents : Hardware → Type 0
AreExtents h =
    (((0 < length h.extents) × (length h.extents ≤ 64)) × ((i : ℕ) → i < length h.extents → IsExtent h.extents i)) × (slots_of h.extents ≡ h.slots)

extents_from : (h : Hardware) → AreExtents h → IsFileMap h.extents h.slots
extents_from h all = record {
  count = record { some = let some = all.0.0.0 in omega arith; few = all.0.0.1 };
  each = λ i lt.
      let is = all.0.1 i lt in
      record {
        start = is.0.0.0.0;
        some = let some = is.0.0.0.1 in omega arith;
        fits = is.0.0.1;
        apart = is.0.1;
        header = λ none. ⊎_elim (λ never. absurd (never none)) (λ first. first) is.1;
      };
  covers = all.1;
}

extents_to : (h : Hardware) → IsFileMap h.extents h.slots → AreExtents h
extents_to h map = (
  (
    ((let some = map.count.some in let lt : 0 < length h.extents = omega arith in lt), map.count.few),
    λ i within.
        let is = map.each i within in
        let some = is.some in (
          (((is.start, (let lt : 0 < (extent_at h.extents i).1 = omega arith in lt)), is.fits), is.apart),
          elim (cases_eq (extent_at h.extents i).2 0) [ inl none ↦ inr (is.header none) | inr some_block ↦ inl some_block ],
        ),
  ),
  map.covers,
)

pub decides_extents : (h : Hardware) → Decides (has_extents h) (IsFileMap h.extents h.slots)
decides_extents h =
    let n = length h.extents in
    let each = each_below n (is_extent h.extents) in
    Decides-like (has_extents h) (extents_from h) (extents_to h)
    (Decides-and (ltb 0 n && leb n 64 && each) (eqb (slots_of h.extents) h.slots)
    (Decides-and (ltb 0 n && leb n 64) each (Decides-and (ltb 0 n) (leb n 64) (Decides-ltb 0 n) (Decides-leb n 64))
    (Decides-below n (is_extent h.extents) (IsExtent h.extents) (λ i lt. decides_extent h.extents i)))
    (Decides-eqb (slots_of h.extents) h.slots))
