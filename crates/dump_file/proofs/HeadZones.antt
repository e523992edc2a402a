-- The zones of a dump, when the first n have been read.
use Rattle.std.proofs.Common.{◌≡◌, ℕ, ◌+◌, ◌-◌, ◌<◌, ◌≤◌, Bool, true, false, ltb, leb, List, [], length, map, Some, None, eqb, ◌&&◌, ◌||◌, sym, ap, ◌∙◌, subst, inl, inr, arith}
use Rattle.std.proofs.lemmas.Bool.{and_from, cases_Bool, cases_lt, le-leb, lt-ltb}
use Rattle.std.proofs.lemmas.List.FromFn.{get_or-map-range_with_len, length-map-range_with_len}
use Rattle.std.specs.List.{range_with_len}
use Rattle.definitions.specs.Zones.{zone_at, zone_end}
use Rattle.definitions.specs.ZoneFacts.{AreZones}
use Rattle.definitions.proofs.ZoneNumbers.{range-bounds}
use Rattle.plain_machine.specs.Machine.{Hardware}
use Rattle.machine.specs.HardFault.{each_below, is_zone}
use Rattle.machine.proofs.ListTests.{each_all}
use Rattle.machine.proofs.PartTests.{decides_zones}
use Rattle.dump_file.specs.Dump.{wanted, zone_fault, zones_fault}
use Rattle.dump_file.specs.Fields.{zone, zone_byte, zone_count, zones}
use Rattle.dump_file.specs.declared.dump.DumpFault.{DumpFault}
use Rattle.dump_file.specs.declared.dump.DumpKind.TheVariants.{Zone}
use Rattle.dump_file.proofs.Items.{item_right, items_right, items_short, items_wrong}
use Rattle.dump_file.proofs.ZoneFaults.{each_is_one}

-- a list of zones, or a front of it, has the same zones
front_zone : (bytes : List ℕ) (n j : ℕ) → j < n → zone_at (map (zone bytes) (range_with_len 0 n)) j ≡ zone bytes j
front_zone bytes n j lt = let place : 0 + j ≡ j = omega arith in get_or-map-range_with_len (zone bytes) 0 n j j (0, 0) lt place

same_test : (xs ys : List (ℕ × ℕ)) (j : ℕ) → zone_at xs j ≡ zone_at ys j → zone_at xs (j - 1) ≡ zone_at ys (j - 1) → is_zone xs j ≡ is_zone ys j
same_test xs ys j here before =
    let test : ℕ × ℕ → ℕ × ℕ → Bool = λ z w. ltb 0 z.1 && leb (zone_end z) 65536 && (eqb j 0 || leb (zone_end w) z.0) in
    ap (λ (z : ℕ × ℕ). test z (zone_at xs (j - 1))) here ∙ ap (test (zone_at ys j)) before

front_test : (bytes : List ℕ) (pairs : List (ℕ × ℕ)) (there j : ℕ) → pairs ≡ map (zone bytes) (range_with_len 0 there) → there ≤ zone_count bytes → j < there → is_zone pairs j ≡ is_zone (zones bytes) j
front_test bytes pairs there j is few lt =
    let n = zone_count bytes in
    let front = map (zone bytes) (range_with_len 0 there) in
    let at : (k : ℕ) → k < there → zone_at front k ≡ zone_at (zones bytes) k = λ k k_lt. front_zone bytes there k k_lt ∙ sym (front_zone bytes n k (omega (arith, k_lt, few))) in
    ap (λ (xs : List (ℕ × ℕ)). is_zone xs j) is
    ∙ same_test front (zones bytes) j (at j lt) (at (j - 1) (omega (arith, lt)))

-- the zones that were read, where each was found to be one
zone_right : (bytes : List ℕ) (pairs : List (ℕ × ℕ)) (n i : ℕ) → pairs ≡ map (zone bytes) (range_with_len 0 n) → n ≤ zone_count bytes → zone_byte n ≤ length bytes → (0 < n → AreZones pairs) → i < n → zone_fault bytes i ≡ None
zone_right bytes pairs n i is few there are lt =
    let size : length pairs ≡ n = ap length is ∙ length-map-range_with_len (zone bytes) 0 n in
    item_right bytes zone_byte (is_zone (zones bytes)) Zone i (omega (arith, there, lt))
    (sym (front_test bytes pairs n i is few lt) ∙ each_is_one pairs (are (omega (arith, lt))) i (omega (arith, lt, size)))

pub zone_short : (bytes : List ℕ) (pairs : List (ℕ × ℕ)) (n : ℕ) (f : DumpFault) → pairs ≡ map (zone bytes) (range_with_len 0 n) → n < zone_count bytes → zone_byte n ≤ length bytes → (0 < n → AreZones pairs) → wanted bytes (zone_byte n + 8) ≡ Some f → zones_fault bytes ≡ Some f
unfolding zones_fault
zone_short bytes pairs n f is less there are short =
    let place : zone_byte (n + 1) ≡ zone_byte n + 8 = omega arith in
    items_short bytes zone_byte (is_zone (zones bytes)) Zone (zone_count bytes) n f less
    (λ i lt. zone_right bytes pairs n i is (omega (arith, less)) there are lt) (ap (wanted bytes) place ∙ short)

-- the zones that were read are zones of a machine, since each passes its test
any_hardware : List (ℕ × ℕ) → Hardware
any_hardware zs = record { zones = zs; slots = 0; frame_table = 0; slot_table = 0; regions = []; ident = record { version_code = 0; names = [] }; hw_sig = 0; extents = [] }

zones_are : (zs : List (ℕ × ℕ)) → 1 ≤ length zs → length zs ≤ 16 → ((j : ℕ) → j < length zs → is_zone zs j ≡ true) → AreZones zs
unfolding any_hardware
zones_are zs some few each =
    let n = length zs in
    (decides_zones (any_hardware zs)).0
    (and_from (ltb 0 n && leb n 16) (each_below n (is_zone zs))
    (and_from (ltb 0 n) (leb n 16) (lt-ltb 0 n (omega (arith, some))) (le-leb n 16 few))
    (each_all (is_zone zs) (range_with_len 0 n) (λ j in'. each j (let below = (range-bounds 0 n j in').1 in omega (arith, below)))))

pub zone_wrong : (bytes : List ℕ) (before pairs : List (ℕ × ℕ)) (n : ℕ) → before ≡ map (zone bytes) (range_with_len 0 n) → pairs ≡ map (zone bytes) (range_with_len 0 (n + 1)) → n < zone_count bytes → zone_count bytes ≤ 16 → zone_byte (n + 1) ≤ length bytes → (0 < n → AreZones before) → (AreZones pairs → ⊥) → zones_fault bytes ≡ Some (record { kind = Zone; at = zone_byte n })
unfolding zones_fault
zone_wrong bytes before pairs n before_is is less few there are never =
    let size : length pairs ≡ n + 1 = ap length is ∙ length-map-range_with_len (zone bytes) 0 (n + 1) in
    let size_before : length before ≡ n = ap length before_is ∙ length-map-range_with_len (zone bytes) 0 n in
    let early : (j : ℕ) → j < n → is_zone (zones bytes) j ≡ true =
    λ j lt. sym (front_test bytes before n j before_is (omega (arith, less)) lt) ∙ each_is_one before (are (omega (arith, lt))) j (omega (arith, lt, size_before)) in
    let all : is_zone (zones bytes) n ≡ true → (j : ℕ) → j < length pairs → is_zone pairs j ≡ true =
    λ last j lt.
    front_test bytes pairs (n + 1) j is (omega (arith, less)) (omega (arith, lt, size))
    ∙ elim (cases_lt j n) [
      | inl below ↦ early j below
      | inr ge ↦ let same : n ≡ j = omega (arith, ge, lt, size) in subst (λ (k : ℕ). is_zone (zones bytes) k ≡ true) same last
    ] in
    let wrong : is_zone (zones bytes) n ≡ false =
    elim (cases_Bool (is_zone (zones bytes) n)) [
      | inl last ↦ absurd (never (zones_are pairs (omega (arith, size)) (omega (arith, size, less, few)) (all last)))
      | inr last ↦ last
    ] in
    items_wrong bytes zone_byte (is_zone (zones bytes)) Zone (zone_count bytes) n less
    (λ i lt. zone_right bytes before n i before_is (omega (arith, less)) (omega (arith, there)) are lt) there wrong

pub zones_right : (bytes : List ℕ) (pairs : List (ℕ × ℕ)) (n : ℕ) → pairs ≡ map (zone bytes) (range_with_len 0 n) → n ≡ zone_count bytes → zone_byte n ≤ length bytes → (0 < n → AreZones pairs) → zones_fault bytes ≡ None
unfolding zones_fault
zones_right bytes pairs n is all there are =
    items_right bytes zone_byte (is_zone (zones bytes)) Zone (zone_count bytes)
    (λ i lt. zone_right bytes pairs n i is (omega (arith, all)) there are (omega (arith, lt, all)))
