-- How far a dump is read that is refused: no further than its bytes go, and at most one byte past the largest dump.
use Rattle.std.proofs.Common.{◌≡◌, ℕ, zero, suc, ◌+◌, ◌-◌, ◌*◌, ◌<◌, ◌≤◌, ◌&&◌, ◌||◌, Bool, true, false, leb, ltb, List, [], cond, length, map, Option, Some, None, Err, refl, sym, ap, ◌∙◌, subst, inl, inr, arith}
use Rattle.std.proofs.lemmas.Bool.{and_from, cases_Bool, cases_lt, le-leb, leb-true, lt-ltb}
use Rattle.std.proofs.lemmas.Bool.Decides.{leb_tells}
use Rattle.std.proofs.lemmas.List.FromFn.{length-map-range_with_len}
use Rattle.std.specs.List.{range_with_len}
use Rattle.std.specs.Prelude.{nat_le}
use Rattle.definitions.specs.Zones.{numbers}
use Rattle.definitions.specs.ZoneFacts.{AreZones}
use Rattle.definitions.proofs.ZoneNumbers.{count_at_most, range-bounds, top_at_most}
use Rattle.plain_machine.specs.Chain.{first_some, or_else}
use Rattle.plain_machine.specs.Loader.{has}
use Rattle.plain_machine.specs.Machine.{Hardware}
use Rattle.machine.specs.HardFault.{each_below, has_tables, is_extent, is_zone}
use Rattle.machine.proofs.ListTests.{each_all}
use Rattle.machine.proofs.PartTests.{decides_zones}
use Rattle.dump_file.specs.Dump.{body_fault, count_fault, cover_fault, dump_fault, dump_of, dump_unless, end_fault, extent_count_fault, extent_fault, extents_fault, fault_in, fault_of_record, front_fault, head_fault, is_above, layout_fault, map_fault, offset_fault, record_fault, records_fault, table_fault, told_by, unless, wanted, zone_fault, zones_fault}
use Rattle.dump_file.specs.Fields.{count_byte, extent_byte, extent_count, extents, first_record, hardware, is_first, is_second, map_byte, number, record_byte, record_count, slots, zone, zone_byte, zone_count, zones}
use Rattle.dump_file.specs.declared.dump.DumpFault.{DumpFault}
use Rattle.dump_file.specs.declared.dump.DumpKind.{DumpKind}
use Rattle.dump_file.specs.declared.dump.DumpKind.TheVariants.{Short, Magic, Header, Zone, Extent, Frame, Order, Extra}
use Rattle.dump_file.proofs.Chains.{none-first, none-second, unless-none, unless-true, wanted-short, wanted-there}
use Rattle.dump_file.proofs.Refused.{count_first, count_second, told_extent, told_extents, told_offset, told_zone}

-- a fault, if there is one, is told by bytes that are there, and by at most `most` of them
abbrev IsToldIn : List ℕ → ℕ → Option DumpFault → Type 0
IsToldIn bytes most None = Unit {0}
IsToldIn bytes most (Some f) = (told_by bytes f.kind f.at ≤ length bytes) × (told_by bytes f.kind f.at ≤ most)

-- Faults one after the other, and one for each number of a run.

then : (bytes : List ℕ) (most : ℕ) (a b : Option DumpFault) → IsToldIn bytes most a → (a ≡ None → IsToldIn bytes most b) → IsToldIn bytes most (or_else a b)
then bytes most None b here later = later refl
then bytes most (Some f) b here later = here

each : (bytes : List ℕ) (most : ℕ) (fault : ℕ → Option DumpFault) (a n : ℕ) → ((j : ℕ) → a ≤ j → j < a + n → IsToldIn bytes most (fault j)) → IsToldIn bytes most (first_some (map fault (range_with_len a n)))
each bytes most fault a zero told = tt
each bytes most fault a (suc n) told =
    then bytes most (fault a) (first_some (map fault (range_with_len (a + 1) n))) (told a (omega arith) (omega arith))
    (λ none. each bytes most fault (a + 1) n (λ j from below. told j (omega (arith, from)) (omega (arith, below))))

each_none : (fault : ℕ → Option DumpFault) (a n j : ℕ) → first_some (map fault (range_with_len a n)) ≡ None → a ≤ j → j < a + n → fault j ≡ None
each_none fault a zero j none from below = absurd (omega (arith, from, below))
each_none fault a (suc n) j none from below =
    elim (cases_lt a j) [
      | inl later ↦ each_none fault (a + 1) n j (none-second (fault a) _ none) (omega (arith, later)) (omega (arith, below))
      | inr ge ↦ let same : j ≡ a = omega (arith, ge, from) in ap fault same ∙ none-first (fault a) _ none
    ]

-- where bytes are wanted and there are fewer, all are read
wanted_told : (bytes : List ℕ) (most n : ℕ) → n ≤ most → IsToldIn bytes most (wanted bytes n)
wanted_told bytes most n few =
    elim (leb_tells n (length bytes)) [
      | inl enough ↦ subst (λ (o : Option DumpFault). IsToldIn bytes most o) (sym (wanted-there bytes n enough.1)) tt
      | inr short ↦
          let less : length bytes < n = short.1 in
          let all : length bytes ≤ length bytes = omega arith in
          let within : length bytes ≤ most = omega (arith, less, few) in
          subst (λ (o : Option DumpFault). IsToldIn bytes most o) (sym (wanted-short bytes n less)) (all, within)
    ]

there : (bytes : List ℕ) (n : ℕ) → wanted bytes n ≡ None → n ≤ length bytes
there bytes n none = leb-true n (length bytes) (unless-none (nat_le n (length bytes)) Short (length bytes) none)

-- a test that is made once the first k bytes are read
unless_told : (bytes : List ℕ) (most : ℕ) (test : Bool) (kind : DumpKind) (place k : ℕ) → told_by bytes kind place ≡ k → k ≤ length bytes → k ≤ most → IsToldIn bytes most (unless test kind place)
unless_told bytes most true kind place k is within few = tt
unless_told bytes most false kind place k is within few = (subst (λ (n : ℕ). n ≤ length bytes) (sym is) within, subst (λ (n : ℕ). n ≤ most) (sym is) few)

both_hold : (a b : Bool) → (a && b) ≡ true → (a ≡ true) × (b ≡ true)
both_hold true b e = (refl, e)
both_hold false b e = absurd (let no : false ≡ true = e in grind (arith, no))

in_bounds : (low high n : ℕ) (kind : DumpKind) (place : ℕ) → unless (nat_le low n && nat_le n high) kind place ≡ None → (low ≤ n) × (n ≤ high)
in_bounds low high n kind place none =
    let both = both_hold (leb low n) (leb n high) (unless-none (nat_le low n && nat_le n high) kind place none) in
    (leb-true low n both.0, leb-true n high both.1)

-- What stands before the zones.

front_told : (bytes : List ℕ) (most : ℕ) → 424 ≤ most → IsToldIn bytes most (front_fault bytes)
unfolding front_fault
front_told bytes most fits =
    let mark = is_first bytes || is_second bytes in
    let some_slots = nat_le 2 (slots bytes) && nat_le (slots bytes) 131072 in
    let some_zones = nat_le 1 (zone_count bytes) && nat_le (zone_count bytes) 16 in
    then bytes most (wanted bytes 8) _ (wanted_told bytes most 8 (omega (arith, fits)))
    (λ a. then bytes most (unless mark Magic 0) _ (unless_told bytes most mark Magic 0 8 refl (there bytes 8 a) (omega (arith, fits)))
    (λ _. then bytes most (wanted bytes 16) _ (wanted_told bytes most 16 (omega (arith, fits)))
    (λ c. then bytes most (unless some_slots Header 12) _ (unless_told bytes most some_slots Header 12 16 refl (there bytes 16 c) (omega (arith, fits)))
    (λ _. then bytes most (wanted bytes 32) _ (wanted_told bytes most 32 (omega (arith, fits)))
    (λ e. then bytes most (unless some_zones Zone 28) _ (unless_told bytes most some_zones Zone 28 32 refl (there bytes 32 e) (omega (arith, fits)))
    (λ _. then bytes most (wanted bytes 424) None (wanted_told bytes most 424 fits) (λ _. tt)))))))

zone_bounds : (bytes : List ℕ) → front_fault bytes ≡ None → (1 ≤ zone_count bytes) × (zone_count bytes ≤ 16)
unfolding front_fault
zone_bounds bytes none =
    let mark = is_first bytes || is_second bytes in
    let some_slots = nat_le 2 (slots bytes) && nat_le (slots bytes) 131072 in
    let after_mark = none-second (unless mark Magic 0) _ (none-second (wanted bytes 8) _ none) in
    let after_slots = none-second (unless some_slots Header 12) _ (none-second (wanted bytes 16) _ after_mark) in
    in_bounds 1 16 (zone_count bytes) Zone 28 (none-first _ (or_else (wanted bytes 424) None) (none-second (wanted bytes 32) _ after_slots))

-- The zones.

zones_told : (bytes : List ℕ) (most : ℕ) → zone_count bytes ≤ 16 → 552 ≤ most → IsToldIn bytes most (zones_fault bytes)
unfolding zones_fault
zones_told bytes most few fits =
    each bytes most (zone_fault bytes) 0 (zone_count bytes)
    (λ j from lt.
    then bytes most (wanted bytes (zone_byte (j + 1))) (unless (is_zone (zones bytes) j) Zone (zone_byte j))
    (wanted_told bytes most (zone_byte (j + 1)) (omega (arith, few, fits, lt)))
    (λ a.
    let read = there bytes (zone_byte (j + 1)) a in
    unless_told bytes most (is_zone (zones bytes) j) Zone (zone_byte j) (zone_byte j + 8) (told_zone bytes (zone_byte j) (omega arith)) (omega (arith, read)) (omega (arith, few, fits, lt))))

zone_right : (bytes : List ℕ) (j : ℕ) → zones_fault bytes ≡ None → j < zone_count bytes → zone_fault bytes j ≡ None
unfolding zones_fault
zone_right bytes j none lt = each_none (zone_fault bytes) 0 (zone_count bytes) j none (omega arith) (omega (arith, lt))

zones_end : (bytes : List ℕ) → 1 ≤ zone_count bytes → zones_fault bytes ≡ None → map_byte bytes ≤ length bytes
zones_end bytes some none =
    let last = zone_count bytes - 1 in
    let read = there bytes (zone_byte (last + 1)) (none-first _ _ (zone_right bytes last none (omega (arith, some)))) in
    omega (arith, read, some)

any_hardware : List (ℕ × ℕ) → Hardware
any_hardware zs = record { zones = zs; slots = 0; frame_table = 0; slot_table = 0; regions = []; ident = record { version_code = 0; names = [] }; hw_sig = 0; extents = [] }

zones_are : (bytes : List ℕ) → 1 ≤ zone_count bytes → zone_count bytes ≤ 16 → zones_fault bytes ≡ None → AreZones (zones bytes)
unfolding any_hardware
zones_are bytes some few none =
    let zs = zones bytes in
    let n = length zs in
    let size : n ≡ zone_count bytes = length-map-range_with_len (zone bytes) 0 (zone_count bytes) in
    (decides_zones (any_hardware zs)).0
    (and_from (ltb 0 n && leb n 16) (each_below n (is_zone zs))
    (and_from (ltb 0 n) (leb n 16) (lt-ltb 0 n (omega (arith, some, size))) (le-leb n 16 (omega (arith, few, size))))
    (each_all (is_zone zs) (range_with_len 0 n)
    (λ j in'.
    let below = (range-bounds 0 n j in').1 in
    unless-none (is_zone zs j) Zone (zone_byte j) (none-second (wanted bytes (zone_byte (j + 1))) _ (zone_right bytes j none (omega (arith, below, size)))))))

few_numbers : (bytes : List ℕ) → AreZones (zones bytes) → length (numbers (zones bytes)) ≤ 65536
few_numbers bytes are = let count = count_at_most (zones bytes) are in let high = top_at_most (zones bytes) are in omega (arith, count, high)

-- The file map.

extents_told : (bytes : List ℕ) (most : ℕ) → extent_byte bytes (extent_count bytes) ≤ most → IsToldIn bytes most (extents_fault bytes)
extents_told bytes most fits =
    each bytes most (extent_fault bytes) 0 (extent_count bytes)
    (λ i from lt.
    then bytes most (wanted bytes (extent_byte bytes (i + 1))) (unless (is_extent (extents bytes) i) Extent (extent_byte bytes i))
    (wanted_told bytes most (extent_byte bytes (i + 1)) (omega (arith, fits, lt)))
    (λ a.
    let read = there bytes (extent_byte bytes (i + 1)) a in
    unless_told bytes most (is_extent (extents bytes) i) Extent (extent_byte bytes i) (extent_byte bytes i + 12) (told_extent bytes (extent_byte bytes i) (omega arith)) (omega (arith, read)) (omega (arith, fits, lt))))

extents_end : (bytes : List ℕ) → 1 ≤ extent_count bytes → extents_fault bytes ≡ None → extent_byte bytes (extent_count bytes) ≤ length bytes
extents_end bytes some none =
    let last = extent_count bytes - 1 in
    let right : extent_fault bytes last ≡ None = each_none (extent_fault bytes) 0 (extent_count bytes) last none (omega arith) (omega (arith, some)) in
    let read = there bytes (extent_byte bytes (last + 1)) (none-first _ _ right) in
    omega (arith, read, some)

extent_bounds : (bytes : List ℕ) → extent_count_fault bytes ≡ None → (1 ≤ extent_count bytes) × (extent_count bytes ≤ 64)
extent_bounds bytes none = in_bounds 1 64 (extent_count bytes) Extent (map_byte bytes + 4) none

map_told : (bytes : List ℕ) (most : ℕ) → is_second bytes ≡ true → zone_count bytes ≤ 16 → 1328 ≤ most → IsToldIn bytes most (map_fault bytes)
unfolding map_fault
map_told bytes most second few fits =
    let map_at = map_byte bytes in
    let end = extent_byte bytes (extent_count bytes) in
    let last = extent_byte bytes (extent_count bytes - 1) in
    let some_extents = nat_le 1 (extent_count bytes) && nat_le (extent_count bytes) 64 in
    then bytes most (wanted bytes (map_at + 8)) _ (wanted_told bytes most (map_at + 8) (omega (arith, few, fits)))
    (λ a.
    let read = there bytes (map_at + 8) a in
    then bytes most (extent_count_fault bytes) _
    (unless_told bytes most some_extents Extent (map_at + 4) (map_at + 4 + 4) (told_extents bytes (map_at + 4) refl) (omega (arith, read)) (omega (arith, few, fits)))
    (λ b.
    let bounds = extent_bounds bytes b in
    let some = bounds.0 in
    let most_extents = bounds.1 in
    let within : end ≤ most = omega (arith, few, fits, most_extents) in
    then bytes most (or_else (extents_fault bytes) (cover_fault bytes)) (offset_fault bytes)
    (then bytes most (extents_fault bytes) (cover_fault bytes) (extents_told bytes most within)
    (λ c.
    let all_read = extents_end bytes some c in
    unless_told bytes most _ Extent last (last + 12) (told_extent bytes last (omega arith)) (omega (arith, all_read, some)) (omega (arith, within, some))))
    (λ d.
    let all_read = extents_end bytes some (none-first (extents_fault bytes) _ d) in
    unless_told bytes most _ Extent map_at end (told_offset bytes map_at refl ∙ count_second bytes second) all_read within)))

map_end : (bytes : List ℕ) → map_fault bytes ≡ None → (extent_count bytes ≤ 64) × (extent_byte bytes (extent_count bytes) ≤ length bytes)
unfolding map_fault
map_end bytes none =
    let rest = none-second (wanted bytes (map_byte bytes + 8)) _ none in
    let bounds = extent_bounds bytes (none-first (extent_count_fault bytes) _ rest) in
    (bounds.1, extents_end bytes bounds.0 (none-first (extents_fault bytes) _ (none-first _ _ (none-second (extent_count_fault bytes) _ rest))))

layout_is : (bytes : List ℕ) (b : Bool) → is_second bytes ≡ b → layout_fault bytes ≡ cond b (map_fault bytes) None
layout_is bytes b is = ap (λ (x : Bool). cond x (map_fault bytes) None) is

layout_told : (bytes : List ℕ) (most : ℕ) → zone_count bytes ≤ 16 → 1328 ≤ most → IsToldIn bytes most (layout_fault bytes)
layout_told bytes most few fits =
    elim (cases_Bool (is_second bytes)) [
      | inl second ↦ subst (λ (o : Option DumpFault). IsToldIn bytes most o) (sym (layout_is bytes true second)) (map_told bytes most second few fits)
      | inr first ↦ subst (λ (o : Option DumpFault). IsToldIn bytes most o) (sym (layout_is bytes false first)) tt
    ]

-- The number of records.

layout_end : (bytes : List ℕ) → zone_count bytes ≤ 16 → map_byte bytes ≤ length bytes → layout_fault bytes ≡ None → (count_byte bytes ≤ length bytes) × (count_byte bytes ≤ 1328)
layout_end bytes few read none =
    elim (cases_Bool (is_second bytes)) [
      | inl second ↦
          let end = map_end bytes (sym (layout_is bytes true second) ∙ none) in
          let most_extents = end.0 in
          let all_read = end.1 in
          let place = count_second bytes second in
          (omega (arith, place, all_read), omega (arith, place, few, most_extents))
      | inr first ↦ let place = count_first bytes first in (omega (arith, place, read), omega (arith, place, few))
    ]

count_told : (bytes : List ℕ) (most : ℕ) → count_byte bytes ≤ length bytes → count_byte bytes + 4 ≤ most → IsToldIn bytes most (count_fault bytes)
unfolding count_fault
count_told bytes most read fits =
    let place = count_byte bytes in
    then bytes most (unless (has_tables (hardware bytes)) Header 16) _ (unless_told bytes most (has_tables (hardware bytes)) Header 16 place refl read (omega (arith, fits)))
    (λ _. then bytes most (wanted bytes (place + 4)) _ (wanted_told bytes most (place + 4) fits)
    (λ b. then bytes most (unless (nat_le (record_count bytes) (length (numbers (zones bytes)))) Frame place) None
    (unless_told bytes most _ Frame place (place + 4) refl (there bytes (place + 4) b) fits) (λ _. tt)))

few_records : (bytes : List ℕ) → count_fault bytes ≡ None → record_count bytes ≤ length (numbers (zones bytes))
unfolding count_fault
few_records bytes none =
    leb-true (record_count bytes) (length (numbers (zones bytes)))
    (unless-none (nat_le (record_count bytes) (length (numbers (zones bytes)))) Frame (count_byte bytes)
    (none-first _ _ (none-second _ _ (none-second (unless (has_tables (hardware bytes)) Header 16) _ none))))

-- The records, and what follows them.

record_told : (zs : List (ℕ × ℕ)) (bytes : List ℕ) (before : Option ℕ) (k most : ℕ) → k + 4100 ≤ most → IsToldIn bytes most (fault_of_record zs bytes before k)
unfolding fault_of_record
record_told zs bytes before k most fits =
    then bytes most (wanted bytes (k + 4)) _ (wanted_told bytes most (k + 4) (omega (arith, fits)))
    (λ a.
    let read = there bytes (k + 4) a in
    let within : k + 4 ≤ most = omega (arith, fits) in
    then bytes most (unless (has (numbers zs) (number bytes k)) Frame k) _ (unless_told bytes most (has (numbers zs) (number bytes k)) Frame k (k + 4) refl read within)
    (λ _. then bytes most (unless (is_above before (number bytes k)) Order k) _ (unless_told bytes most (is_above before (number bytes k)) Order k (k + 4) refl read within)
    (λ _. wanted_told bytes most (k + 4100) fits)))

records_told : (zs : List (ℕ × ℕ)) (bytes : List ℕ) (first count most : ℕ) → record_byte first count ≤ most → IsToldIn bytes most (records_fault zs bytes first count)
unfolding records_fault
records_told zs bytes first count most fits =
    each bytes most (record_fault zs bytes first) 0 count
    (λ j from lt. record_told zs bytes _ (record_byte first j) most (omega (arith, fits, lt)))

end_told : (bytes : List ℕ) (k most : ℕ) → k + 1 ≤ most → IsToldIn bytes most (end_fault bytes k)
end_told bytes k most fits =
    elim (leb_tells (length bytes) k) [
      | inl over ↦ subst (λ (o : Option DumpFault). IsToldIn bytes most o) (sym (unless-true (nat_le (length bytes) k) Extra k over.0)) tt
      | inr more ↦
          let left : k < length bytes = more.1 in
          let one : k + 1 ≤ length bytes = omega (arith, left) in
          unless_told bytes most (nat_le (length bytes) k) Extra k (k + 1) refl one fits
    ]

table_told : (bytes : List ℕ) (most : ℕ) (table : Option ℕ) → length bytes ≤ most → IsToldIn bytes most (table_fault table)
table_told bytes most None fits = tt
table_told bytes most (Some p) fits = let all : length bytes ≤ length bytes = omega arith in (all, fits)

body_told : (h : Hardware) (bytes : List ℕ) (first count most : ℕ) → record_byte first count + 1 ≤ most → IsToldIn bytes most (body_fault h bytes first count)
unfolding body_fault
body_told h bytes first count most fits =
    let end = record_byte first count in
    then bytes most (records_fault h.zones bytes first count) _ (records_told h.zones bytes first count most (omega (arith, fits)))
    (λ _. then bytes most (end_fault bytes end) _ (end_told bytes end most fits)
    (λ b.
    let over = leb-true (length bytes) end (unless-none (nat_le (length bytes) end) Extra end b) in
    table_told bytes most _ (omega (arith, over, fits))))

-- All of it.

head_told : (bytes : List ℕ) (most : ℕ) → 1332 ≤ most → IsToldIn bytes most (head_fault bytes)
unfolding head_fault
head_told bytes most fits =
    then bytes most (front_fault bytes) _ (front_told bytes most (omega (arith, fits)))
    (λ a.
    let bounds = zone_bounds bytes a in
    let few = bounds.1 in
    then bytes most (zones_fault bytes) _ (zones_told bytes most few (omega (arith, fits)))
    (λ b. then bytes most (layout_fault bytes) (count_fault bytes) (layout_told bytes most few (omega (arith, fits)))
    (λ c.
    let end = layout_end bytes few (zones_end bytes bounds.0 b) c in
    let place = end.1 in
    count_told bytes most end.0 (omega (arith, place, fits)))))

head_end : (bytes : List ℕ) → head_fault bytes ≡ None → (count_byte bytes ≤ 1328) × (record_count bytes ≤ 65536)
unfolding head_fault
head_end bytes none =
    let bounds = zone_bounds bytes (none-first (front_fault bytes) _ none) in
    let after_front = none-second (front_fault bytes) _ none in
    let zones_none = none-first (zones_fault bytes) _ after_front in
    let after_zones = none-second (zones_fault bytes) _ after_front in
    let layout_none = none-first (layout_fault bytes) _ after_zones in
    let count_none = none-second (layout_fault bytes) _ after_zones in
    let count = few_records bytes count_none in
    let valid = few_numbers bytes (zones_are bytes bounds.0 bounds.1 zones_none) in
    ((layout_end bytes bounds.1 (zones_end bytes bounds.0 zones_none) layout_none).1, omega (arith, count, valid))

all_told : (bytes : List ℕ) (most : ℕ) → 1332 + 4100 * 65536 + 1 ≤ most → IsToldIn bytes most (dump_fault bytes)
unfolding dump_fault
all_told bytes most fits =
    then bytes most (head_fault bytes) _ (head_told bytes most (omega (arith, fits)))
    (λ a.
    let end = head_end bytes a in
    let place = end.0 in
    let count = end.1 in
    body_told (hardware bytes) bytes (first_record bytes) (record_count bytes) most (omega (arith, place, count, fits)))

fault_is : (o : Option DumpFault) (bytes : List ℕ) → fault_in (dump_unless o bytes) ≡ o
fault_is None bytes = refl
fault_is (Some f) bytes = refl

refused_for : (bytes : List ℕ) (f : DumpFault) → dump_of bytes ≡ Err f → dump_fault bytes ≡ Some f
unfolding dump_of
refused_for bytes f e = sym (fault_is (dump_fault bytes) bytes) ∙ ap fault_in e

told : (bytes : List ℕ) (f : DumpFault) → dump_of bytes ≡ Err f → IsToldIn bytes (1332 + 4100 * 65536 + 1) (Some f)
told bytes f e =
    let most = 1332 + 4100 * 65536 + 1 in
    subst (λ (o : Option DumpFault). IsToldIn bytes most o) (refused_for bytes f e) (all_told bytes most (omega arith))

-- A dump that is refused is read at most one byte past the largest dump: 1332 bytes, and a record of 4100 bytes for each of 65536 page frames.
pub few_bytes_of_a_refused_dump : (bytes : List ℕ) (f : DumpFault) → dump_of bytes ≡ Err f → told_by bytes f.kind f.at ≤ 1332 + 4100 * 65536 + 1
few_bytes_of_a_refused_dump bytes f e = (told bytes f e).1

-- and no further than its bytes go
pub told_within : (bytes : List ℕ) (f : DumpFault) → dump_of bytes ≡ Err f → told_by bytes f.kind f.at ≤ length bytes
told_within bytes f e = (told bytes f e).0
