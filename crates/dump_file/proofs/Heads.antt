-- What stands before the records, part by part.
use Rattle.std.proofs.Common.{◌≡◌, ℕ, ◌+◌, ◌*◌, ◌&&◌, ◌||◌, Bool, true, false, leb, List, cond, length, Some, None, sym, ap, ◌∙◌}
use Rattle.std.specs.Prelude.{nat_le}
use Rattle.definitions.specs.Zones.{numbers}
use Rattle.machine.specs.HardFault.{has_tables}
use Rattle.plain_machine.specs.Chain.{or_else}
use Rattle.plain_machine.specs.Machine.{Hardware}
use Rattle.dump_file.specs.Dump.{count_fault, front_fault, head_fault, layout_fault, map_fault, unless, wanted, zones_fault}
use Rattle.dump_file.specs.Fields.{count_byte, extents, hardware, ident, is_first, is_second, map_byte, number, record_count, slots, zone_count, zones}
use Rattle.dump_file.specs.Reading.{front_of, hardware_by, mark_fault, record_count_fault, slots_fault, zone_count_fault, HasMap, IsMade}
use Rattle.dump_file.specs.declared.dump.DumpFault.{DumpFault}
use Rattle.dump_file.specs.declared.dump.DumpKind.TheVariants.{Frame, Header, Magic, Zone}
use Rattle.dump_file.specs.declared.front.Front.{Front}
use Rattle.dump_file.proofs.Chains.{or_else-end, or_else-more, or_else-none, or_else-some, unless-false, unless-true}

-- What stands before the zones.

front_parts : (bytes : List ℕ) → front_fault bytes ≡ or_else (mark_fault bytes) (or_else (slots_fault bytes) (or_else (zone_count_fault bytes) (wanted bytes 424)))
unfolding front_fault
front_parts bytes =
    let mark = unless (is_first bytes || is_second bytes) Magic 0 in
    let some_slots = unless (nat_le 2 (slots bytes) && nat_le (slots bytes) 131072) Header 12 in
    let some_zones = unless (nat_le 1 (zone_count bytes) && nat_le (zone_count bytes) 16) Zone 28 in
    let last = wanted bytes 424 in
    let rest = or_else (zone_count_fault bytes) last in
    sym (or_else-more (wanted bytes 8) mark (or_else (slots_fault bytes) rest)
    ∙ ap (λ o. or_else (wanted bytes 8) (or_else mark o))
    (or_else-more (wanted bytes 16) some_slots rest
    ∙ ap (λ o. or_else (wanted bytes 16) (or_else some_slots o))
    (or_else-more (wanted bytes 32) some_zones last ∙ ap (λ o. or_else (wanted bytes 32) (or_else some_zones o)) (sym (or_else-end last)))))

pub front_mark : (bytes : List ℕ) (f : DumpFault) → mark_fault bytes ≡ Some f → front_fault bytes ≡ Some f
front_mark bytes f e = front_parts bytes ∙ or_else-some (mark_fault bytes) _ f e

pub front_slots : (bytes : List ℕ) (f : DumpFault) → mark_fault bytes ≡ None → slots_fault bytes ≡ Some f → front_fault bytes ≡ Some f
front_slots bytes f a e = front_parts bytes ∙ or_else-none (mark_fault bytes) _ a ∙ or_else-some (slots_fault bytes) _ f e

front_rest : (bytes : List ℕ) → mark_fault bytes ≡ None → slots_fault bytes ≡ None → front_fault bytes ≡ or_else (zone_count_fault bytes) (wanted bytes 424)
front_rest bytes a b = front_parts bytes ∙ or_else-none (mark_fault bytes) _ a ∙ or_else-none (slots_fault bytes) _ b

pub front_zones : (bytes : List ℕ) (f : DumpFault) → mark_fault bytes ≡ None → slots_fault bytes ≡ None → zone_count_fault bytes ≡ Some f → front_fault bytes ≡ Some f
front_zones bytes f a b e = front_rest bytes a b ∙ or_else-some (zone_count_fault bytes) _ f e

pub front_names : (bytes : List ℕ) → mark_fault bytes ≡ None → slots_fault bytes ≡ None → zone_count_fault bytes ≡ None → front_fault bytes ≡ wanted bytes 424
front_names bytes a b e = front_rest bytes a b ∙ or_else-none (zone_count_fault bytes) _ e

make : Bool → ℕ × ℕ → ℕ × ℕ → ℕ × ℕ → List (List ℕ) → Front
make b p q r names = record { is_second = b; ident = record { version_code = p.0; names = names }; slots = p.1; frame_table = q.0; slot_table = q.1; hw_sig = r.0; zone_count = r.1 }

pub front_is : (bytes : List ℕ) (b : Bool) (p q r : ℕ × ℕ) (names : List (List ℕ)) → b ≡ is_second bytes → p ≡ (number bytes 8, slots bytes) → q ≡ (number bytes 16, number bytes 20) → r ≡ (number bytes 24, zone_count bytes) → names ≡ (ident bytes).names → ◌≡◌ {A = Front} (record { is_second = b; ident = record { version_code = p.0; names = names }; slots = p.1; frame_table = q.0; slot_table = q.1; hw_sig = r.0; zone_count = r.1 }) (front_of bytes)
unfolding make front_of
front_is bytes b p q r names b_is p_is q_is r_is names_are =
    let code : ℕ × ℕ = (number bytes 8, slots bytes) in
    let tables : ℕ × ℕ = (number bytes 16, number bytes 20) in
    let last : ℕ × ℕ = (number bytes 24, zone_count bytes) in
    ap (λ (x : Bool). make x p q r names) b_is
    ∙ ap (λ (x : ℕ × ℕ). make (is_second bytes) x q r names) p_is
    ∙ ap (λ (x : ℕ × ℕ). make (is_second bytes) code x r names) q_is
    ∙ ap (λ (x : ℕ × ℕ). make (is_second bytes) code tables x names) r_is
    ∙ ap (λ (x : List (List ℕ)). make (is_second bytes) code tables last x) names_are

pub front_zone_count : (bytes : List ℕ) (front : Front) → front ≡ front_of bytes → front.zone_count ≡ zone_count bytes
unfolding front_of
front_zone_count bytes front is = ap (λ (x : Front). x.zone_count) is

pub front_second : (bytes : List ℕ) (front : Front) → front ≡ front_of bytes → front.is_second ≡ is_second bytes
unfolding front_of
front_second bytes front is = ap (λ (x : Front). x.is_second) is

pub front_slot_count : (bytes : List ℕ) (front : Front) → front ≡ front_of bytes → front.slots ≡ slots bytes
unfolding front_of
front_slot_count bytes front is = ap (λ (x : Front). x.slots) is

pub front_map : (bytes : List ℕ) (front : Front) (n : ℕ) → front ≡ front_of bytes → n ≡ front.zone_count → 424 + 8 * n ≡ map_byte bytes
front_map bytes front n is n_is = ap (λ (k : ℕ). 424 + 8 * k) (n_is ∙ front_zone_count bytes front is)

pub has_map : (bytes : List ℕ) (front : Front) (n : ℕ) → front ≡ front_of bytes → n ≡ front.zone_count → front.is_second ≡ true → HasMap bytes (424 + 8 * n) front.slots
has_map bytes front n is n_is second = record {
  second = sym (front_second bytes front is) ∙ second;
  map_is = front_map bytes front n is n_is;
  slots_are = front_slot_count bytes front is;
}

pub layout_second : (bytes : List ℕ) (front : Front) → front ≡ front_of bytes → front.is_second ≡ true → layout_fault bytes ≡ map_fault bytes
layout_second bytes front is second = ap (λ (b : Bool). cond b (map_fault bytes) None) (sym (front_second bytes front is) ∙ second)

pub layout_first : (bytes : List ℕ) (front : Front) → front ≡ front_of bytes → front.is_second ≡ false → layout_fault bytes ≡ None
layout_first bytes front is first = ap (λ (b : Bool). cond b (map_fault bytes) None) (sym (front_second bytes front is) ∙ first)

-- the hardware that was put together
pub made : (bytes : List ℕ) (front : Front) (zs : List (ℕ × ℕ)) (es : List (ℕ × ℕ × ℕ)) → front ≡ front_of bytes → zs ≡ zones bytes → es ≡ extents bytes → hardware_by front zs es ≡ hardware bytes
unfolding front_of hardware
made bytes front zs es front_is zs_are es_are =
    ap (λ (x : Front). hardware_by x zs es) front_is
    ∙ ap (λ (x : List (ℕ × ℕ)). hardware_by (front_of bytes) x es) zs_are
    ∙ ap (λ (x : List (ℕ × ℕ × ℕ)). hardware_by (front_of bytes) (zones bytes) x) es_are

-- What stands before the records.

pub head_front : (bytes : List ℕ) (f : DumpFault) → front_fault bytes ≡ Some f → head_fault bytes ≡ Some f
unfolding head_fault
head_front bytes f e = or_else-some (front_fault bytes) _ f e

pub head_zones : (bytes : List ℕ) (f : DumpFault) → front_fault bytes ≡ None → zones_fault bytes ≡ Some f → head_fault bytes ≡ Some f
unfolding head_fault
head_zones bytes f a e = or_else-none (front_fault bytes) _ a ∙ or_else-some (zones_fault bytes) _ f e

head_rest : (bytes : List ℕ) → front_fault bytes ≡ None → zones_fault bytes ≡ None → head_fault bytes ≡ or_else (layout_fault bytes) (count_fault bytes)
unfolding head_fault
head_rest bytes a b = or_else-none (front_fault bytes) _ a ∙ or_else-none (zones_fault bytes) _ b

pub head_layout : (bytes : List ℕ) (f : DumpFault) → front_fault bytes ≡ None → zones_fault bytes ≡ None → layout_fault bytes ≡ Some f → head_fault bytes ≡ Some f
head_layout bytes f a b e = head_rest bytes a b ∙ or_else-some (layout_fault bytes) _ f e

count_parts : (bytes : List ℕ) → count_fault bytes ≡ or_else (unless (has_tables (hardware bytes)) Header 16) (record_count_fault bytes)
unfolding count_fault
count_parts bytes =
    ap (λ o. or_else (unless (has_tables (hardware bytes)) Header 16) (or_else (wanted bytes (count_byte bytes + 4)) o))
    (or_else-end (unless (nat_le (record_count bytes) (length (numbers (zones bytes)))) Frame (count_byte bytes)))

pub head_tables : (bytes : List ℕ) → front_fault bytes ≡ None → zones_fault bytes ≡ None → layout_fault bytes ≡ None → has_tables (hardware bytes) ≡ false → head_fault bytes ≡ Some (record { kind = Header; at = 16 })
head_tables bytes a b l e =
    head_rest bytes a b ∙ or_else-none (layout_fault bytes) _ l ∙ count_parts bytes
    ∙ or_else-some (unless (has_tables (hardware bytes)) Header 16) _ (record { kind = Header; at = 16 }) (unless-false (has_tables (hardware bytes)) Header 16 e)

pub head_count : (bytes : List ℕ) → front_fault bytes ≡ None → zones_fault bytes ≡ None → layout_fault bytes ≡ None → has_tables (hardware bytes) ≡ true → head_fault bytes ≡ record_count_fault bytes
head_count bytes a b l e =
    head_rest bytes a b ∙ or_else-none (layout_fault bytes) _ l ∙ count_parts bytes
    ∙ or_else-none (unless (has_tables (hardware bytes)) Header 16) _ (unless-true (has_tables (hardware bytes)) Header 16 e)

-- the test of the number of records
pub count_is : (bytes : List ℕ) (hw : Hardware) (end count valid : ℕ) → IsMade bytes hw end → count ≡ number bytes end → valid ≡ length (numbers hw.zones) → unless (leb count valid) Frame end ≡ unless (leb (record_count bytes) (length (numbers (zones bytes)))) Frame (count_byte bytes)
unfolding hardware
count_is bytes hw end count valid h n_is valid_is =
    ap (λ (n : ℕ). unless (leb n valid) Frame end) (n_is ∙ ap (number bytes) h.end_is)
    ∙ ap (λ (n : ℕ). unless (leb (record_count bytes) n) Frame end) (valid_is ∙ ap (λ (x : Hardware). length (numbers x.zones)) h.hw_is)
    ∙ ap (unless (leb (record_count bytes) (length (numbers (zones bytes)))) Frame) h.end_is
