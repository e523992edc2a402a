-- What is written for a machine without regions is a dump of that machine.
use Rattle.std.proofs.Common.{◌≡◌, ℕ, ◌+◌, ◌*◌, ◌/◌, ◌<◌, ◌≤◌, Bool, true, false, cond, not, leb, ◌&&◌, ◌||◌, List, [], ◌++◌, length, None, refl, sym, ap, ap₂, ◌∙◌, subst, inl, inr, length-append, arith}
use Rattle.std.specs.Prelude.{nat_lt}
use Rattle.std.proofs.lemmas.Bool.{and_from, cases_Bool, eq-eqb, le-leb}
use Rattle.std.proofs.lemmas.List.Folds.{find-append}
use Rattle.std.proofs.lemmas.List.FromFn.{get_or-map-range_with_len}
use Rattle.std.proofs.lemmas.List.Sums.{count_by-le-length, length-filter}
use Rattle.std.specs.List.{find, Contains}
use Rattle.std.specs.Option.{option_or}
use Rattle.definitions.specs.Slots.{slots_of}
use Rattle.definitions.specs.Slots as slot
use Rattle.definitions.specs.Tables.{page_flags, frame, is_saveable, owner_of}
use Rattle.definitions.specs.Zones.{numbers, top}
use Rattle.definitions.proofs.ZoneNumbers.{below_top, count_at_most, top_at_most}
use Rattle.machine.specs.HardFault.{has_tables, is_extent, is_zone}
use Rattle.machine.proofs.HardFaults.{no_fault-hardware}
use Rattle.machine.proofs.Rows.{table_below}
use Rattle.machine.proofs.TableFaults.{at_fault-faultless, find-none, of_run}
use Rattle.plain_machine.specs.Chain.{or_else}
use Rattle.plain_machine.specs.Image.{is_zeros}
use Rattle.plain_machine.specs.Machine.{frame_entry, frame_table_frames, is_slot_entry, is_table_at_fault, is_well_formed, raw_slot_entry, slot_table_frames, table_len, tables_fault, Fits, Hardware, IsHardware, IsTableFrame, Memory}
use Rattle.plain_machine.proofs.SameMemory.{entry-same, of_frame_table, of_slot_table, table_frame_valid}
use Rattle.dump_file.specs.Dump.{body_fault, cover_fault, end_fault, extent_count_fault, extent_fault, extents_fault}
use Rattle.dump_file.specs.Dump.{front_fault, head_fault, layout_fault, map_fault, records_fault, table_fault, unless}
use Rattle.dump_file.specs.Dump.{wanted, zone_fault, zones_fault}
use Rattle.dump_file.specs.Fields.{contents, count_byte, extent_byte, extent_count, extents, first_record, hardware}
use Rattle.dump_file.specs.Fields.{is_first, is_second, map_byte, number, record_byte, record_count, slots, zone_byte}
use Rattle.dump_file.specs.Fields.{zone_count, zones}
use Rattle.dump_file.specs.ReadBack.{carried_frame, carried_memory, ReadsBack}
use Rattle.dump_file.specs.Written.{dump_bytes, front_bytes, head_bytes, is_plain, layout_bytes, number_bytes, records_bytes}
use Rattle.dump_file.specs.declared.dump.DumpKind.TheVariants.{Extent, Extra, Frame, Header, Magic, Zone}
use Rattle.dump_file.proofs.Chains.{first-none, or_else-none, unless-true, wanted-there}
use Rattle.dump_file.proofs.Dumps.{all_right}
use Rattle.dump_file.proofs.ExtentFaults.{map_in_order}
use Rattle.dump_file.proofs.HeadParts.{hardware_is, last_fault, tables_fit, IsBut}
use Rattle.dump_file.proofs.Numbers.{length-number_bytes}
use Rattle.dump_file.proofs.Places.{first_stands, number_stands, second_stands, whole_stands, StandsAt}
use Rattle.dump_file.proofs.WrittenFronts.{front_stands, length-front, says_first, says_ident, says_second, HasFront}
use Rattle.dump_file.proofs.WrittenLayouts.{layout_len, layout_stands, length-layout, says_extent_count, HasLayout}
use Rattle.dump_file.proofs.WrittenRecords.{carried-valid, contents_are, kept, length-records, no_record_fault, records_stand, HasPages, HasRecords}
use Rattle.dump_file.proofs.ZoneFaults.{each_is_one}

-- What a written dump says.

record IsWritten (h : Hardware) (m : Memory) (text : List ℕ) : Type 0 where
  front : HasFront h text
  layout : HasLayout h text
  count : record_count text ≡ length (kept h.zones m)
  records : HasRecords h.zones m text (first_record text)
  size : length text ≡ first_record text + 4100 * length (kept h.zones m)

count_within : (h : Hardware) (m : Memory) → length (kept h.zones m) ≤ length (numbers h.zones)
count_within h m =
    let test : ℕ → Bool = λ p. not (is_zeros (frame m p)) in
    omega (arith, length-filter test (numbers h.zones), count_by-le-length test (numbers h.zones))

written : (h : Hardware) (m : Memory) → IsHardware h → HasPages h.zones m → IsWritten h m (dump_bytes h m)
unfolding dump_bytes head_bytes
written h m hw has =
    let text = dump_bytes h m in
    let front = front_bytes h in
    let layout = layout_bytes h in
    let n = length (kept h.zones m) in
    let count = number_bytes n in
    let records = records_bytes m (numbers h.zones) in
    let head = front ++ layout ++ count in
    let all : StandsAt text 0 (head ++ records) = whole_stands text in
    let to_count : StandsAt text 0 head = first_stands text 0 head records all in
    let two = first_stands text 0 (front ++ layout) count to_count in
    let size_front = length-front h hw.ident in
    let size_two : length (front ++ layout) ≡ 424 + layout_len h = omega (arith, length-append front layout, size_front, length-layout h) in
    let size_head : length head ≡ 424 + layout_len h + 4 = omega (arith, length-append (front ++ layout) count, size_two, length-number_bytes n) in
    let says = front_stands h text (first_stands text 0 front layout two) in
    let tells = layout_stands h text hw says (second_stands text 0 front layout 424 size_front two) in
    let place : 0 + (424 + layout_len h) ≡ count_byte text = omega (arith, tells.count_byte) in
    let behind : 0 + (424 + layout_len h + 4) ≡ first_record text = omega (arith, tells.count_byte) in
    let counted : StandsAt text (count_byte text) count = subst (λ (k : ℕ). StandsAt text k count) place (second_stands text 0 (front ++ layout) count (424 + layout_len h) size_two to_count) in
    let listed : StandsAt text (first_record text) records = subst (λ (k : ℕ). StandsAt text k records) behind (second_stands text 0 head records (424 + layout_len h + 4) size_head all) in
    let few = count_within h m in
    let low = count_at_most h.zones hw.zones in
    let high = top_at_most h.zones hw.zones in
    record {
      front = says;
      layout = tells;
      count = number_stands text (count_byte text) n (omega (arith, few, low, high)) counted;
      records = records_stand h.zones m text (first_record text) has listed;
      size = omega (arith, length-append head records, size_head, length-records h.zones m has, behind);
    }

-- The hardware.

is_hardware : (h : Hardware) (m : Memory) (text : List ℕ) → IsHardware h → h.regions ≡ [] → IsWritten h m text → h ≡ hardware text
is_hardware h m text hw none w =
    let tables = table_below h hw in
    let slots_is : slots text ≡ h.slots = number_stands text 12 h.slots (let few = hw.few_slots in omega (arith, few)) w.front.slots in
    let with_regions : List (ℕ × ℕ × ℕ) → Hardware = λ regions. record { zones = h.zones; slots = h.slots; frame_table = h.frame_table; slot_table = h.slot_table; regions = regions; ident = h.ident; hw_sig = h.hw_sig; extents = h.extents } in
    ap with_regions none
    ∙ hardware_is text h.zones h.slots h.frame_table h.slot_table h.ident h.hw_sig h.extents
    (sym w.layout.zones) (sym slots_is)
    (sym (number_stands text 16 h.frame_table (let low = tables.0 in omega (arith, low)) w.front.frame_table))
    (sym (number_stands text 20 h.slot_table (let low = tables.1 in omega (arith, low)) w.front.slot_table))
    (sym (says_ident h text hw.ident w.front))
    (sym (number_stands text 24 h.hw_sig hw.signature w.front.hw_sig))
    (sym w.layout.extents)

-- Nothing is wrong before the records.

either_mark : (a b : Bool) → b ≡ not a → (a || b) ≡ true
either_mark true b e = refl
either_mark false b e = e

between : (low high n : ℕ) → low ≤ n → n ≤ high → (leb low n && leb n high) ≡ true
between low high n from below = and_from (leb low n) (leb n high) (le-leb low n from) (le-leb n high below)

no_front_fault : (h : Hardware) (m : Memory) (text : List ℕ) → IsHardware h → IsWritten h m text → 424 ≤ length text → front_fault text ≡ None
unfolding front_fault
no_front_fault h m text hw w long =
    let first = says_first h text w.front in
    let mark : (is_first text || is_second text) ≡ true = either_mark (is_first text) (is_second text) (says_second h text w.front ∙ ap not (sym first)) in
    let slots_is : slots text ≡ h.slots = number_stands text 12 h.slots (let few = hw.few_slots in omega (arith, few)) w.front.slots in
    let some_slots = hw.some_slots in
    let few_slots = hw.few_slots in
    let some_zones = hw.zones.some in
    let few_zones = hw.zones.few in
    let count = w.layout.zone_count in
    or_else-none (wanted text 8) _ (wanted-there text 8 (omega (arith, long)))
    ∙ or_else-none (unless (is_first text || is_second text) Magic 0) _ (unless-true _ Magic 0 mark)
    ∙ or_else-none (wanted text 16) _ (wanted-there text 16 (omega (arith, long)))
    ∙ or_else-none (unless (leb 2 (slots text) && leb (slots text) 131072) Header 12) _
    (unless-true _ Header 12 (between 2 131072 (slots text) (omega (arith, slots_is, some_slots)) (omega (arith, slots_is, few_slots))))
    ∙ or_else-none (wanted text 32) _ (wanted-there text 32 (omega (arith, long)))
    ∙ or_else-none (unless (leb 1 (zone_count text) && leb (zone_count text) 16) Zone 28) _
    (unless-true _ Zone 28 (between 1 16 (zone_count text) (omega (arith, count, some_zones)) (omega (arith, count, few_zones))))
    ∙ or_else-none (wanted text 424) None (wanted-there text 424 long)

no_zone_fault : (h : Hardware) (m : Memory) (text : List ℕ) → IsHardware h → IsWritten h m text → map_byte text ≤ length text → zones_fault text ≡ None
unfolding zones_fault
no_zone_fault h m text hw w long =
    first-none (zone_fault text) 0 (zone_count text)
    (λ j from lt.
    let within : j < length h.zones = omega (arith, lt, w.layout.zone_count) in
    or_else-none (wanted text (zone_byte (j + 1))) _ (wanted-there text (zone_byte (j + 1)) (omega (arith, long, lt)))
    ∙ unless-true (is_zone (zones text) j) Zone (zone_byte j) (ap (λ (zs : List (ℕ × ℕ)). is_zone zs j) w.layout.zones ∙ each_is_one h.zones hw.zones j within))

no_map_fault : (h : Hardware) (m : Memory) (text : List ℕ) → IsHardware h → IsWritten h m text → is_plain h ≡ false → extent_byte text (length h.extents) ≤ length text → map_fault text ≡ None
unfolding map_fault
no_map_fault h m text hw w second long =
    let at = w.layout.map second in
    let some = hw.map.count.some in
    let few = hw.map.count.few in
    let count : extent_count text ≡ length h.extents = says_extent_count h text few at in
    let slots_is : slots text ≡ h.slots = number_stands text 12 h.slots (let few_slots = hw.few_slots in omega (arith, few_slots)) w.front.slots in
    let fits = (hw.map.each 0 (omega (arith, some))).fits in
    let offset : number text (map_byte text) ≡ (slot.extent_at h.extents 0).2 = number_stands text (map_byte text) (slot.extent_at h.extents 0).2 (omega (arith, fits)) at.offset in
    let each : extents_fault text ≡ None = first-none (extent_fault text) 0 (extent_count text)
    (λ i from lt.
    let within : i < length h.extents = omega (arith, lt, count) in
    or_else-none (wanted text (extent_byte text (i + 1))) _ (wanted-there text (extent_byte text (i + 1)) (omega (arith, long, within)))
    ∙ unless-true (is_extent (extents text) i) Extent (extent_byte text i) (ap (λ (es : List (ℕ × ℕ × ℕ)). is_extent es i) w.layout.extents ∙ map_in_order h.extents h.slots hw.map i within)) in
    or_else-none (wanted text (map_byte text + 8)) _ (wanted-there text (map_byte text + 8) (omega (arith, long)))
    ∙ or_else-none (extent_count_fault text) _ (unless-true _ Extent (map_byte text + 4) (between 1 64 (extent_count text) (omega (arith, count, some)) (omega (arith, count, few))))
    ∙ or_else-none (or_else (extents_fault text) (cover_fault text)) _
    (or_else-none (extents_fault text) _ each
    ∙ unless-true _ Extent _ (eq-eqb (slots_of (extents text)) (slots text) (ap slots_of w.layout.extents ∙ hw.map.covers ∙ sym slots_is)))
    ∙ unless-true _ Extent _ (eq-eqb (number text (map_byte text)) (slot.extent_at (extents text) 0).2 (offset ∙ ap (λ (es : List (ℕ × ℕ × ℕ)). (slot.extent_at es 0).2) (sym w.layout.extents)))

-- how the length of the layout is made up
len-first : (h : Hardware) → 8 * length h.zones ≤ layout_len h
unfolding layout_len
len-first h = omega arith

len-second : (h : Hardware) → is_plain h ≡ false → 8 * length h.zones + (8 + 12 * length h.extents) ≡ layout_len h
unfolding layout_len
len-second h second = ap (λ (b : Bool). 8 * length h.zones + cond b 0 (8 + 12 * length h.extents)) (sym second)

no_layout_fault : (h : Hardware) (m : Memory) (text : List ℕ) → IsHardware h → IsWritten h m text → layout_fault text ≡ None
no_layout_fault h m text hw w =
    let version = says_second h text w.front in
    elim (cases_Bool (is_plain h)) [
      | inl plain ↦ ap (λ (b : Bool). cond b (map_fault text) None) (version ∙ ap not plain)
      | inr second ↦
          ap (λ (b : Bool). cond b (map_fault text) None) (version ∙ ap not second)
          ∙ no_map_fault h m text hw w second (omega (arith, w.size, w.layout.count_byte, w.layout.zone_count, len-second h second))
    ]

no_head_fault : (h : Hardware) (m : Memory) (text : List ℕ) → IsHardware h → h.regions ≡ [] → IsWritten h m text → head_fault text ≡ None
no_head_fault h m text hw none w =
    let but : IsBut h = record { zones_are = hw.zones; some = hw.some_slots; few = hw.few_slots; none = none; map = hw.map } in
    let is = is_hardware h m text hw none w in
    let tables : has_tables (hardware text) ≡ true = ap has_tables (sym is) ∙ tables_fit h but (no_fault-hardware h hw) in
    let few = count_within h m in
    let valid : length (numbers (zones text)) ≡ length (numbers h.zones) = ap (λ (zs : List (ℕ × ℕ)). length (numbers zs)) w.layout.zones in
    last_fault text
    (no_front_fault h m text hw w (omega (arith, w.size, w.layout.count_byte)))
    (no_zone_fault h m text hw w (omega (arith, w.size, w.layout.count_byte, w.layout.zone_count, len-first h)))
    (no_layout_fault h m text hw w)
    (unless-true (has_tables (hardware text)) Header 16 tables)
    (wanted-there text (count_byte text + 4) (omega (arith, w.size)))
    ∙ or_else-none (unless (leb (record_count text) (length (numbers (zones text)))) Frame (count_byte text)) None
    (unless-true _ Frame (count_byte text) (le-leb (record_count text) (length (numbers (zones text))) (omega (arith, w.count, valid, few))))

-- The tables that are read back fit too.

frame-carried : (h : Hardware) (m : Memory) (p : ℕ) → IsHardware h → Contains (numbers h.zones) p → frame (carried_memory h m) p ≡ frame m p
unfolding carried_memory
frame-carried h m p hw in' =
    let place : 0 + p ≡ p = omega arith in
    get_or-map-range_with_len (carried_frame h m) 0 (top h.zones) p p [] (below_top h.zones p hw.zones.apart in') place ∙ carried-valid h m p in'

entry-carried : (h : Hardware) (m : Memory) (p : ℕ) → IsHardware h → Contains (numbers h.zones) p → frame_entry h (carried_memory h m) p ≡ frame_entry h m p
entry-carried h m p hw in' =
    entry-same m (carried_memory h m) h.frame_table p
    (frame-carried h m (h.frame_table + p / 1024) hw (table_frame_valid h (h.frame_table + p / 1024) hw (inl (of_frame_table h p hw in'))))

slot-carried : (h : Hardware) (m : Memory) (s : ℕ) → IsHardware h → s < h.slots → raw_slot_entry h (carried_memory h m) s ≡ raw_slot_entry h m s
slot-carried h m s hw lt =
    entry-same m (carried_memory h m) h.slot_table s
    (frame-carried h m (h.slot_table + s / 1024) hw (table_frame_valid h (h.slot_table + s / 1024) hw (inr (of_slot_table h s lt))))

faultless : (h : Hardware) (m : Memory) (f : ℕ) → IsHardware h → Fits h m → IsTableFrame h f → is_table_at_fault h (carried_memory h m) f ≡ false
faultless h m f hw fits of =
    let own = entry-carried h m f hw (table_frame_valid h f hw of) in
    at_fault-faultless h (carried_memory h m) f
    (record {
      saveable = ap (λ (e : ℕ). is_saveable (page_flags e)) own ∙ (fits.tables f of).0;
      no_owner = ap owner_of own ∙ (fits.tables f of).1;
      entries = λ p in' at. ap is_well_formed (entry-carried h m p hw in') ∙ fits.entries p in';
      slots = λ s lt at. ap (is_slot_entry s) (slot-carried h m s hw lt) ∙ fits.slots s lt;
    })

none_of_both : (test : ℕ → Bool) (xs ys : List ℕ) (b : Bool) → find test xs ≡ None → find test ys ≡ None → find test (cond b (xs ++ ys) (ys ++ xs)) ≡ None
none_of_both test xs ys true x y = find-append test xs ys ∙ ap₂ option_or x y
none_of_both test xs ys false x y = find-append test ys xs ∙ ap₂ option_or y x

no_table_fault : (h : Hardware) (m : Memory) → IsHardware h → Fits h m → tables_fault h (carried_memory h m) ≡ None
no_table_fault h m hw fits =
    let test = is_table_at_fault h (carried_memory h m) in
    none_of_both test (frame_table_frames h) (slot_table_frames h) (nat_lt h.frame_table h.slot_table)
    (find-none test h.frame_table (table_len (top h.zones)) (λ i lt. faultless h m (h.frame_table + i) hw fits (inl (of_run h.frame_table (top h.zones) i lt))))
    (find-none test h.slot_table (table_len h.slots) (λ i lt. faultless h m (h.slot_table + i) hw fits (inr (of_run h.slot_table h.slots i lt))))

-- Nothing is wrong in the records and after them.

contents_back : (h : Hardware) (m : Memory) (text : List ℕ) → IsWritten h m text → contents text (first_record text) (record_count text) (top h.zones) ≡ carried_memory h m
contents_back h m text w =
    ap (λ (n : ℕ). contents text (first_record text) n (top h.zones)) w.count ∙ contents_are h m text (first_record text) w.records

no_body_fault : (h : Hardware) (m : Memory) (text : List ℕ) → IsHardware h → Fits h m → HasPages h.zones m → IsWritten h m text → body_fault h text (first_record text) (record_count text) ≡ None
unfolding body_fault
no_body_fault h m text hw fits has w =
    let first = first_record text in
    let n = record_count text in
    or_else-none (records_fault h.zones text first n) _
    (ap (records_fault h.zones text first) w.count ∙ no_record_fault h.zones m text first has w.records w.size)
    ∙ or_else-none (end_fault text (record_byte first n)) _
    (unless-true _ Extra (record_byte first n) (le-leb (length text) (record_byte first n) (omega (arith, w.size, w.count))))
    ∙ ap table_fault (ap (tables_fault h) (contents_back h m text w) ∙ no_table_fault h m hw fits)

-- what is written of a machine reads back: its hardware, and its page frames
pub reads_back : (h : Hardware) (m : Memory) → IsHardware h → h.regions ≡ [] → Fits h m → ReadsBack h m (dump_bytes h m)
reads_back h m hw none fits =
    let text = dump_bytes h m in
    let has : HasPages h.zones m = record { are = hw.zones; pages = fits.pages; size = fits.size } in
    let w = written h m hw has in
    all_right text h (first_record text) (record_count text) (carried_memory h m)
    (record { no_fault = no_head_fault h m text hw none w; hw_is = is_hardware h m text hw none w; first_is = refl; count_is = refl })
    (no_body_fault h m text hw fits has w)
    (sym (contents_back h m text w))
