-- Laws of fresh memory.
use Rattle.std.proofs.Common.{zero, suc, ◌*◌, cond, get_or, zero-add, ◌≡◌, ℕ, ◌+◌, ◌-◌, ◌/◌, ◌%◌, ◌^◌, ◌<◌, ◌≤◌, ◌⊎◌, inl, inr, Bool, true, false, filter, length, replicate, List, [], ◌∷◌, Option, Some, None, not, bit_and, sym, subst, refl, ap, ap₂, ◌∙◌, arith, nat_le, nat_lt, ◌&&◌, ◌||◌, eqb, ⊎_elim}
use Rattle.std.proofs.lemmas.Bool.{eqb-true, le-leb, lt-ltb, ltb-true, ltb-false, leb-true, eq-eqb, and_parts, cases_lt, false≢true}
use Rattle.std.proofs.lemmas.Nat.{and_mask}
use Rattle.std.proofs.lemmas.Option.{none-some, same_Some}
use Rattle.std.proofs.lemmas.List.{length-replicate, get_or-replicate, ext_get_or}
use Rattle.std.proofs.lemmas.List.FromFn.{length-map-range_with_len, get_or-map-range_with_len}
use Rattle.byteorder.specs.Endian.{little_bytes}
use Rattle.std.proofs.lemmas.List.Elements.{All-replicate}
use Rattle.std.proofs.lemmas.List.Folds.{Any-from_list_any, list_any_at}
use Rattle.std.specs.List.{All, Contains, find, range_with_len}
use Rattle.definitions.specs.Bytes.{IsPage, zero_page}
use Rattle.definitions.specs.Zones.{numbers, top}
use Rattle.definitions.specs.Tables.{frame, with_entries, HasTable, table_frame_count, is_free, is_saveable, page_flags}
use Rattle.definitions.specs.Tables.{owner_of}
use Rattle.definitions.specs.Tables.{image_slots}
use Rattle.definitions.proofs.Ascending.{Contains-head, Contains-tail}
use Rattle.definitions.proofs.ZoneNumbers.{below_top, top_is_next, Contains-range, range-bounds}
use Rattle.definitions.proofs.TableEntries.{with_entries-none}
use Rattle.definitions.proofs.PageBytes.{get_or-zero_page}
use Rattle.plain_machine.specs.Machine.{Hardware, Memory, IsHardware, IsRegion, Fits, IsOfTable, IsTableFrame, is_of_table, is_table_frame, is_well_formed, is_slot_entry, frame_entry, raw_slot_entry, table_len, image_slot}
use Rattle.plain_machine.specs.Shows.{seen_frames}
use Rattle.plain_machine.specs.Loader.{has}
use Rattle.plain_machine.specs.FreshMemory.{fresh_entry, fresh_frames, fresh_memory, fresh_page, table_page, frame_table_entry, slot_table_entry, region_flags, with_each_entry}
use Rattle.plain_machine.proofs.FreshPages.{byte-each, byte-each_other, is_table_page}
use Rattle.plain_machine.proofs.EachEntry.{length-each, IsPage-each, entry_at-each, frame-each_other}
use Rattle.plain_machine.proofs.SameMemory.{entry-same, of_frame_table, table_frame_valid}

pub fresh_entry-table : (h : Hardware) (p : ℕ) → is_table_frame h p ≡ true → fresh_entry h p ≡ 0
unfolding fresh_entry
fresh_entry-table h p e = ap (λ (b : Bool). cond b 0 (region_flags (find (λ r. nat_le r.0 p && nat_lt p (r.0 + r.1)) h.regions))) e

-- the region that has a page frame
abbrev region_at : Hardware → ℕ → Option (ℕ × ℕ × ℕ)
region_at h p = find (λ r. nat_le r.0 p && nat_lt p (r.0 + r.1)) h.regions

pub fresh_entry-region : (h : Hardware) (p : ℕ) → is_table_frame h p ≡ false → fresh_entry h p ≡ region_flags (region_at h p)
unfolding fresh_entry
fresh_entry-region h p e = ap (λ (b : Bool). cond b 0 (region_flags (region_at h p))) e

-- An entry of fresh memory is even flags below 128, or that of a free page frame.

found-among : (test : ℕ × ℕ × ℕ → Bool) (rs : List (ℕ × ℕ × ℕ)) (r : ℕ × ℕ × ℕ) → find test rs ≡ Some r → Contains rs r
found-among test [] r e = absurd (none-some r e)
found-among test (x ∷ rs) r e = by_test (test x) refl (found-among test rs r) where
  by_test : (b : Bool) → test x ≡ b → (find test rs ≡ Some r → Contains rs r) → Contains (x ∷ rs) r
  by_test true t among =
      let here : Some x ≡ Some r = sym (ap (λ (b : Bool). cond b (Some x) (find test rs)) t) ∙ e in
      subst (λ (y : ℕ × ℕ × ℕ). Contains (x ∷ rs) y) (same_Some x r here) (0, omega arith, refl)
  by_test false t among =
      let (j, within, is) = among (sym (ap (λ (b : Bool). cond b (Some x) (find test rs)) t) ∙ e) in
      (suc j, omega arith, is)

region_of : (h : Hardware) (r : ℕ × ℕ × ℕ) → IsHardware h → Contains h.regions r → IsRegion h r
region_of h r hw (j, within, is) = subst (IsRegion h) is (hw.regions j r within)

pub record AreFlags (e : ℕ) : Type 0 where
  pub few : e < 128
  pub even : e % 2 ≡ 0

region_flags-are : (h : Hardware) (found : Option (ℕ × ℕ × ℕ)) → ((r : ℕ × ℕ × ℕ) → found ≡ Some r → IsRegion h r) → AreFlags (region_flags found) ⊎ (region_flags found ≡ 1)
region_flags-are h None is = inr refl
region_flags-are h (Some r) is = let region = is r refl in inl (record { few = region.few_flags; even = region.even })

pub fresh_entry-one_of : (h : Hardware) (p : ℕ) → IsHardware h → AreFlags (fresh_entry h p) ⊎ (fresh_entry h p ≡ 1)
fresh_entry-one_of h p hw = by_test (is_table_frame h p) refl where
  by_test : (b : Bool) → is_table_frame h p ≡ b → AreFlags (fresh_entry h p) ⊎ (fresh_entry h p ≡ 1)
  by_test true e = let zero_is = fresh_entry-table h p e in inl (record { few = omega arith; even = ap (λ (n : ℕ). n % 2) zero_is })
  by_test false e =
      subst (λ (n : ℕ). AreFlags n ⊎ (n ≡ 1)) (sym (fresh_entry-region h p e))
      (region_flags-are h (region_at h p) (λ r found. region_of h r hw (found-among (λ r. nat_le r.0 p && nat_lt p (r.0 + r.1)) h.regions r found)))

flags-well_formed : (e : ℕ) → AreFlags e → is_well_formed e ≡ true
flags-well_formed e are =
    let few = are.few in
    let same : e % 65536 ≡ e = omega arith in
    let none : e / 65536 ≡ 0 = omega arith in
    let used : bit_and e 1 ≡ 0 = and_mask e 1 ∙ are.even in
    ap₂ (λ (flags owner : ℕ). nat_lt flags 128 && nat_le owner 64 && (not (is_free flags) || eqb e 1) && (eqb flags 0 || eqb flags 64 || eqb owner 0)) same none
    ∙ ap₂ (λ (low : Bool) (bit : ℕ). low && nat_le 0 64 && (not (not (eqb bit 0)) || eqb e 1) && (eqb e 0 || eqb e 64 || eqb 0 0)) (lt-ltb e 128 few) used
    ∙ last (eqb e 0) (eqb e 64) where
      last : (a b : Bool) → (a || b || true) ≡ true
      last true b = refl
      last false true = refl
      last false false = refl

-- the test of the tables' page frames
of_table-test : (first entries f : ℕ) → IsOfTable first entries f → is_of_table first entries f ≡ true
of_table-test first entries f of = ap₂ (λ (a b : Bool). a && b) (le-leb first f of.from) (lt-ltb f (first + table_len entries) of.below)

or_right : (b c : Bool) → c ≡ true → (b || c) ≡ true
or_right true c e = refl
or_right false c e = e

pub table_frame-test : (h : Hardware) (f : ℕ) → IsTableFrame h f → is_table_frame h f ≡ true
table_frame-test h f (inl of) = ap (λ (b : Bool). b || is_of_table h.slot_table h.slots f) (of_table-test h.frame_table (top h.zones) f of)
table_frame-test h f (inr of) = or_right (is_of_table h.frame_table (top h.zones) f) (is_of_table h.slot_table h.slots f) (of_table-test h.slot_table h.slots f of)

-- The size and the entries of fresh memory.

frame_table_within : (h : Hardware) (m : Memory) → IsHardware h → length m ≡ top h.zones → HasTable m h.frame_table (top h.zones)
frame_table_within h m hw size =
    let some = top_is_next h.zones hw.zones in
    let low = below_top h.zones (top h.zones - 1) hw.zones.apart some in
    let last = below_top h.zones (h.frame_table + (table_len (top h.zones) - 1)) hw.zones.apart (hw.frame_table (table_len (top h.zones) - 1) (omega arith)) in
    omega arith

slot_table_within : (h : Hardware) (m : Memory) → IsHardware h → length m ≡ top h.zones → HasTable m h.slot_table h.slots
slot_table_within h m hw size =
    let some = hw.some_slots in
    let last = below_top h.zones (h.slot_table + (table_len h.slots - 1)) hw.zones.apart (hw.slot_table (table_len h.slots - 1) (omega arith)) in
    omega arith

zero_page-whole : IsPage zero_page
unfolding zero_page
zero_page-whole = length-replicate {A = ℕ} 4096 0

zeros-whole : (n : ℕ) → All IsPage (replicate n zero_page)
zeros-whole n = All-replicate IsPage n zero_page zero_page-whole

-- Filling the tables one entry after another makes the same memory.

abbrev pub filled_frames : Hardware → Memory
filled_frames h = with_each_entry (fresh_entry h) (numbers h.zones) h.frame_table (replicate (top h.zones) zero_page)

abbrev pub filled_memory : Hardware → (ℕ → ℕ) → Memory
filled_memory h slots = with_each_entry slots (range_with_len 0 h.slots) h.slot_table (filled_frames h)

length-filled_frames : (h : Hardware) → length (filled_frames h) ≡ top h.zones
length-filled_frames h = length-each (fresh_entry h) (numbers h.zones) h.frame_table (replicate (top h.zones) zero_page) ∙ length-replicate (top h.zones) zero_page

pages-filled_frames : (h : Hardware) → All IsPage (filled_frames h)
pages-filled_frames h = IsPage-each (fresh_entry h) (numbers h.zones) h.frame_table (replicate (top h.zones) zero_page) (zeros-whole (top h.zones))

small_entry : (h : Hardware) (p : ℕ) → IsHardware h → fresh_entry h p < 2 ^ 32
small_entry h p hw =
    ⊎_elim (λ (are : AreFlags (fresh_entry h p)). let few = are.few in let r : fresh_entry h p < 2 ^ 32 = omega arith in r)
    (λ (e : fresh_entry h p ≡ 1). let r : fresh_entry h p < 2 ^ 32 = omega arith in r) (fresh_entry-one_of h p hw)

well_formed_entry : (h : Hardware) (p : ℕ) → IsHardware h → is_well_formed (fresh_entry h p) ≡ true
well_formed_entry h p hw = ⊎_elim (λ are. flags-well_formed (fresh_entry h p) are) (λ e. ap is_well_formed e) (fresh_entry-one_of h p hw)

entry-filled_frames : (h : Hardware) (p : ℕ) → IsHardware h → Contains (numbers h.zones) p → frame_entry h (filled_frames h) p ≡ fresh_entry h p
entry-filled_frames h p hw in' =
    entry_at-each (fresh_entry h) (top h.zones) (numbers h.zones) h.frame_table (replicate (top h.zones) zero_page) p (zeros-whole (top h.zones))
    (frame_table_within h (replicate (top h.zones) zero_page) hw (length-replicate (top h.zones) zero_page))
    (λ k in_k. (below_top h.zones k hw.zones.apart in_k, small_entry h k hw)) in'

range_below : (n k : ℕ) → Contains (range_with_len 0 n) k → k < n
range_below n k in' = let bounds = range-bounds 0 n k in' in omega (arith, bounds.1)

length-filled_memory : (h : Hardware) (slots : ℕ → ℕ) → length (filled_memory h slots) ≡ top h.zones
length-filled_memory h slots = length-each slots (range_with_len 0 h.slots) h.slot_table (filled_frames h) ∙ length-filled_frames h

frame_entry-filled_memory : (h : Hardware) (slots : ℕ → ℕ) (p : ℕ) → IsHardware h → Contains (numbers h.zones) p → frame_entry h (filled_memory h slots) p ≡ fresh_entry h p
frame_entry-filled_memory h slots p hw in' =
    let f = h.frame_table + p / 1024 in
    let of = of_frame_table h p hw in' in
    let outside : (f < h.slot_table) ⊎ (h.slot_table + table_frame_count h.slots ≤ f) =
    let low = of.from in let high = of.below in ⊎_elim (λ (le : h.frame_table + table_len (top h.zones) ≤ h.slot_table). inl (omega arith)) (λ (le : h.slot_table + table_len h.slots ≤ h.frame_table). inr (omega arith)) hw.apart in
    entry-same (filled_frames h) (with_each_entry slots (range_with_len 0 h.slots) h.slot_table (filled_frames h)) h.frame_table p
    (frame-each_other slots h.slots (range_with_len 0 h.slots) h.slot_table (filled_frames h) f (λ k in_k. range_below h.slots k in_k) outside)
    ∙ entry-filled_frames h p hw in'

slot_entry-filled_memory : (h : Hardware) (slots : ℕ → ℕ) (s : ℕ) → IsHardware h → ((k : ℕ) → slots k < 2 ^ 32) → s < h.slots → raw_slot_entry h (filled_memory h slots) s ≡ slots s
slot_entry-filled_memory h slots s hw small lt =
    entry_at-each slots h.slots (range_with_len 0 h.slots) h.slot_table (filled_frames h) s (pages-filled_frames h) (slot_table_within h (filled_frames h) hw (length-filled_frames h))
    (λ k in_k. (range_below h.slots k in_k, small k)) (Contains-range 0 h.slots s (omega arith) (omega arith))

pages-filled_memory : (h : Hardware) (slots : ℕ → ℕ) → All IsPage (filled_memory h slots)
pages-filled_memory h slots = IsPage-each slots (range_with_len 0 h.slots) h.slot_table (filled_frames h) (pages-filled_frames h)

of_table : (first entries f : ℕ) → is_of_table first entries f ≡ true → IsOfTable first entries f
of_table first entries f is =
    let both = and_parts (nat_le first f) (nat_lt f (first + table_len entries)) is in
    record { from = leb-true first f both.0; below = ltb-true f (first + table_len entries) both.1 }

zero_byte : (b : ℕ) → b < 4 → 0 ≡ get_or (little_bytes 4 0) b 0
zero_byte zero lt = refl
zero_byte (suc zero) lt = refl
zero_byte (suc (suc zero)) lt = refl
zero_byte (suc (suc (suc zero))) lt = refl
zero_byte (suc (suc (suc (suc b)))) lt = absurd (omega arith)

zero_frame : (h : Hardware) (p : ℕ) → p < top h.zones → frame (replicate (top h.zones) zero_page) p ≡ zero_page
zero_frame h p lt = get_or-replicate (top h.zones) p zero_page [] lt

not_of_table : (first entries p : ℕ) → is_of_table first entries p ≡ false → (p < first) ⊎ (first + table_frame_count entries ≤ p)
not_of_table first entries p out = elim (cases_lt p first) [
  | inl low ↦ inl low
  | inr from ↦ elim (cases_lt p (first + table_len entries)) [
    | inl below ↦ absurd (false≢true (sym out ∙ of_table-test first entries p (record { from = from; below = below })))
    | inr past ↦ inr (omega arith)
  ]
]

to_has : (ps : List ℕ) (p : ℕ) → Contains ps p → has ps p ≡ true
to_has ps p (k, lt, is) = list_any_at (λ q. eqb q p) ps k p lt (eq-eqb _ p is)

from_has : (ps : List ℕ) (p : ℕ) → has ps p ≡ true → Contains ps p
from_has ps p is =
    let any = Any-from_list_any (λ q. eqb q p) ps is in
    subst (Contains ps) (eqb-true any.1 p any.4) (any.0, any.2, any.3)

-- a page frame outside the frame table, and one outside both
outside_frames : (h : Hardware) (p : ℕ) → IsHardware h → p < top h.zones → is_of_table h.frame_table (top h.zones) p ≡ false → frame (filled_frames h) p ≡ zero_page
outside_frames h p hw lt out =
    frame-each_other (fresh_entry h) (top h.zones) (numbers h.zones) h.frame_table (replicate (top h.zones) zero_page) p
    (λ k in_k. below_top h.zones k hw.zones.apart in_k) (not_of_table h.frame_table (top h.zones) p out)
    ∙ zero_frame h p lt

-- entry k of a page frame of the table
place_of : (first p k : ℕ) → first ≤ p → k < 1024 → (first + (1024 * (p - first) + k) / 1024 ≡ p) × ((1024 * (p - first) + k) % 1024 ≡ k)
place_of first p k le lt = (omega arith, omega arith)

module _ (h : Hardware) (slots : ℕ → ℕ) (hw : IsHardware h) (p : ℕ) (lt : p < top h.zones) where
  frame_byte : (k b : ℕ) → h.frame_table ≤ p → k < 1024 → b < 4 → (has_it : Bool) → has (numbers h.zones) (1024 * (p - h.frame_table) + k) ≡ has_it →
      get_or (frame (filled_frames h) p) (4 * k + b) 0 ≡ get_or (little_bytes 4 (cond has_it (fresh_entry h (1024 * (p - h.frame_table) + k)) 0)) b 0
  frame_byte k b le few low true is =
      let j = 1024 * (p - h.frame_table) + k in
      let place = place_of h.frame_table p k le few in
      let zeros = replicate (top h.zones) zero_page in
      ap₂ (λ (f i : ℕ). get_or (frame (filled_frames h) f) (4 * i + b) 0) (sym place.0) (sym place.1)
      ∙ byte-each (fresh_entry h) (top h.zones) (numbers h.zones) h.frame_table zeros j b (zeros-whole (top h.zones))
      (frame_table_within h zeros hw (length-replicate (top h.zones) zero_page)) low (λ i in'. below_top h.zones i hw.zones.apart in') (from_has (numbers h.zones) j is)
  frame_byte k b le few low false is =
      let j = 1024 * (p - h.frame_table) + k in
      let place = place_of h.frame_table p k le few in
      let zeros = replicate (top h.zones) zero_page in
      ap₂ (λ (f i : ℕ). get_or (frame (filled_frames h) f) (4 * i + b) 0) (sym place.0) (sym place.1)
      ∙ byte-each_other (fresh_entry h) (top h.zones) (numbers h.zones) h.frame_table zeros j b (zeros-whole (top h.zones))
      (frame_table_within h zeros hw (length-replicate (top h.zones) zero_page)) low (λ i in'. below_top h.zones i hw.zones.apart in') (λ in'. false≢true (sym is ∙ to_has (numbers h.zones) j in'))
      ∙ ap₂ (λ (f i : ℕ). get_or (frame zeros f) (4 * i + b) 0) place.0 place.1
      ∙ ap (λ (page : List ℕ). get_or page (4 * k + b) 0) (zero_frame h p lt) ∙ get_or-zero_page (4 * k + b) (omega arith) ∙ zero_byte b low

  slot_byte : (k b : ℕ) → h.slot_table ≤ p → is_of_table h.frame_table (top h.zones) p ≡ false → k < 1024 → b < 4 → (within : Bool) → nat_lt (1024 * (p - h.slot_table) + k) h.slots ≡ within →
      get_or (frame (filled_memory h slots) p) (4 * k + b) 0 ≡ get_or (little_bytes 4 (cond within (slots (1024 * (p - h.slot_table) + k)) 0)) b 0
  slot_byte k b le out few low true is =
      let j = 1024 * (p - h.slot_table) + k in
      let place = place_of h.slot_table p k le few in
      let below = ltb-true j h.slots is in
      ap₂ (λ (f i : ℕ). get_or (frame (filled_memory h slots) f) (4 * i + b) 0) (sym place.0) (sym place.1)
      ∙ byte-each slots h.slots (range_with_len 0 h.slots) h.slot_table (filled_frames h) j b (pages-filled_frames h)
      (slot_table_within h (filled_frames h) hw (length-filled_frames h)) low (λ i in'. range_below h.slots i in') (Contains-range 0 h.slots j (omega arith) (omega arith))
  slot_byte k b le out few low false is =
      let j = 1024 * (p - h.slot_table) + k in
      let place = place_of h.slot_table p k le few in
      let past = ltb-false j h.slots is in
      ap₂ (λ (f i : ℕ). get_or (frame (filled_memory h slots) f) (4 * i + b) 0) (sym place.0) (sym place.1)
      ∙ byte-each_other slots h.slots (range_with_len 0 h.slots) h.slot_table (filled_frames h) j b (pages-filled_frames h)
      (slot_table_within h (filled_frames h) hw (length-filled_frames h)) low (λ i in'. range_below h.slots i in') (λ in'. absurd (let small = range_below h.slots j in' in omega arith))
      ∙ ap₂ (λ (f i : ℕ). get_or (frame (filled_frames h) f) (4 * i + b) 0) place.0 place.1
      ∙ ap (λ (page : List ℕ). get_or page (4 * k + b) 0) (outside_frames h p hw lt out) ∙ get_or-zero_page (4 * k + b) (omega arith) ∙ zero_byte b low

  -- the slot table leaves the page frames outside it
  past_slots : (p < h.slot_table) ⊎ (h.slot_table + table_frame_count h.slots ≤ p) → frame (filled_memory h slots) p ≡ frame (filled_frames h) p
  past_slots outside = frame-each_other slots h.slots (range_with_len 0 h.slots) h.slot_table (filled_frames h) p (λ k in_k. range_below h.slots k in_k) outside

  by_table : (of_frames of_slots : Bool) → is_of_table h.frame_table (top h.zones) p ≡ of_frames → is_of_table h.slot_table h.slots p ≡ of_slots →
      frame (filled_memory h slots) p ≡ cond of_frames (table_page h.frame_table (frame_table_entry h) p) (cond of_slots (table_page h.slot_table (slot_table_entry h slots) p) zero_page)
  by_table true of_slots here there =
      let of = of_table h.frame_table (top h.zones) p here in
      let outside : (p < h.slot_table) ⊎ (h.slot_table + table_frame_count h.slots ≤ p) =
      let from = of.from in let below = of.below in ⊎_elim (λ (le : h.frame_table + table_len (top h.zones) ≤ h.slot_table). inl (omega arith)) (λ (le : h.slot_table + table_len h.slots ≤ h.frame_table). inr (omega arith)) hw.apart in
      past_slots outside
      ∙ is_table_page h.frame_table (frame_table_entry h) p (frame (filled_frames h) p) (pages-filled_frames h p [] (let size = length-filled_frames h in omega arith))
      (λ k b few low. frame_byte k b of.from few low (has (numbers h.zones) (1024 * (p - h.frame_table) + k)) refl)
  by_table false true here there =
      let of = of_table h.slot_table h.slots p there in
      is_table_page h.slot_table (slot_table_entry h slots) p (frame (filled_memory h slots) p) (pages-filled_memory h slots p [] (let size = length-filled_memory h slots in omega arith))
      (λ k b few low. slot_byte k b of.from here few low (nat_lt (1024 * (p - h.slot_table) + k) h.slots) refl)
  by_table false false here there = past_slots (not_of_table h.slot_table h.slots p there) ∙ outside_frames h p hw lt here

  frame_is : frame (filled_memory h slots) p ≡ fresh_page h slots p
  unfolding fresh_page
  frame_is = by_table (is_of_table h.frame_table (top h.zones) p) (is_of_table h.slot_table h.slots p) refl refl

pub length-fresh_memory : (h : Hardware) (slots : ℕ → ℕ) → length (fresh_memory h slots) ≡ top h.zones
unfolding fresh_memory
length-fresh_memory h slots = length-map-range_with_len (fresh_page h slots) 0 (top h.zones)

pub filled_is_fresh : (h : Hardware) (slots : ℕ → ℕ) → IsHardware h → filled_memory h slots ≡ fresh_memory h slots
unfolding fresh_memory
filled_is_fresh h slots hw =
    ext_get_or [] (filled_memory h slots) (fresh_memory h slots) (length-filled_memory h slots ∙ sym (length-fresh_memory h slots))
    (λ p lt.
    let below : p < top h.zones = let size = length-filled_memory h slots in omega arith in
    frame_is h slots hw p below ∙ sym (get_or-map-range_with_len (fresh_page h slots) 0 (top h.zones) p p [] below (zero-add p)))

-- before the slots are set
zero_slot : (within : Bool) (b : ℕ) → b < 4 → 0 ≡ get_or (little_bytes 4 (cond within 0 0)) b 0
zero_slot true b lt = zero_byte b lt
zero_slot false b lt = zero_byte b lt

module _ (h : Hardware) (hw : IsHardware h) (p : ℕ) (lt : p < top h.zones) where
  free_slots_page : zero_page ≡ table_page h.slot_table (slot_table_entry h (λ s. 0)) p
  free_slots_page = is_table_page h.slot_table (slot_table_entry h (λ s. 0)) p zero_page zero_page-whole
      (λ k b few low. get_or-zero_page (4 * k + b) (omega arith) ∙ zero_slot (nat_lt (1024 * (p - h.slot_table) + k) h.slots) b low)

  by_frame_table : (of_frames of_slots : Bool) → is_of_table h.frame_table (top h.zones) p ≡ of_frames →
      frame (filled_frames h) p ≡ cond of_frames (table_page h.frame_table (frame_table_entry h) p) (cond of_slots (table_page h.slot_table (slot_table_entry h (λ s. 0)) p) zero_page)
  by_frame_table true of_slots here =
      let of = of_table h.frame_table (top h.zones) p here in
      is_table_page h.frame_table (frame_table_entry h) p (frame (filled_frames h) p) (pages-filled_frames h p [] (let size = length-filled_frames h in omega arith))
      (λ k b few low. frame_byte h (λ s. 0) hw p lt k b of.from few low (has (numbers h.zones) (1024 * (p - h.frame_table) + k)) refl)
  by_frame_table false true here = outside_frames h p hw lt here ∙ free_slots_page
  by_frame_table false false here = outside_frames h p hw lt here

  free_frame_is : frame (filled_frames h) p ≡ fresh_page h (λ s. 0) p
  unfolding fresh_page
  free_frame_is = by_frame_table (is_of_table h.frame_table (top h.zones) p) (is_of_table h.slot_table h.slots p) refl

pub length-fresh_frames : (h : Hardware) → length (fresh_frames h) ≡ top h.zones
unfolding fresh_frames
length-fresh_frames h = length-fresh_memory h (λ s. 0)

pub filled_frames-are_fresh : (h : Hardware) → IsHardware h → filled_frames h ≡ fresh_frames h
unfolding fresh_frames fresh_memory
filled_frames-are_fresh h hw =
    ext_get_or [] (filled_frames h) (fresh_memory h (λ s. 0)) (length-filled_frames h ∙ sym (length-fresh_memory h (λ s. 0)))
    (λ p lt.
    let below : p < top h.zones = let size = length-filled_frames h in omega arith in
    free_frame_is h hw p below ∙ sym (get_or-map-range_with_len (fresh_page h (λ s. 0)) 0 (top h.zones) p p [] below (zero-add p)))

-- the slots that are set, over fresh page frames
pub slots_filled : (h : Hardware) (slots : ℕ → ℕ) → IsHardware h → with_each_entry slots (range_with_len 0 h.slots) h.slot_table (fresh_frames h) ≡ fresh_memory h slots
slots_filled h slots hw = ap (with_each_entry slots (range_with_len 0 h.slots) h.slot_table) (sym (filled_frames-are_fresh h hw)) ∙ filled_is_fresh h slots hw

pub frame_entry-fresh_memory : (h : Hardware) (slots : ℕ → ℕ) (p : ℕ) → IsHardware h → Contains (numbers h.zones) p → frame_entry h (fresh_memory h slots) p ≡ fresh_entry h p
frame_entry-fresh_memory h slots p hw in' = ap (λ (m : Memory). frame_entry h m p) (sym (filled_is_fresh h slots hw)) ∙ frame_entry-filled_memory h slots p hw in'

pub slot_entry-fresh_memory : (h : Hardware) (slots : ℕ → ℕ) (s : ℕ) → IsHardware h → ((k : ℕ) → slots k < 2 ^ 32) → s < h.slots → raw_slot_entry h (fresh_memory h slots) s ≡ slots s
slot_entry-fresh_memory h slots s hw small lt = ap (λ (m : Memory). raw_slot_entry h m s) (sym (filled_is_fresh h slots hw)) ∙ slot_entry-filled_memory h slots s hw small lt

pages-fresh_memory : (h : Hardware) (slots : ℕ → ℕ) → IsHardware h → All IsPage (fresh_memory h slots)
pages-fresh_memory h slots hw = subst (All IsPage) (filled_is_fresh h slots hw) (pages-filled_memory h slots)

-- Fresh memory fits.
pub fits-fresh_memory : (h : Hardware) (slots : ℕ → ℕ) → IsHardware h → ((s : ℕ) → slots s < 2 ^ 32) → ((s : ℕ) → is_slot_entry s (slots s) ≡ true) → Fits h (fresh_memory h slots)
fits-fresh_memory h slots hw small well = record {
  pages = pages-fresh_memory h slots hw;
  size = length-fresh_memory h slots;
  entries = λ p in'. ap is_well_formed (frame_entry-fresh_memory h slots p hw in') ∙ well_formed_entry h p hw;
  tables = λ f of.
      let e = frame_entry-fresh_memory h slots f hw (table_frame_valid h f hw of) ∙ fresh_entry-table h f (table_frame-test h f of) in
      (ap (λ (entry : ℕ). is_saveable (page_flags entry)) e, ap owner_of e);
  slots = λ s lt. ap (is_slot_entry s) (slot_entry-fresh_memory h slots s hw small lt) ∙ well s;
}

-- a test that nothing passes keeps nothing
pub filter_none : (test : ℕ → Bool) (xs : List ℕ) → ((x : ℕ) → Contains xs x → test x ≡ false) → filter test xs ≡ []
filter_none test [] out = refl
filter_none test (x ∷ xs) out =
    ap₂ (λ (b : Bool) (ys : List ℕ). cond b (x ∷ ys) ys) (out x (Contains-head x xs)) (filter_none test xs (λ y in'. out y (Contains-tail x xs y in')))

not_true : (b : Bool) → (b ≡ true → ⊥) → b ≡ false
not_true true never = absurd (never refl)
not_true false never = refl

-- page frames without a slot of the image are seen as they are
pub seen-plain : (h : Hardware) (m : Memory) → ((s : ℕ) → s < h.slots → raw_slot_entry h m s ≡ image_slot → ⊥) → seen_frames h m ≡ m
unfolding image_slots
seen-plain h m plain =
    ap (λ (ks : List ℕ). with_entries m h.slot_table ks 0)
    (filter_none (λ s. eqb (raw_slot_entry h m s) 65536) (range_with_len 0 h.slots)
    (λ s in'. not_true (eqb (raw_slot_entry h m s) 65536) (λ t. plain s (range_below h.slots s in') (eqb-true (raw_slot_entry h m s) 65536 t))))
    ∙ with_entries-none m h.slot_table 0
