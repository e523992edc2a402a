-- Laws of page frames with the image's slots given back.
use Rattle.std.proofs.Common.{◌≡◌, ◌≢◌, ℕ, zero, suc, ◌+◌, ◌*◌, ◌/◌, ◌%◌, inl, inr, List, [], ◌∷◌, length, refl, sym, ap, ◌∙◌, arith, eqb, set, subst}
use Rattle.std.proofs.lemmas.Bool.{cases_lt}
use Rattle.std.proofs.lemmas.List.{get_or-set_other}
use Rattle.std.specs.List.{Contains, range_with_len}
use Rattle.definitions.specs.Bytes.{with_number}
use Rattle.definitions.specs.Zones.{numbers}
use Rattle.definitions.specs.Tables.{frame, with_entry, with_entries}
use Rattle.definitions.specs.Tables.{image_slots}
use Rattle.definitions.proofs.Ascending.{Contains-head, Contains-tail}
use Rattle.definitions.proofs.FreeSlots.{image_slot}
use Rattle.definitions.proofs.ZoneNumbers.{range-bounds}
use Rattle.definitions.proofs.TableEntries.{length-with_entries, frame-with_entries_other}
use Rattle.plain_machine.specs.Machine.{Hardware, Memory, IsHardware, IsOfTable, raw_slot_entry, table_len}
use Rattle.plain_machine.specs.Shows.{seen_frames}
use Rattle.plain_machine.proofs.SameMemory.{filter_agree_within, slot_entry-set_other, of_frame_table, of_slot_table, tables_apart}

set_set : (l : Memory) (i j : ℕ) (a b : List ℕ) → i ≢ j → set (set l i a) j b ≡ set (set l j b) i a
set_set [] i j a b ne = refl
set_set (x ∷ l) zero zero a b ne = absurd (ne refl)
set_set (x ∷ l) zero (suc j) a b ne = refl
set_set (x ∷ l) (suc i) zero a b ne = refl
set_set (x ∷ l) (suc i) (suc j) a b ne = ap (λ (t : Memory). x ∷ t) (set_set l i j a b (λ e. ne (ap suc e)))

with_entry-set : (m : Memory) (table k v f : ℕ) (x : List ℕ) → f ≢ table + k / 1024 → with_entry (set m f x) table k v ≡ set (with_entry m table k v) f x
unfolding with_entry
with_entry-set m table k v f x ne =
    let g = table + k / 1024 in
    ap (λ (page : List ℕ). set (set m f x) g (with_number 4 page (4 * (k % 1024)) v)) (get_or-set_other m f g x [] (λ e. ne (sym e)))
    ∙ set_set m f g x (with_number 4 (frame m g) (4 * (k % 1024)) v) ne

with_entries-set : (m : Memory) (table : ℕ) (ks : List ℕ) (v f : ℕ) (x : List ℕ) → ((k : ℕ) → Contains ks k → f ≢ table + k / 1024) → with_entries (set m f x) table ks v ≡ set (with_entries m table ks v) f x
unfolding with_entries
with_entries-set m table [] v f x apart = refl
with_entries-set m table (k ∷ ks) v f x apart =
    ap (λ (n : Memory). with_entries n table ks v) (with_entry-set m table k v f x (apart k (Contains-head k ks)))
    ∙ with_entries-set (with_entry m table k v) table ks v f x (λ j in'. apart j (Contains-tail k ks j in'))

image_slots-set : (h : Hardware) (m : Memory) (f : ℕ) (x : List ℕ) → (IsOfTable h.slot_table h.slots f → ⊥) → image_slots h.slots h.slot_table (set m f x) ≡ image_slots h.slots h.slot_table m
unfolding image_slots
image_slots-set h m f x no_table =
    filter_agree_within (λ s. eqb (raw_slot_entry h (set m f x) s) 65536) (λ s. eqb (raw_slot_entry h m s) 65536) (range_with_len 0 h.slots)
    (λ s in'. ap (λ (entry : ℕ). eqb entry 65536) (slot_entry-set_other h m f s x no_table (let bounds = range-bounds 0 h.slots s in' in omega (arith, bounds.1))))

-- A page frame that isn't the slot table's is seen as it is, and can be set before or after.
pub seen_set : (h : Hardware) (m : Memory) (f : ℕ) (x : List ℕ) → (IsOfTable h.slot_table h.slots f → ⊥) → seen_frames h (set m f x) ≡ set (seen_frames h m) f x
seen_set h m f x no_table =
    ap (λ (ks : List ℕ). with_entries (set m f x) h.slot_table ks 0) (image_slots-set h m f x no_table)
    ∙ with_entries-set m h.slot_table (image_slots h.slots h.slot_table m) 0 f x
    (λ k in' e. no_table (subst (IsOfTable h.slot_table h.slots) (sym e) (of_slot_table h k (image_slot h.slots h.slot_table m k in').0)))

pub frame-seen : (h : Hardware) (m : Memory) (f : ℕ) → (IsOfTable h.slot_table h.slots f → ⊥) → frame (seen_frames h m) f ≡ frame m f
frame-seen h m f no_table =
    frame-with_entries_other m h.slot_table h.slots (image_slots h.slots h.slot_table m) 0 f (λ k in'. (image_slot h.slots h.slot_table m k in').0)
    (elim (cases_lt f h.slot_table) [ inl lt ↦ inl lt | inr le ↦ elim (cases_lt f (h.slot_table + table_len h.slots)) [ inl lt ↦ absurd (no_table (record { from = le; below = lt })) | inr le' ↦ inr le' ] ])

pub length-seen : (h : Hardware) (m : Memory) → length (seen_frames h m) ≡ length m
length-seen h m = length-with_entries m h.slot_table (image_slots h.slots h.slot_table m) 0

-- the frame table's entry of a page frame can be set before or after
pub seen_entry : (h : Hardware) (m : Memory) (p v : ℕ) → IsHardware h → Contains (numbers h.zones) p → seen_frames h (with_entry m h.frame_table p v) ≡ with_entry (seen_frames h m) h.frame_table p v
unfolding with_entry
seen_entry h m p v hw in' =
    let f = h.frame_table + p / 1024 in
    let no_table : IsOfTable h.slot_table h.slots f → ⊥ = tables_apart h f hw (of_frame_table h p hw in') in
    seen_set h m f (with_number 4 (frame m f) (4 * (p % 1024)) v) no_table
    ∙ ap (λ (page : List ℕ). set (seen_frames h m) f (with_number 4 page (4 * (p % 1024)) v)) (sym (frame-seen h m f no_table))
