-- Tables that are set in a memory over which saved pages were laid.
use Rattle.std.proofs.Common.{◌≡◌, ◌+◌, ◌<◌, ◌≤◌, ◌/◌, ◌^◌, ◌⊎◌, ◌&&◌, ℕ, Bool, true, false, not, cond, inl, inr, List, length, refl, sym, ap, subst, ◌∙◌, ⊎_elim, arith}
use Rattle.std.specs.Prelude.{Ok}
use Rattle.std.specs.List.{All, Contains, range_with_len}
use Rattle.definitions.specs.Bytes.{IsPage}
use Rattle.definitions.specs.Tables.{HasTable, frame, is_saveable, owner_of, page_flags, table_frame_count}
use Rattle.definitions.specs.Zones.{numbers, top}
use Rattle.definitions.proofs.ZoneNumbers.{Contains-range, below_top, range-bounds}
use Rattle.machine.specs.FreshSlots.{slot_of_area}
use Rattle.machine.proofs.Rows.{frame_table_fits, slot_table_fits}
use Rattle.plain_machine.specs.FreshMemory.{with_each_entry}
use Rattle.plain_machine.specs.Machine.{Fits, Hardware, IsHardware, IsOfTable, Memory, frame_entry, is_slot_entry, is_table_frame, is_well_formed, raw_slot_entry, table_len}
use Rattle.plain_machine.proofs.EachEntry.{IsPage-each, entry_at-each, frame-each_other, length-each}
use Rattle.plain_machine.proofs.Fresh.{table_frame-test}
use Rattle.plain_machine.proofs.SameMemory.{entry-same, of_frame_table, table_frame_valid}
use Rattle.image_format.specs.declared.signature.area.Area.{Area}
use Rattle.image_machine.specs.Machines.{entry_with}
use Rattle.image_machine.specs.Rows.{is_unsaved}
use Rattle.image_machine.proofs.Slots.{slots_small, slots_well}

entry_small : (b : Bool) → cond b 1 0 < 2 ^ 32
entry_small true = omega arith
entry_small false = omega arith

entry_well : (b : Bool) → is_well_formed (cond b 1 0) ≡ true
entry_well true = refl
entry_well false = refl

small : (h : Hardware) (saved : List ℕ) (p : ℕ) → entry_with h saved p < 2 ^ 32
unfolding entry_with
small h saved p = entry_small (is_unsaved h.zones saved p && not (is_table_frame h p))

pub well : (h : Hardware) (saved : List ℕ) (p : ℕ) → is_well_formed (entry_with h saved p) ≡ true
unfolding entry_with
well h saved p = entry_well (is_unsaved h.zones saved p && not (is_table_frame h p))

-- the entry of a page frame of the tables
and_not : (a : Bool) → (a && not true) ≡ false
and_not true = refl
and_not false = refl

pub entry-table : (h : Hardware) (saved : List ℕ) (p : ℕ) → is_table_frame h p ≡ true → entry_with h saved p ≡ 0
unfolding entry_with
entry-table h saved p e =
    ap (λ (b : Bool). cond (is_unsaved h.zones saved p && not b) 1 0) e
    ∙ ap (λ (b : Bool). cond b 1 0) (and_not (is_unsaved h.zones saved p))

below_range : (n k : ℕ) → Contains (range_with_len 0 n) k → k < n
below_range n k in' = let bounds = range-bounds 0 n k in' in omega (arith, bounds.1)

-- memory whose frame table is set, and then the whole
abbrev pub framed : Hardware → List ℕ → Memory → Memory
framed h saved m = with_each_entry (entry_with h saved) (range_with_len 0 (top h.zones)) h.frame_table m

abbrev pub tabled : Hardware → (ℕ → ℕ) → List ℕ → Memory → Memory
tabled h slots saved m = with_each_entry slots (range_with_len 0 h.slots) h.slot_table (framed h saved m)

module _ (h : Hardware) (slots : ℕ → ℕ) (saved : List ℕ) (m : Memory) (hw : IsHardware h) (pages : All IsPage m) (size : length m ≡ top h.zones) where
  pages-framed : All IsPage (framed h saved m)
  pages-framed = IsPage-each (entry_with h saved) (range_with_len 0 (top h.zones)) h.frame_table m pages

  pub pages-tabled : All IsPage (tabled h slots saved m)
  pages-tabled = IsPage-each slots (range_with_len 0 h.slots) h.slot_table (framed h saved m) pages-framed

  size-framed : length (framed h saved m) ≡ top h.zones
  size-framed = length-each (entry_with h saved) (range_with_len 0 (top h.zones)) h.frame_table m ∙ size

  pub size-tabled : length (tabled h slots saved m) ≡ top h.zones
  size-tabled = length-each slots (range_with_len 0 h.slots) h.slot_table (framed h saved m) ∙ size-framed

  has_frame_table : HasTable m h.frame_table (top h.zones)
  has_frame_table = let fits = frame_table_fits h (top h.zones) hw (omega arith) in omega (arith, fits, size)

  has_slot_table : HasTable (framed h saved m) h.slot_table h.slots
  has_slot_table = let fits = slot_table_fits h hw in omega (arith, fits, size-framed)

  entry-framed : (p : ℕ) → p < top h.zones → frame_entry h (framed h saved m) p ≡ entry_with h saved p
  entry-framed p lt =
      entry_at-each (entry_with h saved) (top h.zones) (range_with_len 0 (top h.zones)) h.frame_table m p pages has_frame_table
      (λ k in'. (below_range (top h.zones) k in', small h saved k)) (Contains-range 0 (top h.zones) p (omega arith) (omega arith))

  -- the slot table leaves the page frames outside it, and so the frame table
  outside_slots : (f : ℕ) → IsOfTable h.frame_table (top h.zones) f → (f < h.slot_table) ⊎ (h.slot_table + table_frame_count h.slots ≤ f)
  outside_slots f of =
      let low = of.from in
      let high = of.below in
      ⊎_elim (λ (le : h.frame_table + table_len (top h.zones) ≤ h.slot_table). inl (omega arith))
      (λ (le : h.slot_table + table_len h.slots ≤ h.frame_table). inr (omega arith)) hw.apart

  frame-slots : (p : ℕ) → (p < h.slot_table) ⊎ (h.slot_table + table_frame_count h.slots ≤ p) → frame (tabled h slots saved m) p ≡ frame (framed h saved m) p
  frame-slots p outside =
      frame-each_other slots h.slots (range_with_len 0 h.slots) h.slot_table (framed h saved m) p (λ k in'. below_range h.slots k in') outside

  pub entry-tabled : (p : ℕ) → Contains (numbers h.zones) p → frame_entry h (tabled h slots saved m) p ≡ entry_with h saved p
  entry-tabled p in' =
      entry-same (framed h saved m) (tabled h slots saved m) h.frame_table p
      (frame-slots (h.frame_table + p / 1024) (outside_slots (h.frame_table + p / 1024) (of_frame_table h p hw in')))
      ∙ entry-framed p (below_top h.zones p hw.zones.apart in')

  pub slot-tabled : (s : ℕ) → s < h.slots → ((k : ℕ) → slots k < 2 ^ 32) → raw_slot_entry h (tabled h slots saved m) s ≡ slots s
  slot-tabled s lt few =
      entry_at-each slots h.slots (range_with_len 0 h.slots) h.slot_table (framed h saved m) s pages-framed has_slot_table
      (λ k in'. (below_range h.slots k in', few k)) (Contains-range 0 h.slots s (omega arith) (omega arith))

  -- a page frame outside both tables has the page from before
  pub frame-tabled : (p : ℕ) → (p < h.frame_table) ⊎ (h.frame_table + table_frame_count (top h.zones) ≤ p) →
      (p < h.slot_table) ⊎ (h.slot_table + table_frame_count h.slots ≤ p) → frame (tabled h slots saved m) p ≡ frame m p
  frame-tabled p outside_frames outside =
      frame-slots p outside
      ∙ frame-each_other (entry_with h saved) (top h.zones) (range_with_len 0 (top h.zones)) h.frame_table m p
      (λ k in'. below_range (top h.zones) k in') outside_frames

  pub fits-tabled : (area : Area) → slots ≡ slot_of_area (Ok area) → Fits h (tabled h slots saved m)
  fits-tabled area is = record {
    pages = pages-tabled;
    size = size-tabled;
    entries = λ p in'. ap is_well_formed (entry-tabled p in') ∙ well h saved p;
    tables = λ f of.
        let e = entry-tabled f (table_frame_valid h f hw of) ∙ entry-table h saved f (table_frame-test h f of) in
        (ap (λ (v : ℕ). is_saveable (page_flags v)) e, ap owner_of e);
    slots = λ s lt.
        ap (is_slot_entry s) (slot-tabled s lt (subst (λ (e : ℕ → ℕ). (k : ℕ) → e k < 2 ^ 32) (sym is) (slots_small area)))
        ∙ subst (λ (e : ℕ → ℕ). is_slot_entry s (e s) ≡ true) (sym is) (slots_well area s);
  }
