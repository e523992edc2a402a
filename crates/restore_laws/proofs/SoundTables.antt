-- Tables in which no page frame is at fault are well formed.
use Rattle.std.proofs.Common.{◌≡◌, ℕ, ◌+◌, ◌/◌, ◌<◌, ◌||◌, ◌&&◌, Bool, true, false, not, cond, eqb, ltb, List, [], ◌∷◌, ◌++◌, Some, None, Contains, refl, sym, ap, ◌∙◌, inl, inr, arith}
use Rattle.std.specs.List.{list_any, find, range_with_len}
use Rattle.std.proofs.lemmas.Bool.{cases_Bool, cond-true, cond-false, eqb-true, eq-eqb, false≢true}
use Rattle.std.proofs.lemmas.List.Elements.{Contains-append_left, Contains-append_right}
use Rattle.std.proofs.lemmas.Option.{none-some}
use Rattle.definitions.specs.Tables.{page_flags, owner_of, is_saveable}
use Rattle.definitions.specs.Zones.{numbers, top}
use Rattle.definitions.proofs.Ascending.{Contains-nil, Contains-cons_cases}
use Rattle.definitions.proofs.ZoneNumbers.{Contains-range}
use Rattle.image_read.proofs.Blocks.{any_of}
use Rattle.plain_machine.specs.Machine.{Hardware, Memory, IsTableFrame, frame_entry, raw_slot_entry, table_len, table_frames, frame_table_frames, slot_table_frames, is_table_at_fault, is_well_formed, is_slot_entry, tables_fault}
use Rattle.plain_machine.proofs.SameMemory.{of_frame_table, of_slot_table}
use Rattle.restore_laws.specs.LastReply.{SoundTablesFit}

none_passes : (test : ℕ → Bool) (xs : List ℕ) (x : ℕ) → find test xs ≡ None → Contains xs x → test x ≡ false
none_passes test [] x none in' = absurd (Contains-nil x in')
none_passes test (y ∷ ys) x none in' = elim (cases_Bool (test y)) [
  | inl met ↦ absurd (none-some y (sym none ∙ cond-true (test y) (Some y) (find test ys) met))
  | inr fails ↦ elim (Contains-cons_cases y ys x in') [
    | inl e ↦ ap test (sym e) ∙ fails
    | inr rest ↦ none_passes test ys x (sym (cond-false (test y) (Some y) (find test ys) fails) ∙ none) rest
  ]
]

none_of : (test : ℕ → Bool) (xs : List ℕ) (x : ℕ) → list_any test xs ≡ false → Contains xs x → test x ≡ false
none_of test xs x none in' = elim (cases_Bool (test x)) [
  | inl met ↦ absurd (false≢true (sym none ∙ any_of test xs x in' met))
  | inr fails ↦ fails
]

neither : (a b : Bool) → (a || b) ≡ false → (a ≡ false) × (b ≡ false)
neither true b e = absurd (false≢true (sym e))
neither false b e = (refl, e)

not_false : (b : Bool) → not b ≡ false → b ≡ true
not_false true e = refl
not_false false e = absurd (false≢true (sym e))

-- nothing is wrong with what the page frame has
meant : (a b : Bool) → a ≡ true → (a && not b) ≡ false → b ≡ true
meant true b here e = not_false b e
meant false b here e = absurd (false≢true here)

among : (h : Hardware) (b : Bool) (f : ℕ) → IsTableFrame h f → Contains (cond b (frame_table_frames h ++ slot_table_frames h) (slot_table_frames h ++ frame_table_frames h)) f
among h true f (inl of) = Contains-append_left (frame_table_frames h) (slot_table_frames h) f (Contains-range h.frame_table (table_len (top h.zones)) f of.from of.below)
among h true f (inr of) = Contains-append_right (frame_table_frames h) (slot_table_frames h) f (Contains-range h.slot_table (table_len h.slots) f of.from of.below)
among h false f (inl of) = Contains-append_right (slot_table_frames h) (frame_table_frames h) f (Contains-range h.frame_table (table_len (top h.zones)) f of.from of.below)
among h false f (inr of) = Contains-append_left (slot_table_frames h) (frame_table_frames h) f (Contains-range h.slot_table (table_len h.slots) f of.from of.below)

-- What a table frame without a fault has.
record IsSound (h : Hardware) (m : Memory) (f : ℕ) : Type 0 where
  saveable : is_saveable (page_flags (frame_entry h m f)) ≡ true
  owner : owner_of (frame_entry h m f) ≡ 0
  entries : (p : ℕ) → Contains (numbers h.zones) p → h.frame_table + p / 1024 ≡ f → is_well_formed (frame_entry h m p) ≡ true
  slots : (s : ℕ) → s < h.slots → h.slot_table + s / 1024 ≡ f → is_slot_entry s (raw_slot_entry h m s) ≡ true

is_sound : (h : Hardware) (m : Memory) (f : ℕ) → tables_fault h m ≡ None → IsTableFrame h f → IsSound h m f
is_sound h m f none of =
    let unsaved = not (is_saveable (page_flags (frame_entry h m f))) in
    let owned = not (eqb (owner_of (frame_entry h m f)) 0) in
    let bad_entry : ℕ → Bool = λ p. eqb (h.frame_table + p / 1024) f && not (is_well_formed (frame_entry h m p)) in
    let bad_slot : ℕ → Bool = λ s. eqb (h.slot_table + s / 1024) f && not (is_slot_entry s (raw_slot_entry h m s)) in
    let fine = none_passes (is_table_at_fault h m) (table_frames h) f none (among h (ltb h.frame_table h.slot_table) f of) in
    let last = neither (unsaved || owned || list_any bad_entry (numbers h.zones)) (list_any bad_slot (range_with_len 0 h.slots)) fine in
    let middle = neither (unsaved || owned) (list_any bad_entry (numbers h.zones)) last.0 in
    let first = neither unsaved owned middle.0 in
    record {
      saveable = not_false (is_saveable (page_flags (frame_entry h m f))) first.0;
      owner = eqb-true (owner_of (frame_entry h m f)) 0 (not_false (eqb (owner_of (frame_entry h m f)) 0) first.1);
      entries = λ p in' here.
          meant (eqb (h.frame_table + p / 1024) f) (is_well_formed (frame_entry h m p)) (eq-eqb (h.frame_table + p / 1024) f here)
          (none_of bad_entry (numbers h.zones) p middle.1 in');
      slots = λ s lt here.
          meant (eqb (h.slot_table + s / 1024) f) (is_slot_entry s (raw_slot_entry h m s)) (eq-eqb (h.slot_table + s / 1024) f here)
          (none_of bad_slot (range_with_len 0 h.slots) s last.1 (Contains-range 0 h.slots s (omega arith) (omega arith)));
    }

pub sound_tables_fit : SoundTablesFit
sound_tables_fit h m hw pages size none = record {
  pages = pages;
  size = size;
  entries = λ p in'. (is_sound h m (h.frame_table + p / 1024) none (inl (of_frame_table h p hw in'))).entries p in' refl;
  tables = λ f of. let sound = is_sound h m f none of in (sound.saveable, sound.owner);
  slots = λ s lt. (is_sound h m (h.slot_table + s / 1024) none (inr (of_slot_table h s lt))).slots s lt refl;
}
