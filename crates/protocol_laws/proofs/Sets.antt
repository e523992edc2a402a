-- The sets and lists that a hibernation has from the page frames are those of the memory that they show.
use Rattle.std.proofs.Common.{◌≡◌, ◌≢◌, ℕ, ◌+◌, ◌/◌, ◌<◌, inl, inr, suc, Bool, true, false, cond, eqb, not, List, [], ◌∷◌, length, map, filter, zip, refl, sym, ap, ap₂, ◌∙◌, arith, Contains}
use Rattle.std.specs.List.{range_with_len}
use Rattle.std.proofs.lemmas.Bool.{cases_Bool, eqb-true, cond-false, false≢true}
use Rattle.std.proofs.lemmas.List.{length-map}
use Rattle.definitions.specs.Tables.{saveable_frames, free_frames, free_slots}
use Rattle.definitions.specs.NumberPages.{meta_of, marked_numbers}
use Rattle.definitions.specs.Tables.{frame, entry_at, page_flags, is_saveable}
use Rattle.definitions.specs.Zones.{numbers}
use Rattle.definitions.proofs.ZoneNumbers.{range-bounds}
use Rattle.plain_machine.specs.Machine.{Hardware, Memory, IsHardware, IsSameMemory, Fits, saveable, unused, frame_entry, raw_slot_entry, slot_entry, image_slot}
use Rattle.plain_machine.specs.Image.{Image, info_of_image, n_of, d_of, numbers_of, with_data, without_data, has_data, stream_of, stream_pages}
use Rattle.plain_machine.specs.Shows.{seen_frames}
use Rattle.plain_machine.proofs.Fresh.{seen-plain}
use Rattle.plain_machine.proofs.SameMemory.{filter_agree_within, same_entry, same_slot_entry, entry-same, of_frame_table, tables_apart}
use Rattle.plain_machine.proofs.Seen.{frame-seen}
use Rattle.image_laws.specs.Decoding.{IsSayable}
use Rattle.image_laws.proofs.Decoding.{is_skipped}
use Rattle.image_write.specs.Copies.{with_data as pairs_with_data, data_pages, has_data as pair_has_data}
use Rattle.image_write.specs.Writing.{stream_of_sets, AreOfImage}
use Rattle.protocol_laws.specs.Slots.{HasSets}
use Rattle.protocol_laws.specs.Memory.{ShownLists, WritesStream, ShownSlots}

-- Lists of the frame table.

shown_entry : (h : Hardware) (m frames : Memory) (p : ℕ) → IsHardware h → Fits h m → IsSameMemory h m (seen_frames h frames) → Contains (numbers h.zones) p → frame_entry h frames p ≡ frame_entry h m p
shown_entry h m frames p hw fits same in' =
    sym (entry-same frames (seen_frames h frames) h.frame_table p (frame-seen h frames (h.frame_table + p / 1024) (tables_apart h (h.frame_table + p / 1024) hw (of_frame_table h p hw in'))))
    ∙ same_entry h m (seen_frames h frames) p hw fits same in'

pub shown_saveable : (h : Hardware) (m frames : Memory) → IsHardware h → Fits h m → IsSameMemory h m (seen_frames h frames) → saveable h frames ≡ saveable h m
unfolding saveable_frames
shown_saveable h m frames hw fits same =
    filter_agree_within (λ p. is_saveable (page_flags (entry_at frames h.frame_table p))) (λ p. is_saveable (page_flags (entry_at m h.frame_table p))) (numbers h.zones)
    (λ p in'. ap (λ (entry : ℕ). is_saveable (page_flags entry)) (shown_entry h m frames p hw fits same in'))

pub shown_unused : (h : Hardware) (m frames : Memory) → IsHardware h → Fits h m → IsSameMemory h m (seen_frames h frames) → unused h frames ≡ unused h m
unfolding free_frames
shown_unused h m frames hw fits same =
    filter_agree_within (λ p. eqb (entry_at frames h.frame_table p) 1) (λ p. eqb (entry_at m h.frame_table p) 1) (numbers h.zones)
    (λ p in'. ap (λ (entry : ℕ). eqb entry 1) (shown_entry h m frames p hw fits same in'))

pub shown_lists : ShownLists
shown_lists h m frames hw fits same = (shown_saveable h m frames hw fits same, shown_unused h m frames hw fits same)

-- The free slots, where none is the image's.

free_seen : (e : ℕ) → e ≢ image_slot → eqb e 0 ≡ eqb (cond (eqb e image_slot) 0 e) 0
free_seen e ne = elim (cases_Bool (eqb e image_slot)) [
  | inl is ↦ absurd (ne (eqb-true e image_slot is))
  | inr isn't ↦ ap (λ (x : ℕ). eqb x 0) (sym (cond-false (eqb e image_slot) 0 e isn't))
]

pub shown_free_slots : ShownSlots
unfolding free_slots
shown_free_slots h m frames hw fits same plain =
    let seen : seen_frames h frames ≡ frames = seen-plain h frames plain in
    filter_agree_within (λ s. eqb (raw_slot_entry h frames s) 0) (λ s. eqb (slot_entry h m s) 0) (range_with_len 0 h.slots)
    (λ s in'.
    let bounds = range-bounds 0 h.slots s in' in
    let below = bounds.1 in
    let lt : s < h.slots = omega arith in
    let entry : raw_slot_entry h frames s ≡ raw_slot_entry h m s = ap (λ (n : Memory). raw_slot_entry h n s) (sym seen) ∙ same_slot_entry h m (seen_frames h frames) s hw fits same lt in
    ap (λ (e : ℕ). eqb e 0) entry ∙ free_seen (raw_slot_entry h m s) (λ e. plain s lt (entry ∙ e)))

-- The stream.

abbrev Saved : Type 0
Saved = ℕ × List ℕ

data_same : (f : Memory) (test : ℕ × ℕ → Bool) (keep : Saved → Bool) (xs : List Saved) (cs : List ℕ) → ((x : Saved) (c : ℕ) → Contains xs x → test (x.0, c) ≡ keep x) → map (frame f) cs ≡ map (λ saved. saved.1) xs →
    map (λ pair. frame f pair.1) (filter test (zip (map (λ saved. saved.0) xs) cs)) ≡ map (λ saved. saved.1) (filter keep xs)
data_same f test keep [] [] each pages = refl
data_same f test keep [] (c ∷ cs) each pages = refl
data_same f test keep (x ∷ xs) [] each pages = absurd (no_pages (ap length pages)) where
  no_pages : 0 ≡ suc (length (map (λ saved. saved.1) xs)) → ⊥
  no_pages e = omega arith
data_same f test keep (x ∷ xs) (c ∷ cs) each pages =
    let rest = data_same f test keep xs cs (λ y d in'. each y d (behind x xs y in')) (ap tail_of pages) in
    one_more (test (x.0, c)) (keep x) (each x c (0, omega arith, refl)) (ap head_of pages) rest where
      behind : (x : Saved) (xs : List Saved) (y : Saved) → Contains xs y → Contains (x ∷ xs) y
      behind x xs y (k, lt, e) = (suc k, omega arith, e)

      tail_of : List (List ℕ) → List (List ℕ)
      tail_of [] = []
      tail_of (p ∷ ps) = ps

      head_of : List (List ℕ) → List ℕ
      head_of [] = []
      head_of (p ∷ ps) = p

      one_more : (a b : Bool) → a ≡ b → frame f c ≡ x.1 → map (λ pair. frame f pair.1) (filter test (zip (map (λ saved. saved.0) xs) cs)) ≡ map (λ saved. saved.1) (filter keep xs) →
          map (λ pair. frame f pair.1) (cond a ((x.0, c) ∷ filter test (zip (map (λ saved. saved.0) xs) cs)) (filter test (zip (map (λ saved. saved.0) xs) cs)))
          ≡ map (λ saved. saved.1) (cond b (x ∷ filter keep xs) (filter keep xs))
      one_more true true e page rest = ap₂ (λ (p : List ℕ) (ps : List (List ℕ)). p ∷ ps) page rest
      one_more false false e page rest = rest
      one_more true false e page rest = absurd (false≢true (sym e))
      one_more false true e page rest = absurd (false≢true e)

not_not : (b : Bool) → not (not b) ≡ b
not_not true = refl
not_not false = refl

data_is : (i : Image) (f : Memory) (copies : List ℕ) → IsSayable i → map (frame f) copies ≡ map (λ saved. saved.1) i.frames → data_pages f (numbers_of i) copies (without_data i) ≡ map (λ saved. saved.1) (with_data i)
data_is i f copies say pages =
    data_same f (pair_has_data (without_data i)) (has_data i.format) i.frames copies
    (λ x c in'. ap not (is_skipped i x (has_data i.format x) say in' refl) ∙ not_not (has_data i.format x)) pages

pub stream_is : (i : Image) (f : Memory) (origs copies zeros : List ℕ) → IsSayable i → HasSets i f origs copies zeros → stream_of_sets (info_of_image i) f origs copies zeros ≡ stream_of i
stream_is i f origs copies zeros say sets =
    ap₂ (λ (os zs : List ℕ). stream_of_sets (info_of_image i) f os copies zs) sets.origs sets.zeros
    ∙ ap (stream_pages (info_of_image i) (marked_numbers (numbers_of i) (without_data i))) (data_is i f copies say sets.copies)

pub are_of_image : (i : Image) (f : Memory) (origs copies zeros : List ℕ) → IsSayable i → HasSets i f origs copies zeros → AreOfImage (info_of_image i) origs copies zeros
are_of_image i f origs copies zeros say sets =
    let first : Saved → ℕ = λ saved. saved.0 in
    let second : Saved → List ℕ = λ saved. saved.1 in
    let count : length copies ≡ n_of i = sym (length-map copies (frame f)) ∙ ap length sets.copies ∙ length-map i.frames second in
    let paired : length (pairs_with_data origs copies zeros) ≡ d_of i =
    ap₂ (λ (os zs : List ℕ). length (pairs_with_data os copies zs)) sets.origs sets.zeros
    ∙ sym (length-map (pairs_with_data (numbers_of i) copies (without_data i)) (λ pair. frame f pair.1)) ∙ ap length (data_is i f copies say sets.copies) ∙ length-map (with_data i) second in
    record {
      originals = ap length sets.origs ∙ length-map i.frames first;
      copied = count;
      pages = ap (λ (d : ℕ). d + meta_of (n_of i) + 1) (sym paired);
    }

-- The stream that is written from the sets, and that it is the image's.
pub writes_stream : WritesStream
writes_stream i m origs copies zeros say sets = (stream_is i m origs copies zeros say sets, are_of_image i m origs copies zeros say sets)
