-- A writer at work for a hibernation.
use Rattle.std.proofs.Common.{◌≡◌, ◌≢◌, ℕ, ◌+◌, ◌/◌, ◌%◌, ◌<◌, inl, inr, zero-add, Bool, true, false, cond, eqb, List, [], ◌∷◌, length, get_or, map, take, drop, refl, sym, ap, ap₂, ◌∙◌, subst, arith, Contains}
use Rattle.swap_slots.specs.declared.table.SlotTable.{SlotTable}
use Rattle.std.proofs.lemmas.Bool.{cases_eq, eqb-true, cond-true, cond-false}
use Rattle.std.proofs.lemmas.List.{get_or-take, get_or-drop, get_or-map, get_or_default, length-take, length-drop, length-map}
use Rattle.std.proofs.Math.Nat.{min-le_left, min-le_right}
use Rattle.std.proofs.lemmas.List.Elements.{Contains-get_or}
use Rattle.std.proofs.lemmas.List.FromFn.{length-map-range_with_len, get_or-map-range_with_len}
use Rattle.definitions.specs.Tables.{frame}
use Rattle.definitions.specs.declared.info.Info.{Info}
use Rattle.definitions.proofs.Ascending.{Contains-nil, Contains-head, Contains-tail}
use Rattle.definitions.proofs.FreeSlots.{free_slot}
use Rattle.image_write.specs.Writing.{Writing, stream_of_sets, slots_of_write, taken_after}
use Rattle.image_write.proofs.Done.{write_at, block_of_write}
use Rattle.image_write.proofs.Places.{page_write, page_is_one}
use Rattle.plain_machine.specs.Machine.{Hardware, Memory, IsOfTable, IsSameMemory, unused_slots, raw_slot_entry, block_of_slot}
use Rattle.plain_machine.specs.Image.{Image, stream_of, pages_of, maps_of}
use Rattle.plain_machine.specs.Image.{laid, laid_block, laid_write, is_map_write, page_of_write, page_place, map_place}
use Rattle.plain_machine.specs.Shows.{ShowsHeld, seen_frames}
use Rattle.plain_machine.specs.Stands.{laid_writes, laid_blocks}
use Rattle.plain_machine.specs.State.{Running}
use Rattle.plain_machine.specs.declared.held.Held.{Held}
use Rattle.plain_machine.proofs.LaidChain.{map_has_write}
use Rattle.swap_slots.specs.Table.{free_in}
use Rattle.protocol_laws.specs.Slots.{AreFree, taken}
use Rattle.protocol_laws.specs.Writers.{IsWriterOf, ShowsStill, WritesNext}
use Rattle.protocol_laws.proofs.Laid.{count_of, length-stream_of, write_is}
use Rattle.protocol_laws.proofs.Sets.{stream_is}
use Rattle.protocol_laws.proofs.Taking.{runs_taken, names_taken, frame_taken}

unfinished : (h : Hardware) (a : Running) (i : Image) (k : ℕ) (frames : Memory) (w : Writing) → IsWriterOf h a i k frames w → k < count_of i
unfinished h a i k frames w is =
    let size = length-stream_of i in
    let maps = ap maps_of size in
    let pages : w.info.pages ≡ pages_of i = ap (λ (x : Info). x.pages) is.info in
    let all = ap maps_of pages in
    let made = is.made in
    let more = is.writing.unfinished in
    omega arith

pub writes_next : WritesNext
writes_next h a i k frames w origs copies zeros is say sets =
    let free = unused_slots h a.memory in
    let stream : stream_of_sets w.info frames origs copies zeros ≡ stream_of i = ap (λ (info : Info). stream_of_sets info frames origs copies zeros) is.info ∙ stream_is i frames origs copies zeros say sets in
    let pages : w.info.pages ≡ length (stream_of i) = ap (λ (x : Info). x.pages) is.info ∙ sym (length-stream_of i) in
    ap (λ (s : List (List ℕ)). laid_write w.extents free w.info.pages (get_or s (page_of_write w.written) []) w.written) stream
    ∙ ap (λ (e : List (ℕ × ℕ × ℕ)). laid_write e free w.info.pages (get_or (stream_of i) (page_of_write w.written) []) w.written) is.extents
    ∙ ap₂ (λ (p n : ℕ). laid_write h.extents free p (get_or (stream_of i) (page_of_write n) []) n) pages is.made
    ∙ sym (write_is h a i k (unfinished h a i k frames w is))

-- The slots that write k takes are free, and lie on blocks of the hibernation.

in_front : (xs : List ℕ) (n s : ℕ) → Contains (take n xs) s → (j : ℕ) × (j < n) × (j < length xs) × (get_or xs j 0 ≡ s)
in_front xs n s (j, lt, e) =
    let size = length-take n xs in
    let left = min-le_left n (length xs) in
    let right = min-le_right n (length xs) in
    (j, omega arith, omega arith, get_or_default xs j 0 s (omega arith) ∙ sym (get_or-take n xs j s (omega arith)) ∙ e)

-- a slot of write k: its place among the free ones
record IsPlaceOf (h : Hardware) (a : Running) (pages k s : ℕ) : Type 0 where
  page : is_map_write pages k ≡ false
  index : ℕ
  few : index < cond (eqb (k % 512) 510) 2 1
  within : taken_after k + index < length (unused_slots h a.memory)
  at : get_or (unused_slots h a.memory) (taken_after k + index) 0 ≡ s

place_in : (h : Hardware) (a : Running) (w : Writing) (k s : ℕ) (b : Bool) → is_map_write w.info.pages k ≡ b → Contains (cond b [] (take (cond (eqb (k % 512) 510) 2 1) (drop (taken_after k) (unused_slots h a.memory)))) s → IsPlaceOf h a w.info.pages k s
place_in h a w k s true e in' = absurd (Contains-nil s in')
place_in h a w k s false e in' =
    let free = unused_slots h a.memory in
    let front = in_front (drop (taken_after k) free) (cond (eqb (k % 512) 510) 2 1) s in' in
    let rest = length-drop (taken_after k) free in
    let lt = front.2 in
    let few = front.1 in
    record { page = e; index = front.0; few = front.1; within = omega arith; at = sym (get_or-drop (taken_after k) free front.0 0) ∙ front.3 }

slot_place : (h : Hardware) (a : Running) (w : Writing) (k s : ℕ) → Contains (slots_of_write w.info (unused_slots h a.memory) k) s → IsPlaceOf h a w.info.pages k s
slot_place h a w k s in' = place_in h a w k s (is_map_write w.info.pages k) refl in'

free_now : (h : Hardware) (a : Running) (i : Image) (k : ℕ) (frames : Memory) (w : Writing) (s : ℕ) → IsWriterOf h a i k frames w → Contains (slots_of_write w.info (unused_slots h a.memory) k) s → (s < h.slots) × (raw_slot_entry h frames s ≡ 0)
free_now h a i k frames w s is in' =
    let free = unused_slots h a.memory in
    let at = slot_place h a w k s in' in
    let within = at.within in
    let made : taken_after w.written ≡ taken_after k = ap taken_after is.made in
    let table : SlotTable = record { first = h.slot_table; slots = h.slots } in
    let left : free_in frames table ≡ drop (taken_after k) free = ap (free_in frames) (sym is.table) ∙ is.writing.slots.left ∙ ap (λ (n : ℕ). drop n free) made in
    let rest = length-drop (taken_after k) free in
    let there : Contains (drop (taken_after k) free) s = subst (Contains (drop (taken_after k) free)) (get_or-drop (taken_after k) free at.index 0 ∙ at.at) (Contains-get_or (drop (taken_after k) free) at.index 0 (omega arith)) in
    free_slot h.slots h.slot_table frames s (subst (λ (xs : List ℕ). Contains xs s) (sym left) there)

in_laid : (h : Hardware) (a : Running) (i : Image) (j : ℕ) → j < count_of i → Contains (laid_blocks h a i) (write_at h.extents (unused_slots h a.memory) (stream_of i) j).0
unfolding laid
in_laid h a i j lt =
    let write : ℕ → ℕ × List ℕ = write_at h.extents (unused_slots h a.memory) (stream_of i) in
    let first : ℕ × List ℕ → ℕ = λ written. written.0 in
    let size = length-map-range_with_len write 0 (count_of i) in
    let all = length-map (laid_writes h a i) first in
    subst (Contains (laid_blocks h a i)) (get_or-map first (laid_writes h a i) j (0, []) 0 (omega arith) ∙ ap first (get_or-map-range_with_len write 0 (count_of i) j j (0, []) lt (zero-add j)))
    (Contains-get_or (laid_blocks h a i) j 0 (omega arith))

block_in_laid : (h : Hardware) (a : Running) (i : Image) (k s : ℕ) → IsPlaceOf h a (length (stream_of i)) k s → k < count_of i → Contains (laid_blocks h a i) (block_of_slot h s)
block_in_laid h a i k s at lt = elim (cases_eq at.index 0) [
  | inl zero_is ↦
      let free = unused_slots h a.memory in
      let place : page_place (page_of_write k) ≡ taken_after k + at.index = omega arith in
      let block : (write_at h.extents free (stream_of i) k).0 ≡ block_of_slot h s =
      block_of_write h.extents free (length (stream_of i)) k (get_or (stream_of i) (page_of_write k) [])
      ∙ ap (laid_block h.extents free) (cond-false (is_map_write (length (stream_of i)) k) (map_place (k / 512)) (page_place (page_of_write k)) at.page ∙ place)
      ∙ ap (block_of_slot h) at.at in
      subst (Contains (laid_blocks h a i)) block (in_laid h a i k lt)
  | inr more ↦
      let free = unused_slots h a.memory in
      let few = at.few in
      let last : eqb (k % 512) 510 ≡ true = full_at (eqb (k % 512) 510) refl at.index at.few more in
      let full : k % 512 ≡ 510 = eqb-true (k % 512) 510 last in
      let second : at.index ≡ 1 = one_of_two (eqb (k % 512) 510) at.index at.few more in
      let map_of = map_has_write (length (stream_of i)) (k / 512 + 1) (next_map k (length (stream_of i)) at.page full lt) in
      let place : map_place (map_of.0 / 512) ≡ taken_after k + at.index = ap map_place map_of.1.map_is ∙ omega arith in
      let block : (write_at h.extents free (stream_of i) map_of.0).0 ≡ block_of_slot h s =
      block_of_write h.extents free (length (stream_of i)) map_of.0 (get_or (stream_of i) (page_of_write map_of.0) [])
      ∙ ap (laid_block h.extents free) (cond-true (is_map_write (length (stream_of i)) map_of.0) (map_place (map_of.0 / 512)) (page_place (page_of_write map_of.0)) map_of.1.is_map ∙ place)
      ∙ ap (block_of_slot h) at.at in
      subst (Contains (laid_blocks h a i)) block (in_laid h a i map_of.0 map_of.1.within)
] where
  full_at : (b : Bool) → eqb (k % 512) 510 ≡ b → (n : ℕ) → n < cond b 2 1 → n ≢ 0 → b ≡ true
  full_at true e n n_lt ne = refl
  full_at false e n n_lt ne = absurd (ne (omega arith))

  one_of_two : (b : Bool) (n : ℕ) → n < cond b 2 1 → n ≢ 0 → n ≡ 1
  one_of_two true n n_lt ne = omega (arith, ne)
  one_of_two false n n_lt ne = absurd (ne (omega arith))

  next_map : (k pages : ℕ) → is_map_write pages k ≡ false → k % 512 ≡ 510 → k < pages + maps_of pages → k / 512 + 1 < maps_of pages
  next_map k pages page full k_lt = let one = page_is_one pages k (page_write pages k k_lt page) in omega arith

-- What the world shows.

names_laid : (h : Hardware) (a : Running) (i : Image) (k : ℕ) (frames : Memory) (w : Writing) (s : ℕ) → IsWriterOf h a i k frames w → Contains (slots_of_write w.info (unused_slots h a.memory) k) s → Contains (laid_blocks h a i) (block_of_slot h s)
names_laid h a i k frames w s is in' =
    let pages : w.info.pages ≡ length (stream_of i) = ap (λ (x : Info). x.pages) is.info ∙ sym (length-stream_of i) in
    let lt = unfinished h a i k frames w is in
    block_in_laid h a i k s (subst (λ (p : ℕ). IsPlaceOf h a p k s) pages (slot_place h a w k s in')) lt

copies_still : (h : Hardware) (frames : Memory) (ss copies : List ℕ) → AreFree h frames ss → ((p : ℕ) → Contains copies p → IsOfTable h.slot_table h.slots p → ⊥) → map (frame (taken h frames ss)) copies ≡ map (frame frames) copies
copies_still h frames ss [] free apart = refl
copies_still h frames ss (c ∷ cs) free apart =
    ap₂ (λ (p : List ℕ) (ps : List (List ℕ)). p ∷ ps) (frame_taken h frames ss c free (apart c (Contains-head c cs))) (copies_still h frames ss cs free (λ p in'. apart p (Contains-tail c cs p in')))

pub shows_still : ShowsStill
shows_still h a i k w old new hw accepted is memory apart takes shows =
    let ss = slots_of_write w.info (unused_slots h a.memory) k in
    let free : AreFree h old.frames ss = λ s in'. free_now h a i k old.frames w s is in' in
    let runs = runs_taken h old.held old.unusable old.flights old.frames ss a memory free shows.shows in
    record {
      shows = record {
        held = subst (λ (flag : Held). ShowsHeld flag a.held) (sym takes.held) runs.held;
        unusable = runs.unusable ∙ sym takes.unusable;
        flights = λ t. runs.flights t ∙ sym (takes.flights t);
        same = subst (λ (m : Memory). IsSameMemory h a.memory (seen_frames h m)) (sym takes.frames) runs.same;
        fits = runs.fits;
      };
      names = λ s lt e. names_taken h old.frames ss (laid_blocks h a i) memory free (λ j j_lt j_e. shows.names j j_lt j_e) (λ j in'. names_laid h a i k old.frames w j is in') s lt
          (subst (λ (m : Memory). raw_slot_entry h m s ≡ 65536) takes.frames e);
      copies = ap₂ (λ (m : Memory) (cs : List ℕ). map (frame m) cs) takes.frames takes.copies ∙ copies_still h old.frames ss old.copies free apart ∙ shows.copies;
    }
