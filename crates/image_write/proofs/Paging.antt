-- A page of the image is placed: its slot is taken, and its block is the next entry of the map.
use Rattle.std.proofs.Common.{◌≡◌, ℕ, ◌+◌, ◌*◌, ◌/◌, ◌%◌, ◌<◌, suc, List, [], ◌∷◌, ◌++◌, Some, length, get_or, take, drop, cond, eqb, refl, sym, ap, ap₂, ◌∙◌, subst, inl, inr, arith, length-append, drop-cons, false}
use Rattle.std.proofs.lemmas.Bool.{cases_lt, cond-true, cond-false, eq-eqb, ne_eqb}
use Rattle.std.proofs.lemmas.List.FromFn.{length-map-range_with_len, map-range_with_len_more}
use Rattle.std.specs.List.{slice_get}
use Rattle.definitions.specs.Slots.{block_of}
use Rattle.definitions.specs.Tables.{with_entry, with_entries}
use Rattle.definitions.specs.Zones.{numbers}
use Rattle.definitions.proofs.TableEntries.{IsPage-with_entry, HasTable-with_entry}
use Rattle.image_format.specs.MapPages.{MapEntries}
use Rattle.swap_slots.specs.Runs.{SlotRuns}
use Rattle.swap_slots.specs.Table.{Matches, free_in}
use Rattle.swap_slots.proofs.Matching.{free_numbers}
use Rattle.plain_machine.specs.Image.{page_place, map_place, laid_block, laid_entries, is_map_write, page_of_write}
use Rattle.image_write.specs.Writing.{Writing, IsWriting, HasTaken, taken_after, writes_of, slots_of_write}
use Rattle.image_write.proofs.Places.{IsPageWrite, page_write, taken_before_page, map_within}
use Rattle.image_write.proofs.Taking.{IsTable, next_free, some_free, taken_more}

pub length-entries : (free : List ℕ) (frames : List (List ℕ)) (w : Writing) → IsWriting free frames w → length w.entries.entries ≡ w.written % 512
length-entries free frames w h =
    ap length h.entries ∙ length-map-range_with_len (λ i. laid_block w.extents free (page_place i)) (511 * (w.written / 512)) (w.written % 512)

-- the writer after the page, where the slots for it are taken
pub next_writing : (free : List ℕ) (frames after : List (List ℕ)) (w : Writing) (m : MapEntries) (b next : ℕ) → IsWriting free frames w → IsPageWrite w.info.pages w.written →
    HasTaken free (taken_after (w.written + 1)) after w.table → b ≡ laid_block w.extents free (page_place (page_of_write w.written)) → m.entries ≡ w.entries.entries ++ b ∷ [] →
    m.link ≡ cond (eqb ((w.written + 1) % 512) 511) next 0 → ((w.written + 1) % 512 ≡ 511 → next ≡ laid_block w.extents free (map_place (w.written / 512 + 1))) →
    IsWriting free after (record w { written = w.written + 1; entries = m; next = next })
next_writing free frames after w m b next h page taken b_is entries link next_is =
    let k = w.written in
    let below = page.below in
    let entry : ℕ → ℕ = λ i. laid_block w.extents free (page_place i) in
    let same_map : (k + 1) / 512 ≡ k / 512 = omega arith in
    let one_more : (k + 1) % 512 ≡ k % 512 + 1 = omega arith in
    let here : 511 * (k / 512) + k % 512 ≡ page_of_write k = omega arith in
    record {
      ascending = h.ascending;
      few = h.few;
      room = h.room;
      blocks = h.blocks;
      unfinished = page.more;
      slots = taken;
      first = h.first;
      block = h.block ∙ ap (λ (j : ℕ). laid_block w.extents free (map_place j)) (sym same_map);
      entries =
          entries ∙ ap₂ (λ (xs : List ℕ) (x : ℕ). xs ++ x ∷ []) h.entries b_is
          ∙ sym (map-range_with_len_more entry (511 * (k / 512)) (k % 512) (page_of_write k) here)
          ∙ ap₂ (λ (j n : ℕ). laid_entries w.extents free (511 * j) n) (sym same_map) (sym one_more);
      link = link;
      next = λ e. next_is e ∙ ap (λ (j : ℕ). laid_block w.extents free (map_place (j + 1))) (sym same_map);
    }

-- the page's slot is the next free one
pub page_slot : (free : List ℕ) (frames : List (List ℕ)) (w : Writing) → IsWriting free frames w → IsPageWrite w.info.pages w.written → taken_after w.written < length free
page_slot free frames w h page =
    let below = page.below in
    let more = page.more in
    let room = h.room in
    let count = taken_before_page w.written below in
    omega arith

pub page_block : (free : List ℕ) (frames : List (List ℕ)) (w : Writing) (b : ℕ) → IsWriting free frames w → b ≡ block_of w.extents (get_or (free_in frames w.table) 0 0) → b ≡ laid_block w.extents free (page_place (page_of_write w.written))
page_block free frames w b h is = is ∙ ap (block_of w.extents) (next_free free (taken_after w.written) frames w.table h.slots)

-- memory when the page's slot is taken
abbrev pub with_page : List (List ℕ) → Writing → List (List ℕ)
with_page frames w = with_entry frames w.table.first (get_or (free_in frames w.table) 0 0) 65536

pub page_taken : (free : List ℕ) (frames : List (List ℕ)) (w : Writing) → IsWriting free frames w → IsPageWrite w.info.pages w.written → IsTable frames w.table → HasTaken free (taken_after w.written + 1) (with_page frames w) w.table
page_taken free frames w h page at =
    let is = next_free free (taken_after w.written) frames w.table h.slots in
    subst (λ (s : ℕ). HasTaken free (taken_after w.written + 1) (with_entry frames w.table.first s 65536) w.table) (sym is)
    (taken_more free (taken_after w.written) frames w.table at h.ascending h.slots (page_slot free frames w h page))

-- The map has room after the page.
pub with_room : (free : List ℕ) (frames : List (List ℕ)) (w : Writing) (m : MapEntries) (b : ℕ) → IsWriting free frames w → IsPageWrite w.info.pages w.written → IsTable frames w.table →
    b ≡ block_of w.extents (get_or (free_in frames w.table) 0 0) → m.entries ≡ w.entries.entries ++ b ∷ [] → m.link ≡ w.entries.link → length m.entries < 511 →
    IsWriting free (with_page frames w) (record w { written = w.written + 1; entries = m })
with_room free frames w m b h page at is entries link room =
    let k = w.written in
    let below = page.below in
    let size = length-entries free frames w h in
    let size_now = ap length entries ∙ length-append w.entries.entries (b ∷ []) in
    let low : k % 512 < 510 = omega arith in
    let count : taken_after k + 1 ≡ taken_after (k + 1) = omega arith in
    let not_full : (k + 1) % 512 ≡ 511 → ⊥ = λ e. omega arith in
    let was_not_full : k % 512 ≡ 511 → ⊥ = λ e. omega arith in
    next_writing free frames (with_page frames w) w m b w.next h page
    (subst (λ (n : ℕ). HasTaken free n (with_page frames w) w.table) count (page_taken free frames w h page at))
    (page_block free frames w b h is) entries
    (link ∙ h.link ∙ cond-false (eqb (k % 512) 511) w.next 0 (ne_eqb (k % 512) 511 was_not_full)
    ∙ sym (cond-false (eqb ((k + 1) % 512) 511) w.next 0 (ne_eqb ((k + 1) % 512) 511 not_full)))
    (λ e. absurd (not_full e))

-- The page fills the map, and the slot of the next one is taken.
pub with_map : (free : List ℕ) (frames : List (List ℕ)) (w : Writing) (m linked : MapEntries) (b next : ℕ) → IsWriting free frames w → IsPageWrite w.info.pages w.written → IsTable frames w.table →
    b ≡ block_of w.extents (get_or (free_in frames w.table) 0 0) → m.entries ≡ w.entries.entries ++ b ∷ [] → (length m.entries < 511 → ⊥) →
    next ≡ block_of w.extents (get_or (free_in (with_page frames w) w.table) 0 0) → linked.entries ≡ m.entries → linked.link ≡ next →
    IsWriting free (with_entry (with_page frames w) w.table.first (get_or (free_in (with_page frames w) w.table) 0 0) 65536) (record w { written = w.written + 1; entries = linked; next = next })
with_map free frames w m linked b next h page at is entries full next_is linked_is link =
    let k = w.written in
    let below = page.below in
    let more = page.more in
    let size = length-entries free frames w h in
    let size_now = ap length entries ∙ length-append w.entries.entries (b ∷ []) in
    let high : k % 512 ≡ 510 = elim (cases_lt (k % 512) 510) [ inl lt ↦ absurd (full (omega arith)) | inr ge ↦ omega arith ] in
    let count : taken_after k + 1 + 1 ≡ taken_after (k + 1) = omega arith in
    let room = h.room in
    let within : taken_after k + 1 < length free = let last = map_within w.info.pages k high more in omega arith in
    let taken = page_taken free frames w h page at in
    let at_next : IsTable (with_page frames w) w.table = record {
      pages = IsPage-with_entry frames w.table.first (get_or (free_in frames w.table) 0 0) 65536 at.pages;
      lies = HasTable-with_entry frames w.table.first w.table.slots (get_or (free_in frames w.table) 0 0) 65536 at.lies;
    } in
    let slot = next_free free (taken_after k + 1) (with_page frames w) w.table taken in
    let after = with_entry (with_page frames w) w.table.first (get_or (free_in (with_page frames w) w.table) 0 0) 65536 in
    let taken_both : HasTaken free (taken_after k + 1 + 1) after w.table =
    subst (λ (s : ℕ). HasTaken free (taken_after k + 1 + 1) (with_entry (with_page frames w) w.table.first s 65536) w.table) (sym slot)
    (taken_more free (taken_after k + 1) (with_page frames w) w.table at_next h.ascending taken within) in
    let place : taken_after k + 1 ≡ map_place (k / 512 + 1) = omega arith in
    let now_full : (k + 1) % 512 ≡ 511 = omega arith in
    next_writing free frames after w linked b next h page
    (subst (λ (n : ℕ). HasTaken free n after w.table) count taken_both)
    (page_block free frames w b h is) (linked_is ∙ entries)
    (link ∙ sym (cond-true (eqb ((k + 1) % 512) 511) next 0 (eq-eqb ((k + 1) % 512) 511 now_full)))
    (λ e. next_is ∙ ap (block_of w.extents) slot ∙ ap (laid_block w.extents free) place)

-- Memory after the page, by the slots that its write takes.

pub one_slot : (frames : List (List ℕ)) (table s v : ℕ) → with_entries frames table (s ∷ []) v ≡ with_entry frames table s v
unfolding with_entries
one_slot frames table s v = refl

two_slots : (frames : List (List ℕ)) (table s t v : ℕ) → with_entries frames table (s ∷ t ∷ []) v ≡ with_entry (with_entry frames table s v) table t v
unfolding with_entries
two_slots frames table s t v = refl

pub first_slot : (free : List ℕ) (n : ℕ) → n < length free → take 1 (drop n free) ≡ get_or free n 0 ∷ []
first_slot free n lt = ap (take 1) (drop-cons free n 0 lt)

first_two : (free : List ℕ) (n : ℕ) → n + 1 < length free → take 2 (drop n free) ≡ get_or free n 0 ∷ get_or free (n + 1) 0 ∷ []
first_two free n lt =
    let one_more : suc n ≡ n + 1 = omega arith in
    ap (take 2) (drop-cons free n 0 (omega arith) ∙ ap (λ (i : ℕ). get_or free n 0 ∷ drop i free) one_more
    ∙ ap (λ (xs : List ℕ). get_or free n 0 ∷ xs) (drop-cons free (n + 1) 0 lt))

slots_of_page : (free : List ℕ) (w : Writing) → is_map_write w.info.pages w.written ≡ false → slots_of_write w.info free w.written ≡ take (cond (eqb (w.written % 512) 510) 2 1) (drop (taken_after w.written) free)
slots_of_page free w page = cond-false (is_map_write w.info.pages w.written) [] (take (cond (eqb (w.written % 512) 510) 2 1) (drop (taken_after w.written) free)) page

pub frames_with_room : (free : List ℕ) (frames : List (List ℕ)) (w : Writing) (m : MapEntries) (b : ℕ) → IsWriting free frames w → is_map_write w.info.pages w.written ≡ false →
    m.entries ≡ w.entries.entries ++ b ∷ [] → length m.entries < 511 → with_page frames w ≡ with_entries frames w.table.first (slots_of_write w.info free w.written) 65536
frames_with_room free frames w m b h is_page entries room =
    let k = w.written in
    let page = page_write w.info.pages k h.unfinished is_page in
    let size = length-entries free frames w h in
    let size_now = ap length entries ∙ length-append w.entries.entries (b ∷ []) in
    let low : k % 512 ≡ 510 → ⊥ = λ e. omega arith in
    let slots : slots_of_write w.info free k ≡ get_or free (taken_after k) 0 ∷ [] =
    slots_of_page free w is_page
    ∙ ap (λ (n : ℕ). take n (drop (taken_after k) free)) (cond-false (eqb (k % 512) 510) 2 1 (ne_eqb (k % 512) 510 low))
    ∙ first_slot free (taken_after k) (page_slot free frames w h page) in
    ap (λ (s : ℕ). with_entry frames w.table.first s 65536) (next_free free (taken_after k) frames w.table h.slots)
    ∙ sym (one_slot frames w.table.first (get_or free (taken_after k) 0) 65536)
    ∙ ap (λ (ss : List ℕ). with_entries frames w.table.first ss 65536) (sym slots)

-- a page that fills the map: the next map's slot is there
pub record IsFull (free : List ℕ) (frames : List (List ℕ)) (w : Writing) : Type 0 where
  pub high : w.written % 512 ≡ 510
  pub within : taken_after w.written + 1 < writes_of w.info
  pub slot : get_or (free_in (with_page frames w) w.table) 0 0 ≡ get_or free (taken_after w.written + 1) 0
  pub some : 0 < length (free_in (with_page frames w) w.table)

pub is_full : (free : List ℕ) (frames : List (List ℕ)) (w : Writing) (m : MapEntries) (b : ℕ) → IsWriting free frames w → IsPageWrite w.info.pages w.written → IsTable frames w.table →
    m.entries ≡ w.entries.entries ++ b ∷ [] → (length m.entries < 511 → ⊥) → IsFull free frames w
is_full free frames w m b h page at entries full =
    let k = w.written in
    let below = page.below in
    let more = page.more in
    let room = h.room in
    let size = length-entries free frames w h in
    let size_now = ap length entries ∙ length-append w.entries.entries (b ∷ []) in
    let high : k % 512 ≡ 510 = elim (cases_lt (k % 512) 510) [ inl lt ↦ absurd (full (omega arith)) | inr ge ↦ omega arith ] in
    let last = map_within w.info.pages k high more in
    let within : taken_after k + 1 < writes_of w.info = omega arith in
    let taken = page_taken free frames w h page at in
    record {
      high = high;
      within = within;
      slot = next_free free (taken_after k + 1) (with_page frames w) w.table taken;
      some = some_free free (taken_after k + 1) (with_page frames w) w.table taken (omega arith);
    }

pub frames_with_map : (free : List ℕ) (frames : List (List ℕ)) (w : Writing) → IsWriting free frames w → is_map_write w.info.pages w.written ≡ false → IsFull free frames w →
    with_entry (with_page frames w) w.table.first (get_or (free_in (with_page frames w) w.table) 0 0) 65536 ≡ with_entries frames w.table.first (slots_of_write w.info free w.written) 65536
frames_with_map free frames w h is_page full =
    let k = w.written in
    let n = taken_after k in
    let room = h.room in
    let within = full.within in
    let slots : slots_of_write w.info free k ≡ get_or free n 0 ∷ get_or free (n + 1) 0 ∷ [] =
    slots_of_page free w is_page
    ∙ ap (λ (count : ℕ). take count (drop n free)) (cond-true (eqb (k % 512) 510) 2 1 (eq-eqb (k % 512) 510 full.high))
    ∙ first_two free n (omega arith) in
    ap₂ (λ (s t : ℕ). with_entry (with_entry frames w.table.first s 65536) w.table.first t 65536) (next_free free n frames w.table h.slots) full.slot
    ∙ sym (two_slots frames w.table.first (get_or free n 0) (get_or free (n + 1) 0) 65536)
    ∙ ap (λ (ss : List ℕ). with_entries frames w.table.first ss 65536) (sym slots)

-- the least free slot is that of the next page
pub slot_of_page : (free : List ℕ) (frames : List (List ℕ)) (w : Writing) (runs : SlotRuns) → IsWriting free frames w → is_map_write w.info.pages w.written ≡ false → Matches frames w.table runs →
    slice_get (numbers runs.runs) 0 ≡ Some (get_or free (page_place (page_of_write w.written)) 0)
slot_of_page free frames w runs h isn't matches =
    let page = page_write w.info.pages w.written h.unfinished isn't in
    let below = page.below in
    let more = page.more in
    let room = h.room in
    let count = taken_before_page w.written below in
    let at : taken_after w.written ≡ page_place (page_of_write w.written) = omega arith in
    let lt : taken_after w.written < length free = omega arith in
    ap (λ (xs : List ℕ). slice_get xs 0) (free_numbers frames w.table runs matches ∙ h.slots.left ∙ drop-cons free (taken_after w.written) 0 lt)
    ∙ ap (λ (i : ℕ). Some (get_or free i 0)) at

pub place_of_page : (free : List ℕ) (frames : List (List ℕ)) (w : Writing) → IsWriting free frames w → is_map_write w.info.pages w.written ≡ false → page_place (page_of_write w.written) < writes_of w.info
place_of_page free frames w h isn't =
    let page = page_write w.info.pages w.written h.unfinished isn't in
    let below = page.below in
    let more = page.more in
    let count = taken_before_page w.written below in
    omega arith
