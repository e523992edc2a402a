-- A map is written, and the next one begun.
use Rattle.std.proofs.Common.{◌≡◌, Bool, false, ℕ, ◌+◌, ◌-◌, ◌*◌, ◌/◌, ◌%◌, ◌<◌, ◌≤◌, ◌⊎◌, List, [], Option, length, get_or, take, drop, min, cond, eqb, refl, sym, ap, ap₂, ◌∙◌, subst, inl, inr, ⊎_elim, arith, true}
use Rattle.std.proofs.lemmas.Bool.{cases_eq, cond-true, cond-false, eq-eqb, ne_eqb}
use Rattle.definitions.specs.Disk.{Content, Changes}
use Rattle.definitions.specs.SwapMap.{map_page}
use Rattle.definitions.specs.Tables.{with_entry, with_entries}
use Rattle.definitions.specs.declared.info.Info.{Info}
use Rattle.definitions.specs.NumberPages.{meta_of}
use Rattle.definitions.proofs.TableEntries.{with_entries-none}
use Rattle.definitions.proofs.FreeSlots.{IsStrictlyIncreasing-free_slots, free_slot}
use Rattle.definitions.proofs.Ascending.{length-between}
use Rattle.image_format.specs.MapPages.{MapEntries}
use Rattle.swap_slots.specs.Runs.{SlotRuns}
use Rattle.swap_slots.specs.Table.{free_in}
use Rattle.swap_slots.specs.declared.table.SlotTable.{SlotTable}
use Rattle.plain_machine.specs.Image.{maps_of}
use Rattle.plain_machine.specs.Image.{map_place, laid_block, laid_map, laid_entries, laid_write, is_map_write}
use Rattle.plain_machine.specs.Image.{page_of_write, page_place}
use Rattle.image_write.specs.Answers.{after, Succeeds, GoesOn}
use Rattle.image_write.specs.declared.write_step.WriteStep.{WriteStep}
use Rattle.image_write.specs.declared.write_step.WriteStep.TheVariants.{More, Done, Fault}
use Rattle.image_write.specs.Steps.{TakesSlots, WritesPage}
use Rattle.image_write.specs.Writing.{Writing, IsWriting, IsSameImage, HasTaken, taken_after, writes_of, write_next, slots_of_write, data_written}
use Rattle.image_write.proofs.Places.{map_write, same_page, full_entries, last_entries}
use Rattle.image_write.proofs.Taking.{IsTable, taken_more}

-- the block of the map is one of those that the image takes
pub map_place_within : (info : Info) (k : ℕ) → k < writes_of info → map_place (k / 512) < writes_of info
map_place_within info k lt = omega arith

-- what is written is the map
pub page_of_map : (free : List ℕ) (memory : List (List ℕ)) (w : Writing) → IsWriting free memory w → is_map_write w.info.pages w.written ≡ true → map_page w.entries.entries w.entries.link ≡ laid_map w.extents free w.info.pages (w.written / 512)
unfolding laid_map
page_of_map free memory w h is =
    let k = w.written in
    let pages = w.info.pages in
    let j = k / 512 in
    let lt = h.unfinished in
    elim (cases_eq (k % 512) 511) [
      | inl full ↦
          let enough = full_entries pages k full lt in
          let count : k % 512 ≡ min 511 (pages - 511 * j) = omega arith in
          let goes_on : j + 1 ≡ maps_of pages → ⊥ = λ e. omega arith in
          ap₂ map_page (h.entries ∙ ap (laid_entries w.extents free (511 * j)) count)
          (h.link ∙ cond-true (eqb (k % 512) 511) w.next 0 (eq-eqb (k % 512) 511 full) ∙ h.next full
          ∙ sym (cond-false (eqb (j + 1) (maps_of pages)) 0 (laid_block w.extents free (map_place (j + 1))) (ne_eqb (j + 1) (maps_of pages) goes_on)))
      | inr not_full ↦
          let last : k + 1 ≡ pages + maps_of pages = ⊎_elim (λ e. absurd (not_full e)) (λ e. e) (map_write pages k is) in
          let ends = last_entries pages k last in
          let ends_map = ends.0 in
          let ends_entries = ends.1 in
          let count : k % 512 ≡ min 511 (pages - 511 * j) = omega arith in
          let no_more : j + 1 ≡ maps_of pages = omega arith in
          ap₂ map_page (h.entries ∙ ap (laid_entries w.extents free (511 * j)) count)
          (h.link ∙ cond-false (eqb (k % 512) 511) w.next 0 (ne_eqb (k % 512) 511 not_full)
          ∙ sym (cond-true (eqb (j + 1) (maps_of pages)) 0 (laid_block w.extents free (map_place (j + 1))) (eq-eqb (j + 1) (maps_of pages) no_more)))
    ]

-- if the map isn't the last one, the next map is begun
pub begun_map : (free : List ℕ) (memory : List (List ℕ)) (w : Writing) (m : MapEntries) → IsWriting free memory w → is_map_write w.info.pages w.written ≡ true → (w.written + 1 ≡ writes_of w.info → ⊥) →
    m.entries ≡ [] → m.link ≡ 0 → IsWriting free memory (record w { written = w.written + 1; block = w.next; entries = m })
begun_map free memory w m h is more no_entry no_link =
    let k = w.written in
    let lt = h.unfinished in
    let full : k % 512 ≡ 511 = ⊎_elim (λ e. e) (λ e. absurd (more e)) (map_write w.info.pages k is) in
    let next_map : k / 512 + 1 ≡ (k + 1) / 512 = omega arith in
    let empty : (k + 1) % 512 ≡ 0 = omega arith in
    let same : taken_after k ≡ taken_after (k + 1) = omega arith in
    record {
      ascending = h.ascending;
      few = h.few;
      room = h.room;
      blocks = h.blocks;
      unfinished = omega arith;
      slots = subst (λ (n : ℕ). HasTaken free n memory w.table) same h.slots;
      first = h.first;
      block = h.next full ∙ ap (λ (j : ℕ). laid_block w.extents free (map_place j)) next_map;
      entries = no_entry ∙ sym (ap (laid_entries w.extents free (511 * ((k + 1) / 512))) empty);
      link = no_link ∙ sym (cond-false (eqb ((k + 1) % 512) 511) w.next 0 (ne_eqb ((k + 1) % 512) 511 (λ e. omega arith)));
      next = λ e. absurd (omega arith);
    }

-- the begin: the slot of the first map is taken

pub few_free : (frames : List (List ℕ)) (table : SlotTable) → length (free_in frames table) ≤ table.slots
few_free frames table =
    let most = length-between (free_in frames table) 0 table.slots (IsStrictlyIncreasing-free_slots table.slots table.first frames)
    (λ x in'. let is = free_slot table.slots table.first frames x in' in (omega arith, is.0)) (omega arith) in
    omega arith

none_taken : (frames : List (List ℕ)) (table : SlotTable) → HasTaken (free_in frames table) 0 frames table
none_taken frames table = record { left = refl; taken = λ k d lt. absurd (omega arith) }

pub first_taken : (frames : List (List ℕ)) (table : SlotTable) → IsTable frames table → 0 < length (free_in frames table) → HasTaken (free_in frames table) 1 (with_entry frames table.first (get_or (free_in frames table) 0 0) 65536) table
first_taken frames table at lt =
    taken_more (free_in frames table) 0 frames table at (IsStrictlyIncreasing-free_slots table.slots table.first frames) (none_taken frames table) lt

-- a step that goes on has not made the last write
pub goes_on : (k writes : ℕ) (answer : WriteStep) → answer ≡ after k writes → GoesOn answer → k ≡ writes → ⊥
goes_on k writes answer is on e =
    let done : after k writes ≡ Done = cond-true (eqb k writes) Done (More k writes) (eq-eqb k writes e) in
    subst GoesOn (is ∙ done) on

-- a write of a map, among all writes
pub write_of_map : (extents : List (ℕ × ℕ × ℕ)) (free : List ℕ) (pages k : ℕ) (page : List ℕ) → is_map_write pages k ≡ true → laid_write extents free pages page k ≡ (laid_block extents free (map_place (k / 512)), laid_map extents free pages (k / 512))
write_of_map extents free pages k page is =
    cond-true (is_map_write pages k) (laid_block extents free (map_place (k / 512)), laid_map extents free pages (k / 512)) (laid_block extents free (page_place (page_of_write k)), page) is

-- and a write of a page, as it is made or fails
pub write_of_page : (R : ℕ → List ℕ → Content → Content → Type 0) (free : List ℕ) (w : Writing) (page page' : List ℕ) (b : ℕ) (old new : Option Content) → is_map_write w.info.pages w.written ≡ false → b ≡ laid_block w.extents free (page_place (page_of_write w.written)) → page' ≡ page →
    Changes (R b page') old new → Changes (R (write_next free w page).0 (write_next free w page).1) old new
write_of_page R free w page page' b old new isn't block same made =
    let place = laid_block w.extents free (page_place (page_of_write w.written)) in
    let is : write_next free w page ≡ (place, page) = cond-false (is_map_write w.info.pages w.written) (laid_block w.extents free (map_place (w.written / 512)), laid_map w.extents free w.info.pages (w.written / 512)) (place, page) isn't in
    let there : Changes (R place page) old new = subst (λ (b : ℕ). Changes (R b page) old new) block (subst (λ (p : List ℕ). Changes (R b p) old new) same made) in
    subst (λ (at : ℕ × List ℕ). Changes (R at.0 at.1) old new) (sym is) there

-- a write of a map takes no slot
pub frames_of_map : (frames : List (List ℕ)) (table : ℕ) (info : Info) (free : List ℕ) (k : ℕ) → is_map_write info.pages k ≡ true → frames ≡ with_entries frames table (slots_of_write info free k) 65536
frames_of_map frames table info free k is =
    let none : slots_of_write info free k ≡ [] = cond-true (is_map_write info.pages k) [] (take (cond (eqb (k % 512) 510) 2 1) (drop (taken_after k) free)) is in
    sym (ap (λ (ss : List ℕ). with_entries frames table ss 65536) none ∙ with_entries-none frames table 65536)

-- the same pages with data are written before and after a write of a map, if it isn't the last write
pub data_before_map : (info : Info) (k : ℕ) → is_map_write info.pages k ≡ true → (k + 1 ≡ writes_of info → ⊥) → data_written info k ≡ data_written info (k + 1)
data_before_map info k is more =
    let full : k % 512 ≡ 511 = ⊎_elim (λ e. e) (λ e. absurd (more e)) (map_write info.pages k is) in
    ap (λ (n : ℕ). n - (meta_of info.image_pages + 1)) (sym (same_page k full))

-- the writer is the same however far the copies are read
pub read_on : (free : List ℕ) (frames : List (List ℕ)) (w : Writing) (orig copy passed : ℕ) → IsWriting free frames w → IsWriting free frames (record w { orig = orig; copy = copy; passed = passed })
read_on free frames w orig copy passed h = record {
  ascending = h.ascending;
  few = h.few;
  room = h.room;
  blocks = h.blocks;
  unfinished = h.unfinished;
  slots = h.slots;
  first = h.first;
  block = h.block;
  entries = h.entries;
  link = h.link;
  next = h.next;
}

pub image_on : (w : Writing) (orig copy passed : ℕ) (now : Writing) → IsSameImage (record w { orig = orig; copy = copy; passed = passed }) now → IsSameImage w now
image_on w orig copy passed now same = record { info = same.info; extents = same.extents; table = same.table; first = same.first }

pub writes_on : (page : List ℕ) (answer : WriteStep) (frames : List (List ℕ)) (w : Writing) (orig copy passed : ℕ) (old new : Option Content) → WritesPage page answer frames (record w { orig = orig; copy = copy; passed = passed }) old new → WritesPage page answer frames w old new
writes_on page answer frames w orig copy passed old new made = record {
  written = λ free h done. made.written free (read_on free frames w orig copy passed h) done;
  failed = λ free h fault. made.failed free (read_on free frames w orig copy passed h) fault;
}

pub takes_on : (w : Writing) (orig copy passed : ℕ) (old new : List (List ℕ)) (was now : SlotRuns) → TakesSlots (record w { orig = orig; copy = copy; passed = passed }) old new was now → TakesSlots w old new was now
takes_on w orig copy passed old new was now takes = record {
  taken = λ free h. takes.taken free (read_on free old w orig copy passed h);
  kept = takes.kept;
}

pub succeeds : (answer : WriteStep) → GoesOn answer → Succeeds answer
succeeds (More k writes) on = on
succeeds Done on = absurd on
succeeds Fault on = on

pub not_last : (k writes : ℕ) (answer : WriteStep) → (answer ≡ Fault) ⊎ (answer ≡ after k writes) → GoesOn answer → k ≡ writes → ⊥
not_last k writes answer is on e = ⊎_elim (λ fault. subst GoesOn fault on) (λ told. goes_on k writes answer told on e) is

told_succeeds : (b : Bool) (k writes : ℕ) → Succeeds (cond b Done (More k writes))
told_succeeds true k writes = tt
told_succeeds false k writes = tt

pub after_succeeds : (k writes : ℕ) → Succeeds (after k writes)
after_succeeds k writes = told_succeeds (eqb k writes) k writes
