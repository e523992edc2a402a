-- Laws of the slots that an image takes.
use Rattle.std.proofs.Common.{◌≡◌, ℕ, ◌+◌, ◌/◌, lit<, ◌<◌, suc, List, [], ◌∷◌, length, get_or, take, drop, refl, sym, ap, ◌∙◌, subst, ⊎_elim, arith, length-drop, drop-cons}
use Rattle.std.proofs.lemmas.List.{take_more, get_or-drop, get_or_default, get_or-take, length-take-le}
use Rattle.std.proofs.lemmas.List.Elements.{All-push}
use Rattle.std.proofs.lemmas.List.Kept.{AllPairs-from_increasing}
use Rattle.std.specs.List.{All, Contains}
use Rattle.std.specs.List.Sorted.{IsStrictlyIncreasing}
use Rattle.definitions.specs.Bytes.{IsPage}
use Rattle.definitions.specs.Tables.{entry_at, with_entry}
use Rattle.definitions.specs.FrameSets.{removed}
use Rattle.definitions.proofs.Ascending.{Contains-head, Contains-tail, Contains-cons_cases, IsStrictlyIncreasing-tail, head_below, same_members}
use Rattle.definitions.proofs.FrameSets.{Contains-removed, Contains-from_removed, IsStrictlyIncreasing-removed}
use Rattle.definitions.proofs.FreeSlots.{IsSlot, free_slot, free_slots-taken, IsStrictlyIncreasing-free_slots}
use Rattle.definitions.proofs.TableEntries.{entry_frame_within, entry_at-with_entry_same, entry_at-with_entry_other}
use Rattle.swap_slots.specs.Table.{LiesIn, free_in}
use Rattle.swap_slots.specs.declared.table.SlotTable.{SlotTable}
use Rattle.image_write.specs.Writing.{HasTaken}

removed_head : (x : ℕ) (xs : List ℕ) → IsStrictlyIncreasing (x ∷ xs) → removed (x ∷ xs) x ≡ xs
removed_head x xs up =
    same_members (removed (x ∷ xs) x) xs (IsStrictlyIncreasing-removed (x ∷ xs) x up) (IsStrictlyIncreasing-tail x xs up)
    (λ p in'. let was = Contains-from_removed (x ∷ xs) x p in' in ⊎_elim (λ e. absurd (was.1 (sym e))) (λ h. h) (Contains-cons_cases x xs p was.0))
    (λ p in'. Contains-removed (x ∷ xs) x p (Contains-tail x xs p in') (λ e. let above = head_below x xs p up in' in omega arith))

rises : (xs : List ℕ) (i j : ℕ) → IsStrictlyIncreasing xs → i < j → j < length xs → get_or xs i 0 < get_or xs j 0
rises xs i j up lt within = AllPairs-from_increasing xs up i j 0 lt within

-- what a table and memory are for the writer
pub record IsTable (frames : List (List ℕ)) (table : SlotTable) : Type 0 where
  pub pages : All IsPage frames
  pub lies : LiesIn frames table

-- the least free slot is the next one
pub next_free : (free : List ℕ) (count : ℕ) (frames : List (List ℕ)) (table : SlotTable) → HasTaken free count frames table → get_or (free_in frames table) 0 0 ≡ get_or free count 0
next_free free count frames table h =
    let at : count + 0 ≡ count = omega arith in
    ap (λ (xs : List ℕ). get_or xs 0 0) h.left ∙ get_or-drop count free 0 0 ∙ ap (λ (i : ℕ). get_or free i 0) at

pub some_free : (free : List ℕ) (count : ℕ) (frames : List (List ℕ)) (table : SlotTable) → HasTaken free count frames table → count < length free → 0 < length (free_in frames table)
some_free free count frames table h lt = omega (arith, ap length h.left, length-drop count free)

abbrev IsImage : List (List ℕ) → ℕ → ℕ → Type 0
IsImage frames table s = entry_at frames table s ≡ 65536

still_taken : (free : List ℕ) (count : ℕ) (frames : List (List ℕ)) (table : SlotTable) (s : ℕ) → IsTable frames table → IsStrictlyIncreasing free → HasTaken free count frames table → count < length free → s ≡ get_or free count 0 → s < table.slots → All (IsImage (with_entry frames table.first s 65536) table.first) (take count free)
still_taken free count frames table s at up h lt is below j d j_lt =
    let within = entry_frame_within frames table.first table.slots s at.lies below in
    let size = length-take-le count free (omega arith) in
    let there : get_or (take count free) j d ≡ get_or free j 0 = get_or-take count free j d (omega arith) ∙ get_or_default free j d 0 (omega arith) in
    let lower = rises free j count up (omega arith) lt in
    entry_at-with_entry_other frames table.first s 65536 (get_or (take count free) j d) within (at.pages (table.first + s / 1024) [] within) (λ e. omega arith)
    ∙ h.taken j d j_lt

-- one more is taken
pub taken_more : (free : List ℕ) (count : ℕ) (frames : List (List ℕ)) (table : SlotTable) → IsTable frames table → IsStrictlyIncreasing free → HasTaken free count frames table → count < length free → HasTaken free (count + 1) (with_entry frames table.first (get_or free count 0) 65536) table
taken_more free count frames table at up h lt =
    let s = get_or free count 0 in
    let old = free_in frames table in
    let one_more : suc count ≡ count + 1 = omega arith in
    let split : old ≡ s ∷ drop (count + 1) free = h.left ∙ drop-cons free count 0 lt ∙ ap (λ (i : ℕ). s ∷ drop i free) one_more in
    let in_old : Contains old s = subst (λ (xs : List ℕ). Contains xs s) (sym split) (Contains-head s (drop (count + 1) free)) in
    let free_there = free_slot table.slots table.first frames s in_old in
    let slot : IsSlot table.slots table.first frames s = record { pages = at.pages; has_table = at.lies; within = free_there.0 } in
    let up_old = IsStrictlyIncreasing-free_slots table.slots table.first frames in
    record {
      left = free_slots-taken table.slots table.first frames s 65536 slot (lit< tt) (lit< tt) ∙ ap (λ (xs : List ℕ). removed xs s) split
          ∙ removed_head s (drop (count + 1) free) (subst IsStrictlyIncreasing split up_old);
      taken = subst (All (IsImage (with_entry frames table.first s 65536) table.first)) (sym (take_more free count 0 lt))
          (All-push (IsImage (with_entry frames table.first s 65536) table.first) (take count free) s
          (still_taken free count frames table s at up h lt refl free_there.0)
          (entry_at-with_entry_same frames table.first s 65536 (entry_frame_within frames table.first table.slots s at.lies free_there.0)
          (at.pages (table.first + s / 1024) [] (entry_frame_within frames table.first table.slots s at.lies free_there.0)) (lit< tt)));
    }
