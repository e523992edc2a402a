-- Laws of the slots whose entry says that they are free, or the image's.
use Rattle.std.proofs.Common.{◌≡◌, ℕ, ◌+◌, ◌/◌, ◌^◌, ◌<◌, ◌≤◌, ◌⊎◌, List, [], ◌∷◌, ◌++◌, Bool, true, cond, eqb, length, filter, refl, sym, ap, ◌∙◌, subst, inl, inr, ⊎_elim, arith, append-nil}
use Rattle.std.proofs.lemmas.Bool.{cases_eq, cond-true, cond-false, eq-eqb, ne_eqb, eqb-true}
use Rattle.std.proofs.lemmas.List.{map-id}
use Rattle.std.proofs.lemmas.List.FromFn.{filter_of_map_range_with_len_more}
use Rattle.std.proofs.lemmas.List.Kept.{IsStrictlyIncreasing-filter}
use Rattle.std.specs.List.{All, Contains, range_with_len}
use Rattle.std.specs.List.Sorted.{IsStrictlyIncreasing}
use Rattle.definitions.specs.Bytes.{IsPage}
use Rattle.definitions.specs.Tables.{frame, entry_at, with_entry, HasTable}
use Rattle.definitions.specs.Tables.{free_slots, image_slots}
use Rattle.definitions.specs.FrameSets.{inserted, removed}
use Rattle.definitions.proofs.Ascending.{same_members}
use Rattle.definitions.proofs.FrameSets.{Contains-filter, Contains-from_filter, Contains-inserted, Contains-inserted_itself, Contains-from_inserted, IsStrictlyIncreasing-inserted, Contains-removed, Contains-from_removed, IsStrictlyIncreasing-removed}
use Rattle.definitions.proofs.TableEntries.{entry_frame_within, entry_at-with_entry_same, entry_at-with_entry_other}
use Rattle.definitions.proofs.ZoneNumbers.{Contains-range, range-bounds, IsStrictlyIncreasing-range}

-- The free slots by their entries.

pub Contains-free_slots : (slots table : ℕ) (frames : List (List ℕ)) (s : ℕ) → s < slots → entry_at frames table s ≡ 0 → Contains (free_slots slots table frames) s
unfolding free_slots
Contains-free_slots slots table frames s lt e =
    Contains-filter (λ k. eqb (entry_at frames table k) 0) (range_with_len 0 slots) s (Contains-range 0 slots s (omega arith) (omega arith)) (eq-eqb (entry_at frames table s) 0 e)

pub free_slot : (slots table : ℕ) (frames : List (List ℕ)) (s : ℕ) → Contains (free_slots slots table frames) s → (s < slots) × (entry_at frames table s ≡ 0)
unfolding free_slots
free_slot slots table frames s in' =
    let kept = Contains-from_filter (λ k. eqb (entry_at frames table k) 0) (range_with_len 0 slots) s in' in
    let bounds = range-bounds 0 slots s kept.0 in
    (omega arith, eqb-true (entry_at frames table s) 0 kept.1)

pub IsStrictlyIncreasing-free_slots : (slots table : ℕ) (frames : List (List ℕ)) → IsStrictlyIncreasing (free_slots slots table frames)
unfolding free_slots
IsStrictlyIncreasing-free_slots slots table frames = IsStrictlyIncreasing-filter (λ k. eqb (entry_at frames table k) 0) (range_with_len 0 slots) (IsStrictlyIncreasing-range 0 slots)

-- An entry that is set.

-- memory has the table, and slot s is one of its slots
pub record IsSlot (slots table : ℕ) (frames : List (List ℕ)) (s : ℕ) : Type 0 where
  pub pages : All IsPage frames
  pub has_table : HasTable frames table slots
  pub within : s < slots

entry_same : (slots table : ℕ) (frames : List (List ℕ)) (s v : ℕ) → IsSlot slots table frames s → v < 2 ^ 32 → entry_at (with_entry frames table s v) table s ≡ v
entry_same slots table frames s v h fits =
    let within = entry_frame_within frames table slots s h.has_table h.within in
    entry_at-with_entry_same frames table s v within (h.pages (table + s / 1024) _ within) fits

entry_other : (slots table : ℕ) (frames : List (List ℕ)) (s v k : ℕ) → IsSlot slots table frames s → (k ≡ s → ⊥) → entry_at (with_entry frames table s v) table k ≡ entry_at frames table k
entry_other slots table frames s v k h ne =
    let within = entry_frame_within frames table slots s h.has_table h.within in
    entry_at-with_entry_other frames table s v k within (h.pages (table + s / 1024) _ within) ne

-- a slot that is taken is free no more
pub free_slots-taken : (slots table : ℕ) (frames : List (List ℕ)) (s v : ℕ) → IsSlot slots table frames s → v < 2 ^ 32 → 0 < v → free_slots slots table (with_entry frames table s v) ≡ removed (free_slots slots table frames) s
free_slots-taken slots table frames s v h fits some =
    let old = free_slots slots table frames in
    let taken = with_entry frames table s v in
    let up = IsStrictlyIncreasing-free_slots slots table frames in
    let same = entry_same slots table frames s v h fits in
    same_members (free_slots slots table taken) (removed old s) (IsStrictlyIncreasing-free_slots slots table taken) (IsStrictlyIncreasing-removed old s up)
    (λ k in'.
    let free = free_slot slots table taken k in' in
    let ne : k ≡ s → ⊥ = λ e. let zero_is = ap (entry_at taken table) (sym e) ∙ free.1 in omega arith in
    Contains-removed old s k (Contains-free_slots slots table frames k free.0 (sym (entry_other slots table frames s v k h ne) ∙ free.1)) ne)
    (λ k in'.
    let was = Contains-from_removed old s k in' in
    let free = free_slot slots table frames k was.0 in
    Contains-free_slots slots table taken k free.0 (entry_other slots table frames s v k h was.1 ∙ free.1))

-- a slot that is given back is free
pub free_slots-given : (slots table : ℕ) (frames : List (List ℕ)) (s : ℕ) → IsSlot slots table frames s → free_slots slots table (with_entry frames table s 0) ≡ inserted (free_slots slots table frames) s
free_slots-given slots table frames s h =
    let old = free_slots slots table frames in
    let given = with_entry frames table s 0 in
    let up = IsStrictlyIncreasing-free_slots slots table frames in
    let same = entry_same slots table frames s 0 h (omega arith) in
    same_members (free_slots slots table given) (inserted old s) (IsStrictlyIncreasing-free_slots slots table given) (IsStrictlyIncreasing-inserted old s up)
    (λ k in'.
    let free = free_slot slots table given k in' in
    elim (cases_eq k s) [
      | inl e ↦ subst (λ (x : ℕ). Contains (inserted old s) x) (sym e) (Contains-inserted_itself old s)
      | inr ne ↦ Contains-inserted old s k (Contains-free_slots slots table frames k free.0 (sym (entry_other slots table frames s 0 k h ne) ∙ free.1))
    ])
    (λ k in'. elim (cases_eq k s) [
      | inl e ↦ Contains-free_slots slots table given k (let within = h.within in omega arith) (ap (entry_at given table) e ∙ same)
      | inr ne ↦ elim (Contains-from_inserted old s k in') [
        | inl e ↦ absurd (ne e)
        | inr was ↦
            let free = free_slot slots table frames k was in
            Contains-free_slots slots table given k free.0 (entry_other slots table frames s 0 k h ne ∙ free.1)
      ]
    ])

-- One slot more.

pub free_slots-none : (table : ℕ) (frames : List (List ℕ)) → free_slots 0 table frames ≡ []
unfolding free_slots
free_slots-none table frames = refl

pub free_slots-more_free : (slots table : ℕ) (frames : List (List ℕ)) → entry_at frames table slots ≡ 0 → free_slots (slots + 1) table frames ≡ inserted (free_slots slots table frames) slots
free_slots-more_free slots table frames e =
    let old = free_slots slots table frames in
    let new = free_slots (slots + 1) table frames in
    same_members new (inserted old slots) (IsStrictlyIncreasing-free_slots (slots + 1) table frames) (IsStrictlyIncreasing-inserted old slots (IsStrictlyIncreasing-free_slots slots table frames))
    (λ k in'.
    let free = free_slot (slots + 1) table frames k in' in
    elim (cases_eq k slots) [
      | inl here ↦ subst (λ (x : ℕ). Contains (inserted old slots) x) (sym here) (Contains-inserted_itself old slots)
      | inr ne ↦ Contains-inserted old slots k (Contains-free_slots slots table frames k (let lt = free.0 in omega arith) free.1)
    ])
    (λ k in'. ⊎_elim
    (λ here. Contains-free_slots (slots + 1) table frames k (omega arith) (ap (entry_at frames table) here ∙ e))
    (λ was. let free = free_slot slots table frames k was in Contains-free_slots (slots + 1) table frames k (let lt = free.0 in omega arith) free.1)
    (Contains-from_inserted old slots k in'))

pub free_slots-more_taken : (slots table : ℕ) (frames : List (List ℕ)) → (entry_at frames table slots ≡ 0 → ⊥) → free_slots (slots + 1) table frames ≡ free_slots slots table frames
free_slots-more_taken slots table frames ne =
    same_members (free_slots (slots + 1) table frames) (free_slots slots table frames)
    (IsStrictlyIncreasing-free_slots (slots + 1) table frames) (IsStrictlyIncreasing-free_slots slots table frames)
    (λ k in'.
    let free = free_slot (slots + 1) table frames k in' in
    let apart : k ≡ slots → ⊥ = λ here. ne (ap (entry_at frames table) (sym here) ∙ free.1) in
    Contains-free_slots slots table frames k (let lt = free.0 in omega arith) free.1)
    (λ k in'. let free = free_slot slots table frames k in' in Contains-free_slots (slots + 1) table frames k (let lt = free.0 in omega arith) free.1)

-- The slots of the image.

pub Contains-image_slots : (slots table : ℕ) (frames : List (List ℕ)) (s : ℕ) → s < slots → entry_at frames table s ≡ 65536 → Contains (image_slots slots table frames) s
unfolding image_slots
Contains-image_slots slots table frames s lt e =
    Contains-filter (λ k. eqb (entry_at frames table k) 65536) (range_with_len 0 slots) s (Contains-range 0 slots s (omega arith) (omega arith)) (eq-eqb (entry_at frames table s) 65536 e)

pub image_slot : (slots table : ℕ) (frames : List (List ℕ)) (s : ℕ) → Contains (image_slots slots table frames) s → (s < slots) × (entry_at frames table s ≡ 65536)
unfolding image_slots
image_slot slots table frames s in' =
    let kept = Contains-from_filter (λ k. eqb (entry_at frames table k) 65536) (range_with_len 0 slots) s in' in
    let bounds = range-bounds 0 slots s kept.0 in
    (omega arith, eqb-true (entry_at frames table s) 65536 kept.1)

pub image_slots-none : (table : ℕ) (frames : List (List ℕ)) → image_slots 0 table frames ≡ []
unfolding image_slots
image_slots-none table frames = refl

image_slots-more : (slots table : ℕ) (frames : List (List ℕ)) → image_slots (slots + 1) table frames ≡ image_slots slots table frames ++ cond (eqb (entry_at frames table slots) 65536) (slots ∷ []) []
unfolding image_slots
image_slots-more slots table frames =
    let test : ℕ → Bool = λ k. eqb (entry_at frames table k) 65536 in
    ap (filter test) (sym (map-id (range_with_len 0 (slots + 1))))
    ∙ filter_of_map_range_with_len_more test (λ (k : ℕ). k) 0 slots slots (omega arith)
    ∙ ap (λ (xs : List ℕ). filter test xs ++ cond (test slots) (slots ∷ []) []) (map-id (range_with_len 0 slots))

pub image_slots-more_image : (slots table : ℕ) (frames : List (List ℕ)) → entry_at frames table slots ≡ 65536 → image_slots (slots + 1) table frames ≡ image_slots slots table frames ++ slots ∷ []
image_slots-more_image slots table frames e =
    image_slots-more slots table frames
    ∙ ap (λ (xs : List ℕ). image_slots slots table frames ++ xs) (cond-true (eqb (entry_at frames table slots) 65536) (slots ∷ []) [] (eq-eqb (entry_at frames table slots) 65536 e))

pub image_slots-more_other : (slots table : ℕ) (frames : List (List ℕ)) → (entry_at frames table slots ≡ 65536 → ⊥) → image_slots (slots + 1) table frames ≡ image_slots slots table frames
image_slots-more_other slots table frames ne =
    image_slots-more slots table frames
    ∙ ap (λ (xs : List ℕ). image_slots slots table frames ++ xs) (cond-false (eqb (entry_at frames table slots) 65536) (slots ∷ []) [] (ne_eqb (entry_at frames table slots) 65536 ne))
    ∙ append-nil (image_slots slots table frames)
