-- The slots that the table names as the image's: each lies on a block of Laid.
use Rattle.std.proofs.Common.{◌≡◌, ℕ, ◌+◌, ◌-◌, ◌*◌, ◌/◌, ◌%◌, ◌<◌, ◌≤◌, ◌⊎◌, List, [], ◌∷◌, length, get_or, take, drop, map, cond, eqb, sym, ap, ◌∙◌, subst, inl, inr, ⊎_elim, arith, zero-add, length-drop, true, false}
use Rattle.std.proofs.lemmas.Bool.{cases_eq, cases_lt, cases_Bool, cond-true, cond-false, eq-eqb, ne_eqb}
use Rattle.std.proofs.lemmas.List.{get_or-drop, get_or-take, get_or-map, get_or_default, length-take-le, length-map, length-take}
use Rattle.std.proofs.lemmas.List.Elements.{Contains-get_or}
use Rattle.std.proofs.lemmas.List.FromFn.{length-map-range_with_len, get_or-map-range_with_len}
use Rattle.std.specs.List.{All, Contains, range_with_len}
use Rattle.definitions.specs.Bytes.{IsPage}
use Rattle.definitions.specs.Slots.{block_of}
use Rattle.definitions.specs.Tables.{entry_at, with_entry, with_entries, HasTable}
use Rattle.definitions.proofs.Ascending.{Contains-nil, Contains-head, Contains-tail}
use Rattle.definitions.proofs.TableEntries.{entry_frame_within, entry_at-with_entry_other, IsPage-with_entry, HasTable-with_entry}
use Rattle.swap_slots.specs.declared.table.SlotTable.{SlotTable}
use Rattle.plain_machine.specs.Image.{maps_of}
use Rattle.plain_machine.specs.Image.{page_place, map_place, laid_block, laid, is_map_write, page_of_write}
use Rattle.image_write.specs.Writing.{Writing, IsWriting, slots_of_write, taken_after, writes_of}
use Rattle.image_write.proofs.Places.{or_left, or_right, or_none, page_write, taken_before_page, map_within}
use Rattle.image_write.proofs.Taking.{IsTable}
use Rattle.image_write.proofs.Done.{place_of, block_of_write, write_at}

-- each slot that the table names as the image's is one of the first `count` free ones
abbrev pub NamesOf : List ℕ → ℕ → List (List ℕ) → SlotTable → Type 0
NamesOf free count frames table = (s : ℕ) → s < table.slots → entry_at frames table.first s ≡ 65536 → Contains (take count free) s

-- an entry that is the image's was so, or is one of those that were set
named_before : (frames : List (List ℕ)) (table n : ℕ) (slots : List ℕ) (s : ℕ) → All IsPage frames → HasTable frames table n → ((k : ℕ) → Contains slots k → k < n) → entry_at (with_entries frames table slots 65536) table s ≡ 65536 → Contains slots s ⊎ (entry_at frames table s ≡ 65536)
unfolding with_entries
named_before frames table n [] s pages has below named = inr named
named_before frames table n (k ∷ slots) s pages has below named =
    let within = entry_frame_within frames table n k has (below k (Contains-head k slots)) in
    elim (named_before (with_entry frames table k 65536) table n slots s (IsPage-with_entry frames table k 65536 pages) (HasTable-with_entry frames table n k 65536 has) (λ i in'. below i (Contains-tail k slots i in')) named) [
      | inl rest ↦ inl (Contains-tail k slots s rest)
      | inr was ↦ elim (cases_eq s k) [
        | inl e ↦ inl (subst (λ (x : ℕ). Contains (k ∷ slots) x) (sym e) (Contains-head k slots))
        | inr ne ↦ inr (sym (entry_at-with_entry_other frames table k 65536 s within (pages (table + k / 1024) [] within) ne) ∙ was)
      ]
    ]

-- the slots that a write takes are the image's

slots_within : (free : List ℕ) (n c total s : ℕ) → n + c ≤ total → total ≤ length free → Contains (take c (drop n free)) s → Contains (take total free) s
slots_within free n c total s within enough (i, lt, e) =
    let size = length-take c (drop n free) in
    let rest = length-drop n free in
    let i_lt : i < c = omega arith in
    let is : get_or free (n + i) s ≡ s = sym (get_or-drop n free i s) ∙ sym (get_or-take c (drop n free) i s i_lt) ∙ e in
    let whole = length-take-le total free enough in
    (n + i, omega arith, get_or-take total free (n + i) s (omega arith) ∙ is)

pub slots_of_image : (free : List ℕ) (frames : List (List ℕ)) (w : Writing) (s : ℕ) → IsWriting free frames w → Contains (slots_of_write w.info free w.written) s → Contains (take (writes_of w.info) free) s
slots_of_image free frames w s h in' =
    let k = w.written in
    let pages = w.info.pages in
    let few = take (cond (eqb (k % 512) 510) 2 1) (drop (taken_after k) free) in
    elim (cases_Bool (is_map_write pages k)) [
      | inl is ↦ absurd (Contains-nil s (subst (λ (xs : List ℕ). Contains xs s) (cond-true (is_map_write pages k) [] few is) in'))
      | inr isn't ↦
          let page = page_write pages k h.unfinished isn't in
          let below = page.below in
          let more = page.more in
          let count = taken_before_page k below in
          let here = subst (λ (xs : List ℕ). Contains xs s) (cond-false (is_map_write pages k) [] few isn't) in' in
          elim (cases_eq (k % 512) 510) [
            | inl high ↦
                let last = map_within pages k high more in
                slots_within free (taken_after k) 2 (writes_of w.info) s (omega arith) h.room
                (subst (λ (c : ℕ). Contains (take c (drop (taken_after k) free)) s) (cond-true (eqb (k % 512) 510) 2 1 (eq-eqb (k % 512) 510 high)) here)
            | inr low ↦
                slots_within free (taken_after k) 1 (writes_of w.info) s (omega arith) h.room
                (subst (λ (c : ℕ). Contains (take c (drop (taken_after k) free)) s) (cond-false (eqb (k % 512) 510) 2 1 (ne_eqb (k % 512) 510 low)) here)
          ]
    ]

-- a step leaves the slots that the table names the image's
pub names_after_write : (free : List ℕ) (frames : List (List ℕ)) (w : Writing) → IsWriting free frames w → IsTable frames w.table → ((s : ℕ) → Contains (slots_of_write w.info free w.written) s → s < w.table.slots) →
    NamesOf free (writes_of w.info) frames w.table → NamesOf free (writes_of w.info) (with_entries frames w.table.first (slots_of_write w.info free w.written) 65536) w.table
names_after_write free frames w h at below names s lt named =
    ⊎_elim (λ taken. slots_of_image free frames w s h taken) (λ was. names s lt was)
    (named_before frames w.table.first w.table.slots (slots_of_write w.info free w.written) s at.pages at.lies below named)

-- Each place of the image's slots is that of a write.

full_is_map : (pages k : ℕ) → k % 512 ≡ 511 → is_map_write pages k ≡ true
full_is_map pages k e = or_left (eqb (k % 512) 511) (eqb (k + 1) (pages + maps_of pages)) (eq-eqb (k % 512) 511 e)

last_is_map : (pages k : ℕ) → k + 1 ≡ pages + maps_of pages → is_map_write pages k ≡ true
last_is_map pages k e = or_right (eqb (k % 512) 511) (eqb (k + 1) (pages + maps_of pages)) (eq-eqb (k + 1) (pages + maps_of pages) e)

page_is_no_map : (pages k : ℕ) → (k % 512 ≡ 511 → ⊥) → (k + 1 ≡ pages + maps_of pages → ⊥) → is_map_write pages k ≡ false
page_is_no_map pages k full last = or_none (eqb (k % 512) 511) (eqb (k + 1) (pages + maps_of pages)) (ne_eqb (k % 512) 511 full) (ne_eqb (k + 1) (pages + maps_of pages) last)

place_has_write : (pages place : ℕ) → place < pages + maps_of pages → (k : ℕ) × (k < pages + maps_of pages) × (place_of pages k ≡ place)
place_has_write pages place lt = elim (cases_eq (place % 512) 0) [
  | inl e ↦
      let j = place / 512 in
      elim (cases_lt (j + 1) (maps_of pages)) [
        | inl more ↦
            let k = 512 * j + 511 in
            let full : k % 512 ≡ 511 = omega arith in
            let is = full_is_map pages k full in
            (k, omega arith, cond-true (is_map_write pages k) (map_place (k / 512)) (page_place (page_of_write k)) is ∙ omega arith)
        | inr last ↦
            let k = pages + pages / 511 in
            let is = last_is_map pages k (omega arith) in
            (k, omega arith, cond-true (is_map_write pages k) (map_place (k / 512)) (page_place (page_of_write k)) is ∙ omega arith)
      ]
  | inr ne ↦
      let k = place - 1 in
      let isn't = page_is_no_map pages k (λ e. omega arith) (λ e. omega arith) in
      (k, omega arith, cond-false (is_map_write pages k) (map_place (k / 512)) (page_place (page_of_write k)) isn't ∙ omega arith)
]

-- the block of each of them is one of Laid
pub laid_has_block : (extents : List (ℕ × ℕ × ℕ)) (free : List ℕ) (stream : List (List ℕ)) (place : ℕ) → place < length stream + maps_of (length stream) → Contains (map (λ made. made.0) (laid extents free stream)) (laid_block extents free place)
unfolding laid
laid_has_block extents free stream place lt =
    let pages = length stream in
    let total = pages + maps_of pages in
    let write : ℕ → ℕ × List ℕ = write_at extents free stream in
    let block : ℕ × List ℕ → ℕ = λ made. made.0 in
    let all = map write (range_with_len 0 total) in
    let found = place_has_write pages place lt in
    let k = found.0 in
    let size : length all ≡ total = length-map-range_with_len write 0 total in
    let k_lt : k < total = found.1 in
    let is : get_or (map block all) k 0 ≡ laid_block extents free place =
    get_or-map block all k (0, []) 0 (omega arith)
    ∙ ap block (get_or-map-range_with_len write 0 total k k (0, []) k_lt (zero-add k))
    ∙ block_of_write extents free pages k (get_or stream (page_of_write k) [])
    ∙ ap (laid_block extents free) found.2 in
    subst (λ (x : ℕ). Contains (map block all) x) is (Contains-get_or (map block all) k 0 (omega (arith, length-map all block)))

-- a slot that the table names lies on one of the laid blocks
pub names_laid : (extents : List (ℕ × ℕ × ℕ)) (free : List ℕ) (stream : List (List ℕ)) (frames : List (List ℕ)) (table : SlotTable) (s : ℕ) → length stream + maps_of (length stream) ≤ length free →
    NamesOf free (length stream + maps_of (length stream)) frames table → s < table.slots → entry_at frames table.first s ≡ 65536 → Contains (map (λ made. made.0) (laid extents free stream)) (block_of extents s)
names_laid extents free stream frames table s enough names lt named =
    let total = length stream + maps_of (length stream) in
    let (i, i_lt, e) = names s lt named in
    let size = length-take-le total free enough in
    let place : i < total = omega arith in
    let slot : get_or free i 0 ≡ s = get_or_default free i 0 s (omega arith) ∙ sym (get_or-take total free i s place) ∙ e in
    subst (λ (x : ℕ). Contains (map (λ made. made.0) (laid extents free stream)) (block_of extents x)) slot (laid_has_block extents free stream i place)
