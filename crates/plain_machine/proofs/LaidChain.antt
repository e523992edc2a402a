-- A disk that reads as laid has the chain of the stream.
use Rattle.std.proofs.Common.{◌≡◌, ℕ, ◌+◌, ◌-◌, ◌*◌, ◌/◌, ◌%◌, ◌^◌, ◌<◌, ◌≤◌, zero, suc, Bool, true, false, not, ◌&&◌, ◌||◌, List, [], ◌∷◌, length, get_or, map, min, cond, eqb, ltb, Option, Some, None, Ok, refl, sym, ap, ap₂, ◌∙◌, subst, inl, inr, arith, zero-add}
use Rattle.std.proofs.lemmas.Bool.{cases_eq, cases_lt, cond-true, cond-false, eq-eqb, ne_eqb, lt-ltb, false≢true}
use Rattle.std.proofs.lemmas.List.{ext_get_or, length-map, get_or-map}
use Rattle.std.proofs.lemmas.List.Folds.{list_any_at}
use Rattle.std.proofs.lemmas.List.FromFn.{length-map-range_with_len, get_or-map-range_with_len, length-range_with_len, get_or-range_with_len}
use Rattle.std.specs.List.{list_any, range_with_len}
use Rattle.definitions.specs.Disk as disk
use Rattle.definitions.specs.Slots.{block_of}
use Rattle.definitions.specs.FileMaps.{IsFileMap}
use Rattle.definitions.specs.SwapHeader.{last_page_of}
use Rattle.definitions.specs.SwapMap.{map_page, map_entry, map_link}
use Rattle.definitions.proofs.FileMaps.{extent_of_slot, block_of-slot, block_of-injective}
use Rattle.definitions.proofs.SwapMaps.{map_entry-map_page, map_link-map_page}
use Rattle.plain_machine.specs.Machine.{Hardware, block_of_slot}
use Rattle.plain_machine.specs.Image.{maps_of}
use Rattle.plain_machine.specs.Image.{page_place, map_place, laid_block, laid_entries, laid_map, laid_write}
use Rattle.plain_machine.specs.Image.{is_map_write, page_of_write}
use Rattle.plain_machine.specs.Chain.{header_of, blocks_of, is_at_fault, map_block, entry_block, block_fault, map_fault}
use Rattle.plain_machine.specs.Chain.{entry_fault, or_else, first_some, place_fault, chain, ok_unless}
use Rattle.plain_machine.specs.declared.reply.Reply.{Reply}
use Rattle.plain_machine.specs.declared.reply.Reply.TheVariants.{NoChain, BadBlock, ChainEnds}

-- each write of the stream reads as it is laid
abbrev pub ReadsLaid : Hardware → List ℕ → List (List ℕ) → disk.DiskImage → Type 0
ReadsLaid h free stream v =
    (k : ℕ) → k < length stream + maps_of (length stream) →
    disk.block v (laid_write h.extents free (length stream) (get_or stream (page_of_write k) []) k).0 ≡ (laid_write h.extents free (length stream) (get_or stream (page_of_write k) []) k).1

-- The slots that a writer takes: they are the map's, none is slot 0, the area has each, and the disk has its block.
pub record AreUsable (h : Hardware) (v : disk.DiskImage) (free : List ℕ) (count : ℕ) : Type 0 where
  pub file_map : (slots : ℕ) × IsFileMap h.extents slots × ((place : ℕ) → place < count → get_or free place 0 < slots)
  pub behind_header : (place : ℕ) → place < count → 0 < get_or free place 0
  pub in_area : (place : ℕ) → place < count → get_or free place 0 ≤ last_page_of (header_of h v)
  pub on_disk : (place : ℕ) → place < count → laid_block h.extents free place < blocks_of v
  pub fits : blocks_of v ≤ 2 ^ 64

-- Which write is that of a page, and of a map.

or-false : (a b : Bool) → a ≡ false → b ≡ false → (a || b) ≡ false
or-false true b e f = absurd (false≢true (sym e))
or-false false b e f = f

or-true_left : (a b : Bool) → a ≡ true → (a || b) ≡ true
or-true_left true b e = refl
or-true_left false b e = absurd (false≢true e)

or-true_right : (a b : Bool) → b ≡ true → (a || b) ≡ true
or-true_right true b e = refl
or-true_right false b e = e

abbrev write_of_page : ℕ → ℕ
write_of_page k = k + k / 511

page_isn't_map : (pages k : ℕ) → k < pages → is_map_write pages (write_of_page k) ≡ false
page_isn't_map pages k lt =
    or-false (eqb (write_of_page k % 512) 511) (eqb (write_of_page k + 1) (pages + maps_of pages))
    (ne_eqb (write_of_page k % 512) 511 (λ e. omega arith))
    (ne_eqb (write_of_page k + 1) (pages + maps_of pages) (λ e. omega arith))

-- the write of map j: after 511 pages more, or after the last page
pub record IsMapWrite (pages j k : ℕ) : Type 0 where
  pub within : k < pages + maps_of pages
  pub map_is : k / 512 ≡ j
  pub is_map : is_map_write pages k ≡ true

pub map_has_write : (pages j : ℕ) → j < maps_of pages → (k : ℕ) × IsMapWrite pages j k
map_has_write pages j lt = elim (cases_lt (j + 1) (maps_of pages)) [
  | inl more ↦ (
    512 * j + 511,
    record {
      within = omega arith;
      map_is = omega arith;
      is_map = let full : (512 * j + 511) % 512 ≡ 511 = omega arith in
          or-true_left (eqb ((512 * j + 511) % 512) 511) (eqb (512 * j + 511 + 1) (pages + maps_of pages)) (eq-eqb ((512 * j + 511) % 512) 511 full);
    },
  )
  | inr last ↦ (
    pages + pages / 511,
    record {
      within = omega arith;
      map_is = omega arith;
      is_map = let end : pages + pages / 511 + 1 ≡ pages + maps_of pages = omega arith in
          or-true_right (eqb ((pages + pages / 511) % 512) 511) (eqb (pages + pages / 511 + 1) (pages + maps_of pages)) (eq-eqb (pages + pages / 511 + 1) (pages + maps_of pages) end);
    },
  )
]

-- what the disk reads there

page_reads : (h : Hardware) (free : List ℕ) (stream : List (List ℕ)) (v : disk.DiskImage) (k : ℕ) → ReadsLaid h free stream v → k < length stream → disk.block v (laid_block h.extents free (page_place k)) ≡ get_or stream k []
page_reads h free stream v k reads lt =
    let n = write_of_page k in
    let pages = length stream in
    let page : page_of_write n ≡ k = omega arith in
    let map_made : ℕ × List ℕ = (laid_block h.extents free (map_place (n / 512)), laid_map h.extents free pages (n / 512)) in
    let page_made : ℕ × List ℕ = (laid_block h.extents free (page_place (page_of_write n)), get_or stream (page_of_write n) []) in
    let made : laid_write h.extents free pages (get_or stream (page_of_write n) []) n ≡ (laid_block h.extents free (page_place k), get_or stream k []) =
    cond-false (is_map_write pages n) map_made page_made (page_isn't_map pages k lt)
    ∙ ap (λ (i : ℕ). (laid_block h.extents free (page_place i), get_or stream i [])) page in
    subst (λ (w : ℕ × List ℕ). disk.block v w.0 ≡ w.1) made (reads n (omega arith))

map_reads : (h : Hardware) (free : List ℕ) (stream : List (List ℕ)) (v : disk.DiskImage) (j : ℕ) → ReadsLaid h free stream v → j < maps_of (length stream) → disk.block v (laid_block h.extents free (map_place j)) ≡ laid_map h.extents free (length stream) j
map_reads h free stream v j reads lt =
    let pages = length stream in
    let write = map_has_write pages j lt in
    let k = write.0 in
    let map_made : ℕ × List ℕ = (laid_block h.extents free (map_place (k / 512)), laid_map h.extents free pages (k / 512)) in
    let page_made : ℕ × List ℕ = (laid_block h.extents free (page_place (page_of_write k)), get_or stream (page_of_write k) []) in
    let made : laid_write h.extents free pages (get_or stream (page_of_write k) []) k ≡ (laid_block h.extents free (map_place j), laid_map h.extents free pages j) =
    cond-true (is_map_write pages k) map_made page_made write.1.is_map
    ∙ ap (λ (i : ℕ). (laid_block h.extents free (map_place i), laid_map h.extents free pages i)) write.1.map_is in
    subst (λ (w : ℕ × List ℕ). disk.block v w.0 ≡ w.1) made (reads k write.1.within)

-- What a map says.

entries_few : (extents : List (ℕ × ℕ × ℕ)) (free : List ℕ) (pages j : ℕ) → length (laid_entries extents free (511 * j) (min 511 (pages - 511 * j))) ≡ min 511 (pages - 511 * j)
entries_few extents free pages j = length-map-range_with_len (λ i. laid_block extents free (page_place i)) (511 * j) (min 511 (pages - 511 * j))

link_of_map : (extents : List (ℕ × ℕ × ℕ)) (free : List ℕ) (pages j : ℕ) → j + 1 < maps_of pages → laid_block extents free (map_place (j + 1)) < 2 ^ 64 → map_link (laid_map extents free pages j) ≡ laid_block extents free (map_place (j + 1))
unfolding laid_map
link_of_map extents free pages j lt fits =
    let entries = laid_entries extents free (511 * j) (min 511 (pages - 511 * j)) in
    let next = laid_block extents free (map_place (j + 1)) in
    let size = entries_few extents free pages j in
    let more : j + 1 ≡ maps_of pages → ⊥ = λ e. omega arith in
    let link : cond (eqb (j + 1) (maps_of pages)) 0 next ≡ next = cond-false (eqb (j + 1) (maps_of pages)) 0 next (ne_eqb (j + 1) (maps_of pages) more) in
    ap (λ (l : ℕ). map_link (map_page entries l)) link ∙ map_link-map_page entries next (omega arith) fits

entry_of_map : (extents : List (ℕ × ℕ × ℕ)) (free : List ℕ) (pages k : ℕ) → k < pages → laid_block extents free (page_place k) < 2 ^ 64 → map_entry (laid_map extents free pages (k / 511)) (k % 511) ≡ laid_block extents free (page_place k)
unfolding laid_map
entry_of_map extents free pages k lt fits =
    let j = k / 511 in
    let block : ℕ → ℕ = λ i. laid_block extents free (page_place i) in
    let n = min 511 (pages - 511 * j) in
    let entries = laid_entries extents free (511 * j) n in
    let link = cond (eqb (j + 1) (maps_of pages)) 0 (laid_block extents free (map_place (j + 1))) in
    let size = entries_few extents free pages j in
    let here : get_or entries (k % 511) 0 ≡ block k = get_or-map-range_with_len block (511 * j) n (k % 511) k 0 (omega arith) (omega arith) in
    map_entry-map_page entries link (k % 511) (omega arith) (omega arith) (omega arith) ∙ here

-- The chain, map by map.

-- what the laws below are about
pub record IsLaid (h : Hardware) (free : List ℕ) (stream : List (List ℕ)) (v : disk.DiskImage) : Type 0 where
  pub reads : ReadsLaid h free stream v
  pub usable : AreUsable h v free (length stream + maps_of (length stream))

map_place_within : (pages j : ℕ) → j < maps_of pages → map_place j < pages + maps_of pages
map_place_within pages j lt = omega arith

page_place_within : (pages k : ℕ) → k < pages → page_place k < pages + maps_of pages
page_place_within pages k lt = omega arith

block_fits : (h : Hardware) (free : List ℕ) (stream : List (List ℕ)) (v : disk.DiskImage) (place : ℕ) → IsLaid h free stream v → place < length stream + maps_of (length stream) → laid_block h.extents free place < 2 ^ 64
block_fits h free stream v place laid lt = let below = laid.usable.on_disk place lt in let fits = laid.usable.fits in omega arith

pub map_block-laid : (h : Hardware) (free : List ℕ) (stream : List (List ℕ)) (v : disk.DiskImage) (j : ℕ) → IsLaid h free stream v → j < maps_of (length stream) → map_block v (laid_block h.extents free 0) j ≡ laid_block h.extents free (map_place j)
map_block-laid h free stream v zero laid lt = refl
map_block-laid h free stream v (suc j) laid lt =
    let before = map_block-laid h free stream v j laid (omega arith) in
    let next : j + 1 ≡ suc j = omega arith in
    let within = map_place_within (length stream) (j + 1) (omega arith) in
    ap (λ (b : ℕ). map_link (disk.block v b)) before
    ∙ ap map_link (map_reads h free stream v j laid.reads (omega arith))
    ∙ link_of_map h.extents free (length stream) j (omega arith) (block_fits h free stream v (map_place (j + 1)) laid within)
    ∙ ap (λ (i : ℕ). laid_block h.extents free (map_place i)) next

pub entry_block-laid : (h : Hardware) (free : List ℕ) (stream : List (List ℕ)) (v : disk.DiskImage) (k : ℕ) → IsLaid h free stream v → k < length stream → entry_block v (laid_block h.extents free 0) k ≡ laid_block h.extents free (page_place k)
entry_block-laid h free stream v k laid lt =
    ap (λ (b : ℕ). map_entry (disk.block v b) (k % 511)) (map_block-laid h free stream v (k / 511) laid (omega arith))
    ∙ ap (λ (page : List ℕ). map_entry page (k % 511)) (map_reads h free stream v (k / 511) laid.reads (omega arith))
    ∙ entry_of_map h.extents free (length stream) k lt (block_fits h free stream v (page_place k) laid (page_place_within (length stream) k lt))

-- None of its blocks is at fault.

and-true : (a b : Bool) → a ≡ true → b ≡ true → (a && b) ≡ true
and-true true b e f = f
and-true false b e f = absurd (false≢true e)

-- slot s is no other one's block, and none but slot 0 lies on block 0
pub block_not_0 : (extents : List (ℕ × ℕ × ℕ)) (slots s : ℕ) → IsFileMap extents slots → 0 < s → s < slots → block_of extents s ≡ 0 → ⊥
block_not_0 extents slots s file_map some lt e =
    let at = extent_of_slot extents slots s file_map lt in
    let is = block_of-slot extents slots at.0 s file_map at.1 in
    let from = at.1.from in
    let header = (file_map.each at.0 at.1.within).header in
    let start = header (omega arith) in
    omega arith

no_fault : (h : Hardware) (free : List ℕ) (stream : List (List ℕ)) (v : disk.DiskImage) (place : ℕ) → IsLaid h free stream v → place < length stream + maps_of (length stream) → is_at_fault h v (laid_block h.extents free place) ≡ false
no_fault h free stream v place laid lt =
    let s = get_or free place 0 in
    let x = laid_block h.extents free place in
    let last = last_page_of (header_of h v) in
    let (slots, file_map, below) = laid.usable.file_map in
    let some = laid.usable.behind_header place lt in
    let in_area = laid.usable.in_area place lt in
    let not_header : x ≡ block_of_slot h 0 → ⊥ = λ e.
    let same = block_of-injective h.extents slots s 0 file_map (below place lt) (let s_lt = below place lt in omega arith) e in omega arith in
    let at : get_or (range_with_len 1 last) (s - 1) 0 ≡ s = get_or-range_with_len 1 last (s - 1) 0 (omega arith) ∙ omega arith in
    let size = length-range_with_len 1 last in
    let found : list_any (λ t. eqb (block_of_slot h t) x) (range_with_len 1 last) ≡ true =
    list_any_at (λ t. eqb (block_of_slot h t) x) (range_with_len 1 last) (s - 1) 0 (omega arith)
    (ap (λ (t : ℕ). eqb (block_of_slot h t) x) at ∙ eq-eqb (block_of_slot h s) x refl) in
    let there = and-true (ltb x (blocks_of v)) (list_any (λ t. eqb (block_of_slot h t) x) (range_with_len 1 last)) (lt-ltb x (blocks_of v) (laid.usable.on_disk place lt)) found in
    or-false (eqb x (block_of_slot h 0)) (not (ltb x (blocks_of v) && list_any (λ t. eqb (block_of_slot h t) x) (range_with_len 1 last))) (ne_eqb x (block_of_slot h 0) not_header) (ap not there)

-- The chain.

first_some-none : (faults : List (Option Reply)) → ((k : ℕ) → k < length faults → get_or faults k None ≡ None) → first_some faults ≡ None
first_some-none [] none = refl
first_some-none (x ∷ faults) none =
    ap (λ (y : Option Reply). or_else y (first_some faults)) (none 0 (omega arith))
    ∙ first_some-none faults (λ k lt. none (suc k) (omega arith))

block_right : (h : Hardware) (free : List ℕ) (stream : List (List ℕ)) (v : disk.DiskImage) (place x : ℕ) → IsLaid h free stream v → place < length stream + maps_of (length stream) → x ≡ laid_block h.extents free place → block_fault h v x ≡ None
block_right h free stream v place x laid lt is =
    ap (block_fault h v) is ∙ cond-false (is_at_fault h v (laid_block h.extents free place)) (Some (BadBlock (laid_block h.extents free place))) None (no_fault h free stream v place laid lt)

not_0 : (h : Hardware) (free : List ℕ) (stream : List (List ℕ)) (v : disk.DiskImage) (place x : ℕ) → IsLaid h free stream v → place < length stream + maps_of (length stream) → x ≡ laid_block h.extents free place → eqb x 0 ≡ false
not_0 h free stream v place x laid lt is =
    let (slots, file_map, below) = laid.usable.file_map in
    ne_eqb x 0 (λ e. block_not_0 h.extents slots (get_or free place 0) file_map (laid.usable.behind_header place lt) (below place lt) (sym is ∙ e))

map_right : (h : Hardware) (free : List ℕ) (stream : List (List ℕ)) (v : disk.DiskImage) (j : ℕ) → IsLaid h free stream v → j < maps_of (length stream) → map_fault h v (laid_block h.extents free 0) j ≡ None
map_right h free stream v zero laid lt =
    let b = laid_block h.extents free 0 in
    let within : 0 < length stream + maps_of (length stream) = omega arith in
    cond-false (eqb b 0) (Some NoChain) (block_fault h v b) (not_0 h free stream v 0 b laid within refl) ∙ block_right h free stream v 0 b laid within refl
map_right h free stream v (suc j) laid lt =
    let b = laid_block h.extents free 0 in
    let x = map_block v b (suc j) in
    let within = map_place_within (length stream) (suc j) lt in
    let is = map_block-laid h free stream v (suc j) laid lt in
    cond-false (eqb x 0) (Some (ChainEnds (suc j))) (block_fault h v x) (not_0 h free stream v (map_place (suc j)) x laid within is)
    ∙ block_right h free stream v (map_place (suc j)) x laid within is

place_right : (h : Hardware) (free : List ℕ) (stream : List (List ℕ)) (v : disk.DiskImage) (k : ℕ) → IsLaid h free stream v → k < length stream → place_fault h v (laid_block h.extents free 0) k ≡ None
place_right h free stream v k laid lt =
    let b = laid_block h.extents free 0 in
    let entry : entry_fault h v b k ≡ None = block_right h free stream v (page_place k) (entry_block v b k) laid (page_place_within (length stream) k lt) (entry_block-laid h free stream v k laid lt) in
    let both : or_else (map_fault h v b (k / 511)) (entry_fault h v b k) ≡ None =
    ap₂ or_else (map_right h free stream v (k / 511) laid (omega arith)) entry in
    elim (cases_eq (k % 511) 0) [
      | inl e ↦ cond-true (eqb (k % 511) 0) (or_else (map_fault h v b (k / 511)) (entry_fault h v b k)) (entry_fault h v b k) (eq-eqb (k % 511) 0 e) ∙ both
      | inr ne ↦ cond-false (eqb (k % 511) 0) (or_else (map_fault h v b (k / 511)) (entry_fault h v b k)) (entry_fault h v b k) (ne_eqb (k % 511) 0 ne) ∙ entry
    ]

-- A disk that reads as laid has the blocks of the stream's pages as its chain,
pub chain-laid : (h : Hardware) (free : List ℕ) (stream : List (List ℕ)) (v : disk.DiskImage) → IsLaid h free stream v → chain h v (laid_block h.extents free 0) (length stream) ≡ Ok (laid_entries h.extents free 0 (length stream))
unfolding chain
chain-laid h free stream v laid =
    let b = laid_block h.extents free 0 in
    let pages = length stream in
    let faults = map (place_fault h v b) (range_with_len 0 pages) in
    let none : first_some faults ≡ None = first_some-none faults (λ k lt.
    let within : k < pages = omega (arith, length-map-range_with_len (place_fault h v b) 0 pages) in
    get_or-map-range_with_len (place_fault h v b) 0 pages k k None within (zero-add k) ∙ place_right h free stream v k laid within) in
    let block : ℕ → ℕ = λ i. laid_block h.extents free (page_place i) in
    let entries : map (entry_block v b) (range_with_len 0 pages) ≡ laid_entries h.extents free 0 pages =
    ext_get_or 0 (map (entry_block v b) (range_with_len 0 pages)) (laid_entries h.extents free 0 pages)
    (length-map-range_with_len (entry_block v b) 0 pages ∙ sym (length-map-range_with_len block 0 pages))
    (λ k lt.
    let within : k < pages = omega (arith, length-map-range_with_len (entry_block v b) 0 pages) in
    get_or-map-range_with_len (entry_block v b) 0 pages k k 0 within (zero-add k)
    ∙ entry_block-laid h free stream v k laid within
    ∙ sym (get_or-map-range_with_len block 0 pages k k 0 within (zero-add k))) in
    ap₂ ok_unless none entries

-- and these blocks read as the stream.
pub blocks-laid : (h : Hardware) (free : List ℕ) (stream : List (List ℕ)) (v : disk.DiskImage) → IsLaid h free stream v → map (disk.block v) (laid_entries h.extents free 0 (length stream)) ≡ stream
blocks-laid h free stream v laid =
    let pages = length stream in
    let block : ℕ → ℕ = λ i. laid_block h.extents free (page_place i) in
    let entries = laid_entries h.extents free 0 pages in
    let size : length entries ≡ pages = length-map-range_with_len block 0 pages in
    let mapped : length (map (disk.block v) entries) ≡ pages = length-map entries (disk.block v) ∙ size in
    ext_get_or [] (map (disk.block v) entries) stream mapped
    (λ k lt.
    let within : k < pages = omega arith in
    get_or-map (disk.block v) entries k 0 [] (omega arith)
    ∙ ap (disk.block v) (get_or-map-range_with_len block 0 pages k k 0 within (zero-add k))
    ∙ page_reads h free stream v k laid.reads within)
