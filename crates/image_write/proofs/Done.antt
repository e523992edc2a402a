-- What the writes have made of the disk: after the first k writes their blocks read as laid.
use Rattle.std.proofs.Common.{◌≡◌, ℕ, ◌+◌, ◌-◌, ◌*◌, ◌/◌, ◌%◌, ◌<◌, ◌≤◌, ◌⊎◌, Bool, true, false, List, [], length, get_or, min, cond, eqb, refl, sym, ap, ◌∙◌, subst, inl, inr, arith, zero-add}
use Rattle.std.proofs.lemmas.Bool.{cases_lt, cases_order, cases_Bool, cond-true, cond-false}
use Rattle.std.proofs.lemmas.List.{length-map}
use Rattle.std.proofs.lemmas.List.FromFn.{length-map-range_with_len, get_or-map-range_with_len}
use Rattle.std.proofs.lemmas.List.Kept.{AllPairs-from_increasing}
use Rattle.std.specs.List.{All}
use Rattle.std.specs.List.Sorted.{IsStrictlyIncreasing}
use Rattle.definitions.specs.Bytes.{IsPage, zero_page}
use Rattle.definitions.specs.Disk.{Content, DiskImage, as_it_reads, block, Writes}
use Rattle.definitions.specs.FileMaps.{IsFileMap}
use Rattle.definitions.proofs.DiskLaws.{block-other}
use Rattle.definitions.proofs.PageBytes.{length-zero_page}
use Rattle.definitions.proofs.FileMaps.{block_of-injective}
use Rattle.definitions.proofs.SwapMaps.{length-map_page}
use Rattle.plain_machine.proofs.DiskBlocks.{block-written}
use Rattle.plain_machine.specs.Image.{maps_of}
use Rattle.plain_machine.specs.Image.{page_place, map_place, laid_block, laid_map, laid_entries, laid, laid_write}
use Rattle.plain_machine.specs.Image.{is_map_write, page_of_write}
use Rattle.image_write.proofs.Places.{page_write, last_entries, page_is_one, map_write, taken_before_page}
use Rattle.definitions.specs.NumberPages.{meta_of, marked_numbers}
use Rattle.definitions.specs.Tables.{frame}
use Rattle.definitions.specs.declared.info.Info.{Info}
use Rattle.frame_sets.proofs.Filling.{length-marked}
use Rattle.image_write.specs.Copies.{with_data, data_pages}
use Rattle.image_write.specs.Writing.{Writing, IsWriting, HasTaken, AreOfImage, stream_of_sets, taken_after, writes_of, page_next, write_next}
use Rattle.image_write.proofs.Heads.{length-stream_pages}

-- The blocks of two writes.

-- how many slots are taken before the one of the block that write k writes
abbrev pub place_of : ℕ → ℕ → ℕ
place_of pages k = cond (is_map_write pages k) (map_place (k / 512)) (page_place (page_of_write k))

either_block : (made other : ℕ × List ℕ) (extents : List (ℕ × ℕ × ℕ)) (free : List ℕ) (m n : ℕ) (b : Bool) → made.0 ≡ laid_block extents free m → other.0 ≡ laid_block extents free n → (cond b made other).0 ≡ laid_block extents free (cond b m n)
either_block made other extents free m n true e f = e
either_block made other extents free m n false e f = f

pub block_of_write : (extents : List (ℕ × ℕ × ℕ)) (free : List ℕ) (pages k : ℕ) (page : List ℕ) → (laid_write extents free pages page k).0 ≡ laid_block extents free (place_of pages k)
block_of_write extents free pages k page =
    either_block (laid_block extents free (map_place (k / 512)), laid_map extents free pages (k / 512)) (laid_block extents free (page_place (page_of_write k)), page)
    extents free (map_place (k / 512)) (page_place (page_of_write k)) (is_map_write pages k) refl refl

either_page : (P : List ℕ → Type 0) (made other : ℕ × List ℕ) (b : Bool) → P made.1 → P other.1 → P (cond b made other).1
either_page P made other true p q = p
either_page P made other false p q = q

-- what a place says of its write
abbrev WritesAt : ℕ → ℕ → ℕ → Type 0
WritesAt pages k place =
    ((k % 512 < 511) × (k + 1 < pages + maps_of pages) × (place ≡ k + 1))
    ⊎ (((k % 512 ≡ 511) ⊎ (k + 1 ≡ pages + maps_of pages)) × (place ≡ 512 * (k / 512)))

writes_at : (pages k : ℕ) → k < pages + maps_of pages → WritesAt pages k (place_of pages k)
writes_at pages k lt = elim (cases_Bool (is_map_write pages k)) [
  | inl e ↦ inr (map_write pages k e, cond-true (is_map_write pages k) (map_place (k / 512)) (page_place (page_of_write k)) e)
  | inr e ↦
      let page = page_write pages k lt e in
      let below = page.below in
      inl (below, page.more, cond-false (is_map_write pages k) (map_place (k / 512)) (page_place (page_of_write k)) e ∙ taken_before_page k below)
]

place_within : (pages k place : ℕ) → k < pages + maps_of pages → WritesAt pages k place → place < pages + maps_of pages
place_within pages k place lt (inl (below, more, is)) = omega arith
place_within pages k place lt (inr (kind, is)) = omega arith

page_and_map : (pages i j m n : ℕ) → i % 512 < 511 → m ≡ i + 1 → n ≡ 512 * (j / 512) → m ≡ n → ⊥
page_and_map pages i j m n below m_is n_is e = omega arith

maps_apart : (pages i j : ℕ) → i < j → j < pages + maps_of pages → (i % 512 ≡ 511) ⊎ (i + 1 ≡ pages + maps_of pages) → 512 * (i / 512) ≡ 512 * (j / 512) → (j % 512 ≡ 511) ⊎ (j + 1 ≡ pages + maps_of pages) → ⊥
maps_apart pages i j lt within (inl full) e (inl other) = omega arith
maps_apart pages i j lt within (inl full) e (inr last) = omega arith
maps_apart pages i j lt within (inr last) e other = omega arith

places_apart : (pages i j m n : ℕ) → i < j → j < pages + maps_of pages → WritesAt pages i m → WritesAt pages j n → m ≡ n → ⊥
places_apart pages i j m n lt within (inl (below, more, is)) (inl (other_below, other_more, other_is)) e = omega arith
places_apart pages i j m n lt within (inl (below, more, is)) (inr (kind, other_is)) e = page_and_map pages i j m n below is other_is e
places_apart pages i j m n lt within (inr (kind, is)) (inl (other_below, other_more, other_is)) e = page_and_map pages j i n m other_below other_is is (sym e)
places_apart pages i j m n lt within (inr (kind, is)) (inr (other, other_is)) e = maps_apart pages i j lt within kind (sym is ∙ e ∙ other_is) other

-- each write takes one of as many slots as there are writes
pub place_below : (pages k : ℕ) → k < pages + maps_of pages → place_of pages k < pages + maps_of pages
place_below pages k lt = place_within pages k (place_of pages k) lt (writes_at pages k lt)

-- The slots of the writes: they are the file map's, ascending.
pub record AreSlots (extents : List (ℕ × ℕ × ℕ)) (free : List ℕ) (count : ℕ) : Type 0 where
  pub file_map : (slots : ℕ) × IsFileMap extents slots × ((place : ℕ) → place < count → get_or free place 0 < slots)
  pub ascending : IsStrictlyIncreasing free
  pub enough : count ≤ length free

rises : (xs : List ℕ) (i j : ℕ) → IsStrictlyIncreasing xs → i < j → j < length xs → get_or xs i 0 < get_or xs j 0
rises xs i j up lt within = AllPairs-from_increasing xs up i j 0 lt within

distinct_slots : (free : List ℕ) (m n : ℕ) → IsStrictlyIncreasing free → m < length free → n < length free → (m ≡ n → ⊥) → get_or free m 0 ≡ get_or free n 0 → ⊥
distinct_slots free m n up m_lt n_lt ne e = elim (cases_order m n) [
  | inl same ↦ ne same
  | inr apart ↦ elim apart [
    | inl lt ↦ let less = rises free m n up lt n_lt in omega arith
    | inr gt ↦ let less = rises free n m up gt m_lt in omega arith
  ]
]

-- two writes are of two blocks
pub blocks_apart : (extents : List (ℕ × ℕ × ℕ)) (free : List ℕ) (pages i j : ℕ) (a b : List ℕ) → AreSlots extents free (pages + maps_of pages) → i < j → j < pages + maps_of pages →
    (laid_write extents free pages a i).0 ≡ (laid_write extents free pages b j).0 → ⊥
blocks_apart extents free pages i j a b slots lt within e =
    let (all, file_map, below) = slots.file_map in
    let enough = slots.enough in
    let m = place_of pages i in
    let n = place_of pages j in
    let at_i = writes_at pages i (omega arith) in
    let at_j = writes_at pages j within in
    let m_lt = place_within pages i m (omega arith) at_i in
    let n_lt = place_within pages j n within at_j in
    let same : laid_block extents free m ≡ laid_block extents free n = sym (block_of_write extents free pages i a) ∙ e ∙ block_of_write extents free pages j b in
    let slot = block_of-injective extents all (get_or free m 0) (get_or free n 0) file_map (below m m_lt) (below n n_lt) same in
    distinct_slots free m n slots.ascending (omega arith) (omega arith) (places_apart pages i j m n lt within at_i at_j) slot

-- what is written is a page
pub written_page : (extents : List (ℕ × ℕ × ℕ)) (free : List ℕ) (pages k : ℕ) (page : List ℕ) → IsPage page → IsPage (laid_write extents free pages page k).1
unfolding laid_map
written_page extents free pages k page whole =
    let j = k / 512 in
    let entries = laid_entries extents free (511 * j) (min 511 (pages - 511 * j)) in
    let size : length entries ≡ min 511 (pages - 511 * j) = length-map-range_with_len (λ i. laid_block extents free (page_place i)) (511 * j) (min 511 (pages - 511 * j)) in
    let link = cond (eqb (j + 1) (maps_of pages)) 0 (laid_block extents free (map_place (j + 1))) in
    either_page IsPage (laid_block extents free (map_place j), laid_map extents free pages j) (laid_block extents free (page_place (page_of_write k)), page) (is_map_write pages k)
    (length-map_page entries link (omega arith)) whole

-- The first k writes of a stream read as laid.

abbrev pub write_at : List (ℕ × ℕ × ℕ) → List ℕ → List (List ℕ) → ℕ → ℕ × List ℕ
write_at extents free stream k = laid_write extents free (length stream) (get_or stream (page_of_write k) []) k

abbrev pub AreDone : List (ℕ × ℕ × ℕ) → List ℕ → List (List ℕ) → DiskImage → ℕ → Type 0
AreDone extents free stream v k = (j : ℕ) → j < k → block v (write_at extents free stream j).0 ≡ (write_at extents free stream j).1

pub none_done : (extents : List (ℕ × ℕ × ℕ)) (free : List ℕ) (stream : List (List ℕ)) (v : DiskImage) → AreDone extents free stream v 0
none_done extents free stream v j lt = absurd (omega arith)

map_is_page : (extents : List (ℕ × ℕ × ℕ)) (free : List ℕ) (pages k : ℕ) (page : List ℕ) → is_map_write pages k ≡ true → IsPage (laid_write extents free pages page k).1
map_is_page extents free pages k page is =
    let made : ℕ × List ℕ = (laid_block extents free (map_place (k / 512)), laid_map extents free pages (k / 512)) in
    let other : List ℕ → ℕ × List ℕ = λ p. (laid_block extents free (page_place (page_of_write k)), p) in
    let same : laid_write extents free pages page k ≡ laid_write extents free pages zero_page k =
    cond-true (is_map_write pages k) made (other page) is ∙ sym (cond-true (is_map_write pages k) made (other zero_page) is) in
    subst (λ (w : ℕ × List ℕ). IsPage w.1) (sym same) (written_page extents free pages k zero_page length-zero_page)

-- what is written is a page, where those of the stream are
pub pages_written : (extents : List (ℕ × ℕ × ℕ)) (free : List ℕ) (stream : List (List ℕ)) (k : ℕ) → All IsPage stream → k < length stream + maps_of (length stream) → IsPage (write_at extents free stream k).1
pages_written extents free stream k whole lt = elim (cases_Bool (is_map_write (length stream) k)) [
  | inl is ↦ map_is_page extents free (length stream) k (get_or stream (page_of_write k) []) is
  | inr isn't ↦ written_page extents free (length stream) k (get_or stream (page_of_write k) []) (whole (page_of_write k) [] (page_is_one (length stream) k (page_write (length stream) k lt isn't)))
]

-- one more
pub one_more_done : (extents : List (ℕ × ℕ × ℕ)) (free : List ℕ) (stream : List (List ℕ)) (k : ℕ) (old new : Content) → AreSlots extents free (length stream + maps_of (length stream)) →
    k < length stream + maps_of (length stream) → All IsPage stream → 8 * (write_at extents free stream k).0 + 8 ≤ length old →
    Writes (write_at extents free stream k).0 (write_at extents free stream k).1 old new → AreDone extents free stream (as_it_reads old) k → AreDone extents free stream (as_it_reads new) (k + 1)
one_more_done extents free stream k old new slots lt whole within writes done j j_lt = elim (cases_lt j k) [
  | inl before ↦
      let pages = length stream in
      let b = (write_at extents free stream k).0 in
      let c = (write_at extents free stream j).0 in
      let apart : (c < b) ⊎ (b < c) = elim (cases_order c b) [
        | inl e ↦ absurd (blocks_apart extents free pages j k (get_or stream (page_of_write j) []) (get_or stream (page_of_write k) []) slots before lt e)
        | inr ne ↦ ne
      ] in
      block-other b c old new writes.others apart ∙ done j before
  | inr ge ↦
      let here : k ≡ j = omega arith in
      subst (λ (i : ℕ). block (as_it_reads new) (write_at extents free stream i).0 ≡ (write_at extents free stream i).1) here
      (block-written (write_at extents free stream k).0 (write_at extents free stream k).1 old new (pages_written extents free stream k whole lt) within writes)
]

-- all
pub all_done : (extents : List (ℕ × ℕ × ℕ)) (free : List ℕ) (stream : List (List ℕ)) (v : DiskImage) → AreDone extents free stream v (length stream + maps_of (length stream)) → All (λ made. block v made.0 ≡ made.1) (laid extents free stream)
unfolding laid
all_done extents free stream v done k d lt =
    let count = length stream + maps_of (length stream) in
    let write : ℕ → ℕ × List ℕ = write_at extents free stream in
    let within : k < count = omega (arith, length-map-range_with_len write 0 count) in
    subst (λ (made : ℕ × List ℕ). block v made.0 ≡ made.1) (sym (get_or-map-range_with_len write 0 count k k d within (zero-add k))) (done k within)

-- and back
pub done_of_all : (extents : List (ℕ × ℕ × ℕ)) (free : List ℕ) (stream : List (List ℕ)) (v : DiskImage) → All (λ made. block v made.0 ≡ made.1) (laid extents free stream) → AreDone extents free stream v (length stream + maps_of (length stream))
unfolding laid
done_of_all extents free stream v all k lt =
    let count = length stream + maps_of (length stream) in
    let write : ℕ → ℕ × List ℕ = write_at extents free stream in
    subst (λ (made : ℕ × List ℕ). block v made.0 ≡ made.1) (get_or-map-range_with_len write 0 count k k (0, []) lt (zero-add k)) (all k (0, []) (omega (arith, length-map-range_with_len write 0 count)))

-- The slots of all writes are the image's before the last one, which is of a map and takes none.
pub all_taken : (free : List ℕ) (frames : List (List ℕ)) (w : Writing) → IsWriting free frames w → w.written + 1 ≡ writes_of w.info → HasTaken free (writes_of w.info) frames w.table
all_taken free frames w h last =
    let ends = last_entries w.info.pages w.written last in
    let ends_map = ends.0 in
    let ends_entries = ends.1 in
    let count : taken_after w.written ≡ writes_of w.info = omega arith in
    subst (λ (n : ℕ). HasTaken free n frames w.table) count h.slots

-- What a step writes is the next write of the stream of its sets.

pub length-stream_of_sets : (info : Info) (frames : List (List ℕ)) (origs copies zeros : List ℕ) → AreOfImage info origs copies zeros → length (stream_of_sets info frames origs copies zeros) ≡ info.pages
length-stream_of_sets info frames origs copies zeros sets =
    let originals = sets.originals in
    let pages = sets.pages in
    let pairs = with_data origs copies zeros in
    let read : ℕ × ℕ → List ℕ = λ pair. frame frames pair.1 in
    let saved : length (data_pages frames origs copies zeros) ≡ length pairs = length-map pairs read in
    let numbers = length-marked origs zeros in
    let meta = ap meta_of (numbers ∙ originals) in
    let whole = length-stream_pages info (marked_numbers origs zeros) (data_pages frames origs copies zeros) in
    omega arith

pub write_is : (free : List ℕ) (frames : List (List ℕ)) (w : Writing) (origs copies zeros : List ℕ) → AreOfImage w.info origs copies zeros →
    write_next free w (page_next (stream_of_sets w.info frames origs copies zeros) w) ≡ write_at w.extents free (stream_of_sets w.info frames origs copies zeros) w.written
write_is free frames w origs copies zeros sets =
    let stream = stream_of_sets w.info frames origs copies zeros in
    ap (λ (pages : ℕ). laid_write w.extents free pages (page_next stream w) w.written) (sym (length-stream_of_sets w.info frames origs copies zeros sets))
