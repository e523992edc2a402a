-- A stream that has come in is the chain of the marked disk.
use Rattle.std.proofs.Common.{◌≡◌, ◌≢◌, ◌⊎◌, ◌↔◌, ℕ, ◌+◌, ◌*◌, ◌%◌, ◌^◌, ◌<◌, ◌≤◌, zero, suc, true, eqb, bit_and, lit<, List, [], ◌∷◌, ◌++◌, All, length, get_or, take, drop, map, Option, Some, None, refl, sym, ap, ap₂, ◌∙◌, subst, inl, inr, arith, zero-add, mul-suc, append-nil, length-append}
use Rattle.std.specs.List.{Contains, concat, range_with_len}
use Rattle.std.proofs.Math.Seq.{take-add}
use Rattle.std.proofs.lemmas.Bool.{cases_eq, cases_lt, or_left, or_right, eq-eqb}
use Rattle.std.proofs.lemmas.List.{ext_get_or, take_all, take_at, drop_at, drop-drop}
use Rattle.std.proofs.lemmas.List.Elements.{Contains-get_or}
use Rattle.std.proofs.lemmas.List.Folds.{concat-append}
use Rattle.std.proofs.lemmas.List.FromFn.{length-map-range_with_len, get_or-map-range_with_len, map-range_with_len_more}
use Rattle.page_core.specs.declared.format.Format.{Format}
use Rattle.page_core.specs.declared.format.Format.TheVariants.{Plain, SkipZeros}
use Rattle.definitions.specs.Bytes.{IsPage}
use Rattle.definitions.specs.Disk as disk
use Rattle.definitions.specs.Slots.{block_of}
use Rattle.definitions.specs.FileMaps.{IsFileMap}
use Rattle.definitions.specs.SwapHeader.{IsMarked, marked, image_of, flags_of, last_page_of}
use Rattle.definitions.proofs.Ascending.{Contains-head}
use Rattle.image_format.specs.declared.signature.area.Area.{Area}
use Rattle.plain_machine.specs.Machine.{Hardware, block_of_slot}
use Rattle.plain_machine.specs.Image.{Image, stream_of, pages_of, maps_of}
use Rattle.plain_machine.specs.UsableArea.{bad_slots_of}
use Rattle.plain_machine.specs.Chain.{header_of, blocks_of, chain, Holds}
use Rattle.plain_machine.specs.Image.{laid_block, laid_entries, laid_write, is_map_write, page_of_write}
use Rattle.plain_machine.proofs.LaidChain as laying
use Rattle.protocol_laws.proofs.Laid.{length-stream_of}
use Rattle.protocol_laws.proofs.Marking.{header_is}
use Rattle.protocol_laws.proofs.MarkFields.{marked-is_marked, image_of-marked, flags_of-marked, last_page_of-marked}
use Rattle.image_write.specs.Writing.{BlocksBelow}
use Rattle.stream_in.specs.Grammar.{all_pages}
use Rattle.stream_in.specs.Area.{AreUsable}
use Rattle.stream_in.specs.Holding.{first_blocks, HoldsStream, AreOfImage, HasComeIn}
use Rattle.stream_in.specs.Holding.{page_at, AreOfMap, ReadAsMade}
use Rattle.stream_in.proofs.Laying.{same_write}

-- The pages of a stream, one after another.

pages_joined : (bs : List ℕ) (n : ℕ) → concat (map (page_at bs) (range_with_len 0 n)) ≡ take (4096 * n) bs
pages_joined bs zero = refl
pages_joined bs (suc n) =
    let one_more : suc n ≡ n + 1 = omega arith in
    let bytes : 4096 * n + 4096 ≡ 4096 * suc n = omega arith in
    ap (λ (k : ℕ). concat (map (page_at bs) (range_with_len 0 k))) one_more
    ∙ ap concat (map-range_with_len_more (page_at bs) 0 n n (zero-add n))
    ∙ concat-append (map (page_at bs) (range_with_len 0 n)) (page_at bs n ∷ [])
    ∙ ap₂ (λ (xs ys : List ℕ). xs ++ ys) (pages_joined bs n) (append-nil (page_at bs n))
    ∙ sym (take-add (4096 * n) 4096 bs)
    ∙ ap (λ (k : ℕ). take k bs) bytes

-- pages that are joined are told apart again
page_of_joined : (pages : List (List ℕ)) (j : ℕ) → All IsPage pages → j < length pages → page_at (concat pages) j ≡ get_or pages j []
page_of_joined [] j each lt = absurd (omega arith)
page_of_joined (page ∷ pages) zero each lt = take_at page (concat pages) 4096 (each 0 [] lt)
page_of_joined (page ∷ pages) (suc j) each lt =
    let next : 4096 * suc j ≡ 4096 + 4096 * j = omega (arith, mul-suc 4096 j) in
    rw next
    (ap (take 4096) (sym (drop-drop (4096 * j) 4096 (page ++ concat pages)) ∙ ap (drop (4096 * j)) (drop_at page (concat pages) 4096 (each 0 [] (omega arith))))
    ∙ page_of_joined pages j (λ k d below. each (suc k) d (omega arith)) (omega arith))

length-joined : (pages : List (List ℕ)) → All IsPage pages → length (concat pages) ≡ 4096 * length pages
length-joined [] each = refl
length-joined (page ∷ pages) each =
    let rest = length-joined pages (λ k d below. each (suc k) d (omega arith)) in
    let first = each 0 [] (omega arith) in
    omega (arith, length-append page (concat pages), mul-suc 4096 (length pages))

-- The disk.

-- what is known of a stream that is whole
pub record IsWholeFor (area : Area) (free bs : List ℕ) (blocks : ℕ) : Type 0 where
  pub size : length bs ≡ 4096 * all_pages bs
  pub some : 1 ≤ all_pages bs
  pub few : all_pages bs ≤ 65665
  pub room : all_pages bs + 1026 ≤ length free
  pub on_disk : BlocksBelow (first_blocks area) free (length free) blocks
  pub count : blocks < 2 ^ 32
  pub of_map : AreOfMap (first_blocks area) free
  pub usable : AreUsable area free

-- an image whose header block is this one's, marked, and whose other blocks read as the stream's writes were made
pub record IsMarkedOver (area : Area) (free bs page : List ℕ) (blocks : ℕ) (v : disk.DiskImage) : Type 0 where
  pub size : length v ≡ 8 * blocks
  pub some : 0 < blocks
  pub whole : IsPage page
  pub last : area.last ≡ last_page_of page
  pub header : disk.block v 0 ≡ marked page (laid_block (first_blocks area) free 0) 2 0
  pub written : ReadAsMade (first_blocks area) free (all_pages bs) (page_at bs) (all_pages bs + maps_of (all_pages bs)) v

-- The stream as a list of pages.

abbrev pages_of_stream : List ℕ → List (List ℕ)
pages_of_stream bs = map (page_at bs) (range_with_len 0 (all_pages bs))

count_is : (bs : List ℕ) → length (pages_of_stream bs) ≡ all_pages bs
count_is bs = length-map-range_with_len (page_at bs) 0 (all_pages bs)

pub not_zero : (area : Area) (s : ℕ) → (Contains (bad_slots_of area) s → ⊥) → 0 < s
not_zero area zero bad = absurd (bad (Contains-head 0 (take area.count area.bad)))
not_zero area (suc s) bad = omega arith

-- a write past the last page is the last map's
beyond : (pages k : ℕ) → k < pages + maps_of pages → pages ≤ page_of_write k → is_map_write pages k ≡ true
beyond pages k lt ge = elim (cases_eq (k % 512) 511) [
  | inl full ↦ or_left (eqb (k % 512) 511) (eqb (k + 1) (pages + maps_of pages)) (eq-eqb (k % 512) 511 full)
  | inr not_full ↦ or_right (eqb (k % 512) 511) (eqb (k + 1) (pages + maps_of pages)) (eq-eqb (k + 1) (pages + maps_of pages) (omega arith))
]

page_or_map : (bs : List ℕ) (k : ℕ) → k < all_pages bs + maps_of (all_pages bs) → (is_map_write (all_pages bs) k ≡ true) ⊎ (page_at bs (page_of_write k) ≡ get_or (pages_of_stream bs) (page_of_write k) [])
page_or_map bs k lt = elim (cases_lt (page_of_write k) (all_pages bs)) [
  | inl below ↦ inr (sym (get_or-map-range_with_len (page_at bs) 0 (all_pages bs) (page_of_write k) (page_of_write k) [] below (zero-add (page_of_write k))))
  | inr ge ↦ inl (beyond (all_pages bs) k lt ge)
]

none_some : {A : Type 0} (o : Option A) (x : A) → o ≡ None → o ≡ Some x → ⊥
none_some o x e f = cc

plain : (f : Format) (n : ℕ) → n ≡ 0 → f ≡ Plain → (n ≢ 0) ↔ (f ≡ SkipZeros)
plain f n none is = (λ ne. absurd (ne none), λ skip. cc)

-- the header block of a machine with these extents
record HasHeaderAt (h : Hardware) (page : List ℕ) (v : disk.DiskImage) : Type 0 where
  pub header : header_of h v ≡ page
  pub blocks_some : block_of_slot h 0 < blocks_of v

header_at : (area : Area) (free bs page : List ℕ) (blocks : ℕ) (v : disk.DiskImage) (h : Hardware) → IsMarkedOver area free bs page blocks v → h.extents ≡ first_blocks area → HasHeaderAt h (marked page (laid_block (first_blocks area) free 0) 2 0) v
header_at area free bs page blocks v h over is =
    let zero_block : block_of_slot h 0 ≡ 0 = ap (λ x. block_of x 0) is in
    let size = over.size in
    let some = over.some in
    let below : block_of_slot h 0 < blocks_of v = omega arith in
    record {
      header = header_is h v below ∙ ap (disk.block v) zero_block ∙ over.header;
      blocks_some = below;
    }

usable_laid : (area : Area) (free bs page : List ℕ) (blocks : ℕ) (v : disk.DiskImage) (h : Hardware) → IsWholeFor area free bs blocks → IsMarkedOver area free bs page blocks v → h.extents ≡ first_blocks area →
    laying.AreUsable h v free (length (pages_of_stream bs) + maps_of (length (pages_of_stream bs)))
usable_laid area free bs page blocks v h stream over is =
    let size = over.size in
    let count = count_is bs in
    let few = stream.few in
    let room = stream.room in
    let blocks_few = stream.count in
    let head = header_at area free bs page blocks v h over is in
    let last : last_page_of (header_of h v) ≡ area.last = ap last_page_of head.header ∙ last_page_of-marked page (laid_block (first_blocks area) free 0) 2 0 over.whole ∙ sym over.last in
    let each : (place : ℕ) → place < length (pages_of_stream bs) + maps_of (length (pages_of_stream bs)) → place < length free = λ place lt. omega arith in
    let slot : (place : ℕ) → place < length free → (get_or free place 0 ≤ area.last) × (Contains (bad_slots_of area) (get_or free place 0) → ⊥) =
    λ place lt. stream.usable.each (get_or free place 0) (Contains-get_or free place 0 lt) in
    record {
      file_map = (
        stream.of_map.0,
        subst (λ (x : List (ℕ × ℕ × ℕ)). IsFileMap x stream.of_map.0) (sym is) stream.of_map.1,
        λ place lt. stream.of_map.2 place (each place lt),
      );
      behind_header = λ place lt. not_zero area (get_or free place 0) (slot place (each place lt)).1;
      in_area = λ place lt. let le = (slot place (each place lt)).0 in omega arith;
      on_disk = λ place lt. let at : laid_block h.extents free place ≡ laid_block (first_blocks area) free place = ap (λ x. laid_block x free place) is in
          let below = stream.on_disk place (each place lt) in
          omega arith;
      fits = omega arith;
    }

reads_laid : (area : Area) (free bs page : List ℕ) (blocks : ℕ) (v : disk.DiskImage) (h : Hardware) → IsMarkedOver area free bs page blocks v → h.extents ≡ first_blocks area → laying.ReadsLaid h free (pages_of_stream bs) v
reads_laid area free bs page blocks v h over is k lt =
    let stream = pages_of_stream bs in
    let n = all_pages bs in
    let count = count_is bs in
    let within : k < n + maps_of n = omega arith in
    let i = page_of_write k in
    let same = same_write (first_blocks area) free n (page_at bs i) (get_or stream i []) k (page_or_map bs k within) in
    let P : List (ℕ × ℕ × ℕ) → Type 0 = λ x. disk.block v (laid_write x free n (get_or stream i []) k).0 ≡ (laid_write x free n (get_or stream i []) k).1 in
    let Q : ℕ → Type 0 = λ m. disk.block v (laid_write h.extents free m (get_or stream i []) k).0 ≡ (laid_write h.extents free m (get_or stream i []) k).1 in
    subst Q (sym count) (subst P (sym is) (subst (λ (w : ℕ × List ℕ). disk.block v w.0 ≡ w.1) same (over.written k within)))

holds_stream : (area : Area) (free bs page : List ℕ) (blocks : ℕ) (v : disk.DiskImage) (h : Hardware) → IsWholeFor area free bs blocks → IsMarkedOver area free bs page blocks v → h.extents ≡ first_blocks area → HoldsStream h bs v
holds_stream area free bs page blocks v h stream over is =
    let n = all_pages bs in
    let first = laid_block (first_blocks area) free 0 in
    let some = stream.some in
    let room = stream.room in
    let few = stream.count in
    let below = stream.on_disk 0 (omega arith) in
    let fits : first < 2 ^ 64 = omega arith in
    let head = header_at area free bs page blocks v h over is in
    let laid : laying.IsLaid h free (pages_of_stream bs) v = record { reads = reads_laid area free bs page blocks v h over is; usable = usable_laid area free bs page blocks v h stream over is } in
    let image : image_of (header_of h v) ≡ laid_block h.extents free 0 = ap image_of head.header ∙ image_of-marked page first 2 0 over.whole fits (lit< tt) ∙ ap (λ x. laid_block x free 0) (sym is) in
    let entries = laid_entries h.extents free 0 (length (pages_of_stream bs)) in
    let reads = laying.blocks-laid h free (pages_of_stream bs) v laid in
    record {
      marked = subst IsMarked (sym head.header) (marked-is_marked page first 2 0 over.whole);
      flags = ap flags_of head.header ∙ flags_of-marked page first 2 0 over.whole fits (lit< tt);
      whole = (
        entries,
        record {
          chain_is = ap (λ b. chain h v b n) image ∙ ap (chain h v (laid_block h.extents free 0)) (sym (count_is bs)) ∙ laying.chain-laid h free (pages_of_stream bs) v laid;
          pages = reads;
          bytes = ap concat reads ∙ pages_joined bs n ∙ take_all (4096 * n) bs (let size = stream.size in omega arith);
        },
      );
    }

-- An image whose stream the bytes are.

image_count : (i : Image) (bs : List ℕ) → AreOfImage i bs → length bs ≡ 4096 * all_pages bs → all_pages bs ≡ pages_of i
image_count i bs of size = omega (arith, length-joined (stream_of i) of.pages, ap length of.bytes, length-stream_of i)

image_pages_are : (i : Image) (bs : List ℕ) → AreOfImage i bs → length bs ≡ 4096 * all_pages bs → pages_of_stream bs ≡ stream_of i
image_pages_are i bs of size =
    let n = all_pages bs in
    let count = image_count i bs of size in
    let all = length-stream_of i in
    let mine = count_is bs in
    ext_get_or [] (pages_of_stream bs) (stream_of i) (mine ∙ count ∙ sym all)
    (λ k lt.
    let below : k < n = omega arith in
    get_or-map-range_with_len (page_at bs) 0 n k k [] below (zero-add k)
    ∙ ap (λ b. page_at b k) (sym of.bytes) ∙ page_of_joined (stream_of i) k of.pages (omega arith))

holds_image : (h : Hardware) (i : Image) (bs : List ℕ) (v : disk.DiskImage) → AreOfImage i bs → length bs ≡ 4096 * all_pages bs → HoldsStream h bs v → Holds h v i
holds_image h i bs v of size holds =
    let b = image_of (header_of h v) in
    let has = holds.whole.1 in
    record {
      marked = holds.marked;
      uncompressed = λ e. absurd (omega (arith, ap (λ f. bit_and f 2) holds.flags, e));
      format = plain i.format (bit_and (flags_of (header_of h v)) 256) (ap (λ f. bit_and f 256) holds.flags) of.format;
      whole = (holds.whole.0, ap (chain h v b) (sym (image_count i bs of size)) ∙ has.chain_is, has.pages ∙ image_pages_are i bs of size);
      slots = λ s page e. absurd (none_some (i.slots s) page (of.no_slots s) e);
      maps_apart = λ s j page e le. absurd (none_some (i.slots s) page (of.no_slots s) e);
      pages_apart = λ s k page e lt. absurd (none_some (i.slots s) page (of.no_slots s) e);
    }

pub has_come_in : (area : Area) (free bs page : List ℕ) (blocks : ℕ) (v : disk.DiskImage) → IsWholeFor area free bs blocks → IsMarkedOver area free bs page blocks v → HasComeIn area bs v
has_come_in area free bs page blocks v stream over = record {
  stream = λ h is. holds_stream area free bs page blocks v h stream over is;
  image = λ h is i of. holds_image h i bs v of stream.size (holds_stream area free bs page blocks v h stream over is);
}
