-- What the expanding disk holds, block by block.
use Rattle.std.proofs.Common.{◌≡◌, ℕ, ◌+◌, ◌-◌, ◌*◌, ◌/◌, ◌%◌, ◌<◌, zero, suc, Bool, true, false, cond, List, [], ◌∷◌}
use Rattle.std.proofs.Common.{◌++◌, length, get_or, take, drop, map, Option, Some, None, IfSome, refl, sym, ap, ap₂}
use Rattle.std.proofs.Common.{subst, ◌∙◌, arith, zero-add, append-nil, length-drop, eqb, min}
use Rattle.std.proofs.Math.Seq.{take-add}
use Rattle.std.proofs.lemmas.List.{ext_get_or, get_or-drop, get_or-take, take_all, length-take-le}
use Rattle.std.proofs.lemmas.List.Folds.{concat-append}
use Rattle.std.proofs.lemmas.List.FromFn.{length-map-range_with_len, get_or-map-range_with_len, map-range_with_len_more}
use Rattle.std.specs.List.{concat, range_with_len}
use Rattle.std.proofs.Props.{props}
use Rattle.std.specs.Coded.{Unit-prop}
use Rattle.std.specs.Option.{ForSome}
use Rattle.definitions.specs.Bytes.{IsPage, with_number, with_word}
use Rattle.definitions.specs.Disk.{Content, DiskImage, IsContent, as_it_reads, block, sector_bytes, settled}
use Rattle.definitions.specs.SwapHeader.{flags_of}
use Rattle.definitions.proofs.PageBytes.{length-with_number}
use Rattle.definitions.proofs.PageWords.{length-page_of_words, length-with_word}
use Rattle.sector_disk.specs.Sectors.{AreSectors}
use Rattle.sector_disk.specs.RecordedLaws.{IsContent-after, IsContent-settled}
use Rattle.sector_disk.specs.declared.recorded.Recorded.TheVariants.{Write}
use Rattle.expanded_disk.specs.Index.{Agrees, IsIndexed, first_of, pages_of_chain}
use Rattle.expanded_disk.specs.Names.{chain_of}
use Rattle.expanded_disk.specs.Units.{bytes_of, size_of, units_of}
use Rattle.expanded_disk.specs.declared.units.index.Index.{Index}
use Rattle.expanded_disk.specs.Laid.{blocks_for, expanded, expanded_page, image_of_blocks, laid_block, laid_map}
use Rattle.expanded_disk.specs.Laid.{map_word, marred, plain_block, plain_flags_of, plain_header, plain_image}
use Rattle.expanded_disk.specs.declared.refused.Refused.{Refused}

pieces : (page : List ℕ) (n : ℕ) → concat (map (sector_bytes page) (range_with_len 0 n)) ≡ take (512 * n) page
pieces page zero = refl
pieces page (suc n) =
    let one_more : suc n ≡ n + 1 = omega arith in
    let bytes : 512 * n + 512 ≡ 512 * suc n = omega arith in
    ap (λ (k : ℕ). concat (map (sector_bytes page) (range_with_len 0 k))) one_more
    ∙ ap concat (map-range_with_len_more (sector_bytes page) 0 n n (zero-add n))
    ∙ concat-append (map (sector_bytes page) (range_with_len 0 n)) (sector_bytes page n ∷ [])
    ∙ ap₂ (λ (xs ys : List ℕ). xs ++ ys) (pieces page n) (append-nil (sector_bytes page n))
    ∙ sym (take-add (512 * n) 512 page)
    ∙ ap (λ (k : ℕ). take k page) bytes

abbrev sector_of : (ℕ → List ℕ) → ℕ → List ℕ
sector_of f s = sector_bytes (f (s / 8)) (s % 8)

length-image : (f : ℕ → List ℕ) (n : ℕ) → length (image_of_blocks f n) ≡ 8 * n
unfolding image_of_blocks
length-image f n = length-map-range_with_len (sector_of f) 0 (8 * n)

sector-image : (f : ℕ → List ℕ) (n s : ℕ) (d : List ℕ) → s < 8 * n →
    get_or (image_of_blocks f n) s d ≡ sector_bytes (f (s / 8)) (s % 8)
unfolding image_of_blocks
sector-image f n s d lt = get_or-map-range_with_len (sector_of f) 0 (8 * n) s s d lt (zero-add s)

-- block b of the first n blocks
pub block-image : (f : ℕ → List ℕ) (n b : ℕ) → IsPage (f b) → b < n → block (image_of_blocks f n) b ≡ f b
unfolding block
block-image f n b page lt =
    let v = image_of_blocks f n in
    let size = length-image f n in
    let part = take 8 (drop (8 * b) v) in
    let part_size : length part ≡ 8 = length-take-le 8 (drop (8 * b) v) (omega (arith, length-drop (8 * b) v)) in
    let parts : part ≡ map (sector_bytes (f b)) (range_with_len 0 8) =
    ext_get_or [] part (map (sector_bytes (f b)) (range_with_len 0 8))
    (part_size ∙ sym (length-map-range_with_len (sector_bytes (f b)) 0 8))
    (λ j jlt.
    let few : j < 8 = omega arith in
    let of_block : (8 * b + j) / 8 ≡ b = omega arith in
    let in_block : (8 * b + j) % 8 ≡ j = omega arith in
    get_or-take 8 (drop (8 * b) v) j [] few ∙ get_or-drop (8 * b) v j []
    ∙ sector-image f n (8 * b + j) [] (omega arith)
    ∙ ap₂ (λ (k i : ℕ). sector_bytes (f k) i) of_block in_block
    ∙ sym (get_or-map-range_with_len (sector_bytes (f b)) 0 8 j j [] few (zero-add j))) in
    ap concat parts ∙ pieces (f b) 8 ∙ take_all 4096 (f b) (omega (arith, page))

AreSectors-image : (f : ℕ → List ℕ) (n : ℕ) → ((b : ℕ) → b < n → IsPage (f b)) →
    AreSectors (8 * n) (image_of_blocks f n)
AreSectors-image f n pages = record {
  size = length-image f n;
  whole = λ s d lt.
      let inside : s < 8 * n = omega (arith, length-image f n) in
      let page = pages (s / 8) (omega arith) in
      ap length (sector-image f n s d inside)
      ∙ length-take-le 512 (drop (512 * (s % 8)) (f (s / 8)))
      (omega (arith, length-drop (512 * (s % 8)) (f (s / 8)), page));
}

pub IsContent-image : (f : ℕ → List ℕ) (n : ℕ) → ((b : ℕ) → b < n → IsPage (f b)) →
    IsContent n (settled (image_of_blocks f n))
IsContent-image f n pages = IsContent-settled n (image_of_blocks f n) (AreSectors-image f n pages)

-- each block is a page

length-plain_header : (page : List ℕ) (pages : ℕ) → IsPage page → IsPage (plain_header page pages)
unfolding plain_header
length-plain_header page pages size =
    let one = length-with_number 4 page 1028 (blocks_for pages - 1) (omega (arith, size)) in
    let sized = with_number 4 page 1028 (blocks_for pages - 1) in
    let two = length-with_number 4 sized 1032 0 (omega (arith, size, one)) in
    let both = with_number 4 sized 1032 0 in
    let three = length-with_word both 508 1 (two ∙ one ∙ size) (omega arith) in
    length-with_number 4 (with_word both 508 1) 4072 (plain_flags_of (flags_of page)) (omega (arith, three)) ∙ three

length-laid_map : (pages m : ℕ) → IsPage (laid_map pages m)
unfolding laid_map
length-laid_map pages m =
    length-page_of_words (map (map_word pages m) (range_with_len 0 512))
    (omega (arith, length-map-range_with_len (map_word pages m) 0 512))

by_test : (t : Bool) (x y : List ℕ) → (t ≡ true → IsPage x) → (t ≡ false → IsPage y) → IsPage (cond t x y)
by_test true x y is isnt = is refl
by_test false x y is isnt = isnt refl

eqb-positive : (n : ℕ) → eqb n 0 ≡ false → 0 < n
eqb-positive zero e = cc
eqb-positive (suc n) e = omega arith

pub page_inside : (pages b : ℕ) → b < blocks_for pages → 0 < b → 0 < (b - 1) % 512 →
    511 * ((b - 1) / 512) + (b - 1) % 512 - 1 < pages
page_inside pages b lt some entry = omega arith

length-laid_block : (header : List ℕ) (page : ℕ → List ℕ) (pages b : ℕ) → IsPage header →
    ((k : ℕ) → k < pages → IsPage (page k)) → b < blocks_for pages → IsPage (laid_block header page pages b)
unfolding laid_block
length-laid_block header page pages b is each lt =
    by_test (eqb b 0) header (cond (eqb ((b - 1) % 512) 0) (laid_map pages ((b - 1) / 512))
    (page (511 * ((b - 1) / 512) + (b - 1) % 512 - 1)))
    (λ e. is)
    (λ e. by_test (eqb ((b - 1) % 512) 0) (laid_map pages ((b - 1) / 512))
    (page (511 * ((b - 1) / 512) + (b - 1) % 512 - 1))
    (λ f. length-laid_map pages ((b - 1) / 512))
    (λ f. each (511 * ((b - 1) / 512) + (b - 1) % 512 - 1)
    (page_inside pages b lt (eqb-positive b e) (eqb-positive ((b - 1) % 512) f))))

part_of : (bytes : List ℕ) (i n : ℕ) → i < n → length bytes ≡ 4096 * n → IsPage (take 4096 (drop (4096 * i) bytes))
part_of bytes i n lt size = length-take-le 4096 (drop (4096 * i) bytes) (omega (arith, length-drop (4096 * i) bytes))

in_unit : (pages k : ℕ) → 0 < k → k < pages → ((k - 1) / 32 < units_of pages)
    × ((k - 1) % 32 < min 32 (pages - 1 - 32 * ((k - 1) / 32)))
in_unit pages k some lt = (omega arith, omega arith)

length-expanded_page : (chain : ℕ → List ℕ) (pages : ℕ) → IsPage (chain 0) →
    ((j : ℕ) → j < units_of pages → length (bytes_of chain pages j) ≡ size_of pages j) → (k : ℕ) → k < pages →
    IsPage (expanded_page chain pages k)
unfolding expanded_page
length-expanded_page chain pages info units k lt =
    by_test (eqb k 0) (chain 0) (take 4096 (drop (4096 * ((k - 1) % 32)) (bytes_of chain pages ((k - 1) / 32))))
    (λ e. info)
    (λ e. let at = in_unit pages k (eqb-positive k e) lt in
    part_of (bytes_of chain pages ((k - 1) / 32)) ((k - 1) % 32) (min 32 (pages - 1 - 32 * ((k - 1) / 32))) at.1
    (units ((k - 1) / 32) at.0))

-- each block of the plain image is a page
pub IsPage-plain : (blocks : ℕ) (v : DiskImage) (header : ℕ) (index : Index) → IsIndexed blocks v header index →
    (b : ℕ) → b < blocks_for (pages_of_chain (chain_of v (first_of v header))) → IsPage (plain_block v header b)
IsPage-plain blocks v header index is b lt =
    let chain = chain_of v (first_of v header) in
    let pages = pages_of_chain chain in
    length-laid_block (plain_header (block v header) pages) (expanded_page chain pages) pages b
    (length-plain_header (block v header) pages (subst IsPage is.header_is index.header_page))
    (length-expanded_page chain pages (subst IsPage is.info_is index.info_page)
    (subst (λ (n : ℕ). (j : ℕ) → j < units_of n →
    length (bytes_of chain n j) ≡ size_of n j) is.pages_are (λ j few. (is.units j few).size)))
    lt

-- at most one proof exists, which a ghost field requires
pub Agrees-prop : (wanted : Option ℕ) (found : ℕ) → IsProp (Agrees wanted found)
Agrees-prop None found = Unit-prop
Agrees-prop (Some n) found = hlevel props

pub IsContent-expanded : (blocks : ℕ) (content : Option Content) (header : ℕ) (index : Index) →
    ForSome content (λ held. IsIndexed blocks (as_it_reads held) header index) →
    IfSome (expanded header content) (IsContent (blocks_for index.pages))
IsContent-expanded blocks None header index indexed = tt
IsContent-expanded blocks (Some held) header index indexed =
    let v = as_it_reads held in
    let is = indexed held refl in
    subst (λ (n : ℕ). IsContent (blocks_for n) (settled (plain_image v header))) (sym is.pages_are)
    (IsContent-image (plain_block v header) (blocks_for (pages_of_chain (chain_of v (first_of v header))))
    (IsPage-plain blocks v header index is))

-- also after a refused write

pub IsContent-refused : (n : ℕ) (refused : Option Refused) (content : Option Content) → IfSome content (IsContent n) →
    IfSome (marred refused content) (IsContent n)
IsContent-refused n None content whole = whole
IsContent-refused n (Some r) None whole = tt
IsContent-refused n (Some r) (Some held) whole = IsContent-after n held (Write r.block r.page) r.whole whole

pub IsContent-marred : (blocks : ℕ) (content : Option Content) (header : ℕ) (index : Index) (refused : Option Refused) →
    ForSome content (λ held. IsIndexed blocks (as_it_reads held) header index) →
    IfSome (marred refused (expanded header content)) (IsContent (blocks_for index.pages))
IsContent-marred blocks content header index refused indexed =
    IsContent-refused (blocks_for index.pages) refused (expanded header content)
    (IsContent-expanded blocks content header index indexed)
