-- What a block reads as once it is written, and the header block of a fresh area.
use Rattle.std.proofs.Common.{◌≡◌, ℕ, ◌+◌, ◌*◌, ◌<◌, ◌≤◌, zero, suc, List, [], ◌∷◌, ◌++◌, length, get_or, take, drop, map, flat_map, refl, sym, ap, ap₂, ◌∙◌, arith, zero-add, append-nil, length-drop, length-append}
use Rattle.std.proofs.Math.Seq.{take-add}
use Rattle.std.proofs.lemmas.List.{ext_get_or, get_or-drop, get_or-take, get_or-map, take_all, length-take-le}
use Rattle.std.proofs.lemmas.List.Folds.{concat-append}
use Rattle.std.proofs.lemmas.List.FromFn.{length-map-range_with_len, get_or-map-range_with_len, map-range_with_len_more}
use Rattle.std.specs.List.{concat, range_with_len}
use Rattle.byteorder.specs.Endian.{little_bytes}
use Rattle.byteorder.specs.Numbers.{length-bytes_low_first}
use Rattle.definitions.specs.Bytes.{IsPage, zero_page, with_number, with_bytes}
use Rattle.definitions.specs.Disk.{Content, Sector, no_sector, as_it_reads, block, sector_bytes, Writes}
use Rattle.definitions.specs.SwapHeader.{area_page, area_signature, image_signature, sig_of, IsMarked}
use Rattle.definitions.proofs.DiskLaws.{length-as_it_reads}
use Rattle.definitions.proofs.PageBytes.{length-zero_page, length-with_number, length-with_bytes, bytes_at-with_bytes}

-- A block that is written reads as its page.

pieces : (page : List ℕ) (n : ℕ) → concat (map (sector_bytes page) (range_with_len 0 n)) ≡ take (512 * n) page
pieces page zero = refl
pieces page (suc n) =
    let one_more : suc n ≡ n + 1 = omega arith in
    let bytes : 512 * n + 512 ≡ 512 * suc n = omega arith in
    ap (λ (k : ℕ). concat (map (sector_bytes page) (range_with_len 0 k))) one_more
    ∙ ap concat (map-range_with_len_more (sector_bytes page) 0 n n (zero-add n))
    ∙ concat-append (map (sector_bytes page) (range_with_len 0 n)) (sector_bytes page n ∷ [])
    ∙ ap₂ (λ (xs ys : List ℕ). xs ++ ys) (pieces page n) (append-nil (sector_bytes page n))
    ∙ sym (take-add (512 * n) 512 page)
    ∙ ap (λ (k : ℕ). take k page) bytes

pub block-written : (b : ℕ) (page : List ℕ) (old new : Content) → IsPage page → 8 * b + 8 ≤ length old → Writes b page old new → block (as_it_reads new) b ≡ page
unfolding block
block-written b page old new whole within writes =
    let v = as_it_reads new in
    let size = length-as_it_reads new in
    let same = writes.others.size in
    let live : Sector → List ℕ = λ s. s.live in
    let part = take 8 (drop (8 * b) v) in
    let part_size : length part ≡ 8 = length-take-le 8 (drop (8 * b) v) (omega (arith, length-drop (8 * b) v)) in
    let parts : part ≡ map (sector_bytes page) (range_with_len 0 8) =
    ext_get_or [] part (map (sector_bytes page) (range_with_len 0 8)) (part_size ∙ sym (length-map-range_with_len (sector_bytes page) 0 8))
    (λ j lt.
    let j_lt : j < 8 = omega arith in
    get_or-take 8 (drop (8 * b) v) j [] j_lt ∙ get_or-drop (8 * b) v j []
    ∙ get_or-map live new (8 * b + j) no_sector [] (omega arith)
    ∙ (writes.within j j_lt).live
    ∙ sym (get_or-map-range_with_len (sector_bytes page) 0 8 j j [] j_lt (zero-add j))) in
    ap concat parts ∙ pieces page 8 ∙ take_all 4096 page (omega arith)

-- The header block of an area has 4096 bytes and no mark.

length-words : (bad : List ℕ) → length (flat_map (little_bytes 4) bad) ≡ 4 * length bad
length-words [] = refl
length-words (slot ∷ bad) =
    let rest = length-words bad in
    let four : length (little_bytes 4 slot) ≡ 4 = length-bytes_low_first 0 4 slot in
    length-append (little_bytes 4 slot) (flat_map (little_bytes 4) bad) ∙ omega arith

abbrev numbered : ℕ → List ℕ → List ℕ
numbered last bad = with_number 4 (with_number 4 (with_number 4 zero_page 1024 1) 1028 last) 1032 (length bad)

numbered-whole : (last : ℕ) (bad : List ℕ) → length (numbered last bad) ≡ 4096
numbered-whole last bad =
    let zeros = length-zero_page in
    let one = length-with_number 4 zero_page 1024 1 (omega arith) in
    let two = length-with_number 4 (with_number 4 zero_page 1024 1) 1028 last (omega arith) in
    let three = length-with_number 4 (with_number 4 (with_number 4 zero_page 1024 1) 1028 last) 1032 (length bad) (omega arith) in
    omega arith

abbrev listed : ℕ → List ℕ → List ℕ
listed last bad = with_bytes (numbered last bad) 1536 (flat_map (little_bytes 4) bad)

listed-whole : (last : ℕ) (bad : List ℕ) → length bad ≤ 630 → length (listed last bad) ≡ 4096
listed-whole last bad few =
    let whole = numbered-whole last bad in
    let words = length-words bad in
    length-with_bytes (numbered last bad) 1536 (flat_map (little_bytes 4) bad) (omega arith) ∙ whole

pub IsPage-area_page : (last : ℕ) (bad : List ℕ) → length bad ≤ 630 → IsPage (area_page last bad)
unfolding area_page
IsPage-area_page last bad few =
    let whole = listed-whole last bad few in
    let ten : length area_signature ≡ 10 = refl in
    length-with_bytes (listed last bad) 4086 area_signature (omega arith) ∙ whole

sig-area_page : (last : ℕ) (bad : List ℕ) → length bad ≤ 630 → sig_of (area_page last bad) ≡ area_signature
unfolding area_page
sig-area_page last bad few =
    let whole = listed-whole last bad few in
    let ten : length area_signature ≡ 10 = refl in
    bytes_at-with_bytes (listed last bad) 4086 area_signature (omega arith)

apart : get_or area_signature 1 0 ≡ get_or image_signature 1 0 → ⊥
apart e = let differ : ◌≡◌ {A = ℕ} 87 49 = e in let r : ⊥ = omega (arith, differ) in r

pub area_page-unmarked : (last : ℕ) (bad : List ℕ) → length bad ≤ 630 → IsMarked (area_page last bad) → ⊥
area_page-unmarked last bad few marked = apart (ap (λ (xs : List ℕ). get_or xs 1 0) (sym (sig-area_page last bad few) ∙ marked))
