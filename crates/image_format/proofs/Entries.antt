-- The entries of a page that is filled.
use Rattle.std.proofs.Common.{◌≡◌, ℕ, ◌+◌, ◌^◌, ◌<◌, ◌≤◌, List, [], ◌∷◌, ◌++◌, length, sym, ap, ◌∙◌, inl, inr, zero-add, arith}
use Rattle.std.proofs.lemmas.List.{ext_get_or}
use Rattle.std.proofs.lemmas.List.FromFn.{length-map-range_with_len, get_or-map-range_with_len, map-range_with_len_more}
use Rattle.definitions.specs.Bytes.{zero_page, with_word}
use Rattle.definitions.specs.SwapMap.{map_page, map_entry, map_link}
use Rattle.definitions.proofs.PageWords.{word-with_word, word-with_word_other, word-zero_page}
use Rattle.definitions.proofs.SwapMaps.{length-map_page, map_page-nil, map_page-push, map_page-link}
use Rattle.image_format.specs.Writer.{entries_of}

pub length-entries_of : (page : List ℕ) (count : ℕ) → length (entries_of page count) ≡ count
length-entries_of page count = length-map-range_with_len (map_entry page) 0 count

-- entries below i stay where word i is set
pub entries_of-with_word : (page : List ℕ) (i v count : ℕ) → length page ≡ 4096 → i < 512 → count ≤ i → entries_of (with_word page i v) count ≡ entries_of page count
entries_of-with_word page i v count n lt le =
    ext_get_or 0 (entries_of (with_word page i v) count) (entries_of page count) (length-entries_of (with_word page i v) count ∙ sym (length-entries_of page count))
    (λ k below.
    let within : k < count = omega (arith, length-entries_of (with_word page i v) count) in
    get_or-map-range_with_len (map_entry (with_word page i v)) 0 count k k 0 within (zero-add k)
    ∙ word-with_word_other page i k v n lt (inl (omega arith))
    ∙ sym (get_or-map-range_with_len (map_entry page) 0 count k k 0 within (zero-add k)))

-- one more entry
pub entries_of-push : (page : List ℕ) (count v : ℕ) → length page ≡ 4096 → count < 511 → v < 2 ^ 64 → entries_of (with_word page count v) (count + 1) ≡ entries_of page count ++ v ∷ []
entries_of-push page count v n lt fits =
    map-range_with_len_more (map_entry (with_word page count v)) 0 count count (zero-add count)
    ∙ ap (λ xs. xs ++ map_entry (with_word page count v) count ∷ []) (entries_of-with_word page count v count n (omega arith) (omega arith))
    ∙ ap (λ x. entries_of page count ++ x ∷ []) (word-with_word page count v n (omega arith) fits)

-- A page that is the map page of its entries has 4096 bytes.
pub whole : (page : List ℕ) (count : ℕ) → count ≤ 511 → page ≡ map_page (entries_of page count) (map_link page) → length page ≡ 4096
whole page count le is = ap length is ∙ length-map_page (entries_of page count) (map_link page) (omega (arith, length-entries_of page count))

-- and so is the page with one more entry,
pub kept_by_push : (page : List ℕ) (count v : ℕ) → count < 511 → v < 2 ^ 64 → page ≡ map_page (entries_of page count) (map_link page) →
    with_word page count v ≡ map_page (entries_of (with_word page count v) (count + 1)) (map_link (with_word page count v))
kept_by_push page count v lt fits is =
    let n = whole page count (omega arith) is in
    let size = length-entries_of page count in
    ap (λ p. with_word p count v) is
    ∙ ap (λ i. with_word (map_page (entries_of page count) (map_link page)) i v) (sym size)
    ∙ sym (map_page-push (entries_of page count) (map_link page) v (omega arith))
    ∙ ap (λ xs. map_page xs (map_link page)) (sym (entries_of-push page count v n lt fits))
    ∙ ap (map_page (entries_of (with_word page count v) (count + 1))) (sym (word-with_word_other page count 511 v n (omega arith) (inr lt)))

-- or another link
pub kept_by_link : (page : List ℕ) (count v : ℕ) → count ≤ 511 → v < 2 ^ 64 → page ≡ map_page (entries_of page count) (map_link page) →
    with_word page 511 v ≡ map_page (entries_of (with_word page 511 v) count) (map_link (with_word page 511 v))
kept_by_link page count v le fits is =
    let n = whole page count le is in
    ap (λ p. with_word p 511 v) is
    ∙ map_page-link (entries_of page count) (map_link page) v (omega (arith, length-entries_of page count))
    ∙ ap (λ xs. map_page xs v) (sym (entries_of-with_word page 511 v count n (omega arith) le))
    ∙ ap (map_page (entries_of (with_word page 511 v) count)) (sym (word-with_word page 511 v n (omega arith) fits))

-- A page of zeros has no entry and no link.
pub link_none : (page : List ℕ) → page ≡ zero_page → map_link page ≡ 0
link_none page e = ap map_link e ∙ word-zero_page 511

pub kept_none : (page : List ℕ) → page ≡ zero_page → page ≡ map_page (entries_of page 0) (map_link page)
kept_none page e = e ∙ map_page-nil ∙ ap (map_page []) (sym (link_none page e))
