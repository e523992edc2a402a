-- Laws of a page of the swap map.
use Rattle.std.proofs.Common.{◌≡◌, ℕ, ◌^◌, ◌<◌, ◌≤◌, List, [], ◌∷◌, ◌++◌, length, get_or, sym, ap, ◌∙◌, inl, arith}
use Rattle.definitions.specs.Bytes.{zero_page, with_word}
use Rattle.definitions.specs.NumberPages.{page_of_words}
use Rattle.definitions.specs.SwapMap.{map_page, map_entry, map_link}
use Rattle.definitions.proofs.PageWords.{length-page_of_words, length-with_word, word-with_word, word-with_word_other, with_word-with_word, with_word-with_word_same, with_word-zero_page, page_of_words-nil, page_of_words-push, word-page_of_words, word-page_of_words_past}

pub length-map_page : (entries : List ℕ) (link : ℕ) → length entries ≤ 511 → length (map_page entries link) ≡ 4096
unfolding map_page
length-map_page entries link le = length-with_word (page_of_words entries) 511 link (length-page_of_words entries (omega arith)) (omega arith)

-- no entry and no link
pub map_page-nil : zero_page ≡ map_page [] 0
unfolding map_page
map_page-nil = sym (ap (λ page. with_word page 511 0) page_of_words-nil ∙ with_word-zero_page 511 (omega arith))

-- another link
pub map_page-link : (entries : List ℕ) (link next : ℕ) → length entries ≤ 511 → with_word (map_page entries link) 511 next ≡ map_page entries next
unfolding map_page
map_page-link entries link next le = with_word-with_word_same (page_of_words entries) 511 link next (length-page_of_words entries (omega arith)) (omega arith)

-- one more entry
pub map_page-push : (entries : List ℕ) (link block : ℕ) → length entries < 511 → map_page (entries ++ block ∷ []) link ≡ with_word (map_page entries link) (length entries) block
unfolding map_page
map_page-push entries link block lt =
    ap (λ page. with_word page 511 link) (page_of_words-push entries block)
    ∙ sym (with_word-with_word (page_of_words entries) (length entries) 511 block link (length-page_of_words entries (omega arith)) lt (omega arith))

-- an entry that is put into a map page is read back
pub map_entry-map_page : (entries : List ℕ) (link k : ℕ) → length entries ≤ 511 → k < length entries → get_or entries k 0 < 2 ^ 64 → map_entry (map_page entries link) k ≡ get_or entries k 0
unfolding map_page
map_entry-map_page entries link k le lt fits =
    word-with_word_other (page_of_words entries) 511 k link (length-page_of_words entries (omega arith)) (omega arith) (inl (omega arith)) ∙ word-page_of_words entries k lt fits

pub map_entry-map_page_past : (entries : List ℕ) (link k : ℕ) → length entries ≤ k → k < 511 → map_entry (map_page entries link) k ≡ 0
unfolding map_page
map_entry-map_page_past entries link k le lt =
    word-with_word_other (page_of_words entries) 511 k link (length-page_of_words entries (omega arith)) (omega arith) (inl (omega arith)) ∙ word-page_of_words_past entries k le (omega arith)

pub map_link-map_page : (entries : List ℕ) (link : ℕ) → length entries ≤ 511 → link < 2 ^ 64 → map_link (map_page entries link) ≡ link
unfolding map_page
map_link-map_page entries link le fits = word-with_word (page_of_words entries) 511 link (length-page_of_words entries (omega arith)) (omega arith) fits
