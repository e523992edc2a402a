-- A map that is filled word by word.
use Rattle.std.proofs.Common.{◌≡◌, ℕ, ◌+◌, List, [], ◌∷◌, ◌++◌, map, sym, ap, ◌∙◌, arith}
use Rattle.std.specs.List.{range_with_len}
use Rattle.std.proofs.lemmas.List.FromFn.{length-map-range_with_len, map-range_with_len_more}
use Rattle.definitions.specs.Bytes.{with_word}
use Rattle.definitions.specs.NumberPages.{page_of_words}
use Rattle.definitions.proofs.PageWords.{page_of_words-push}
use Rattle.expanded_disk.specs.Laid.{map_word}

pub word_put : (pages m i : ℕ) (page : List ℕ) (v : ℕ) → page ≡ page_of_words (map (map_word pages m) (range_with_len 0 i)) → v ≡ map_word pages m i → with_word page i v ≡ page_of_words (map (map_word pages m) (range_with_len 0 (i + 1)))
word_put pages m i page v so_far is =
    let words = map (map_word pages m) (range_with_len 0 i) in
    ap (λ (p : List ℕ). with_word p i v) so_far
    ∙ ap (λ (k : ℕ). with_word (page_of_words words) k v) (sym (length-map-range_with_len (map_word pages m) 0 i))
    ∙ sym (page_of_words-push words v)
    ∙ ap (λ (w : ℕ). page_of_words (words ++ w ∷ [])) is
    ∙ ap page_of_words (sym (map-range_with_len_more (map_word pages m) 0 i i (zero_plus i))) where
      zero_plus : (j : ℕ) → 0 + j ≡ j
      zero_plus j = omega arith
