-- A page that is filled word by word.
use Rattle.std.proofs.Common.{◌≡◌, ℕ, ◌+◌, ◌<◌, Bool, true, false, List, [], ◌∷◌, ◌++◌, length, map, cond, ltb, refl, sym, ap, ◌∙◌, inl, inr, arith}
use Rattle.std.specs.List.{range_with_len}
use Rattle.std.proofs.lemmas.List.FromFn.{length-map-range_with_len, map-range_with_len_more}
use Rattle.definitions.specs.Bytes.{with_word, word}
use Rattle.definitions.specs.NumberPages.{number_of_word, page_of_words}
use Rattle.definitions.proofs.PageWords.{page_of_words-push}
use Rattle.image_stream.specs.Plain.{plain_word}

pub word_put : (count : ℕ) (page : List ℕ) (i : ℕ) (plain : List ℕ) (v : ℕ) → plain ≡ page_of_words (map (plain_word count page) (range_with_len 0 i)) → v ≡ plain_word count page i → with_word plain i v ≡ page_of_words (map (plain_word count page) (range_with_len 0 (i + 1)))
word_put count page i plain v so_far is =
    let words = map (plain_word count page) (range_with_len 0 i) in
    ap (λ (p : List ℕ). with_word p i v) so_far
    ∙ ap (λ (k : ℕ). with_word (page_of_words words) k v) (sym (length-map-range_with_len (plain_word count page) 0 i))
    ∙ sym (page_of_words-push words v)
    ∙ ap (λ (w : ℕ). page_of_words (words ++ w ∷ [])) is
    ∙ ap page_of_words (sym (map-range_with_len_more (plain_word count page) 0 i i (zero_plus i))) where
      zero_plus : (j : ℕ) → 0 + j ≡ j
      zero_plus j = omega arith
