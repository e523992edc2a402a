-- Laws of the words of a page: 512 numbers of 8 bytes.
use Rattle.std.proofs.Common.{◌≡◌, ℕ, ◌+◌, ◌-◌, ◌*◌, ◌^◌, ◌<◌, ◌≤◌, ◌⊎◌, zero, suc, List, [], ◌∷◌, ◌++◌, length, get_or, take, drop, replicate, refl, sym, ap, ◌∙◌, inl, inr, length-append, append_assoc, append-nil, mul-zero, mul-suc, arith}
use Rattle.std.specs.List.{flat_map}
use Rattle.std.proofs.lemmas.List.{ext_get_or, get_or_past, drop-drop, drop_at, get_or-drop, take_at, length-take-le, take-replicate, drop-replicate, length-replicate, replicate-append-replicate}
use Rattle.std.proofs.lemmas.List.Concat.{flat_map-append}
use Rattle.std.proofs.lemmas.Bool.{cases_lt}
use Rattle.byteorder.specs.Endian.{little_number, little_from, little_bytes}
use Rattle.byteorder.specs.Numbers.{length-bytes_low_first, little_number-reads_back}
use Rattle.definitions.specs.Bytes.{zero_page, with_bytes, number_at, with_number, word, with_word}
use Rattle.definitions.specs.NumberPages.{page_of_words}
use Rattle.definitions.proofs.PageBytes.{length-zero_page, get_or-zero_page, length-with_bytes, get_or-with_bytes_below, get_or-with_bytes_within, get_or-with_bytes_above, length-with_number, number_at-with_number, number_at-with_number_apart, number_at-same, bytes_at-with_bytes_apart, with_number-append, with_bytes-nil}

-- One word.

pub length-with_word : (page : List ℕ) (i v : ℕ) → length page ≡ 4096 → i < 512 → length (with_word page i v) ≡ 4096
length-with_word page i v n lt = length-with_number 8 page (8 * i) v (omega arith) ∙ n

pub word-with_word : (page : List ℕ) (i v : ℕ) → length page ≡ 4096 → i < 512 → v < 2 ^ 64 → word (with_word page i v) i ≡ v
word-with_word page i v n lt fits = number_at-with_number 8 page (8 * i) v (omega arith) fits

pub word-with_word_other : (page : List ℕ) (i j v : ℕ) → length page ≡ 4096 → i < 512 → (j < i) ⊎ (i < j) → word (with_word page i v) j ≡ word page j
word-with_word_other page i j v n lt (inl below) = number_at-with_number_apart 8 8 page (8 * i) v (8 * j) (omega arith) (inl (omega arith))
word-with_word_other page i j v n lt (inr above) = number_at-with_number_apart 8 8 page (8 * i) v (8 * j) (omega arith) (inr (omega arith))

-- the bytes that are written, by their place in the page
within_bytes : (page : List ℕ) (k : ℕ) (bytes : List ℕ) (i : ℕ) → k + length bytes ≤ length page → k ≤ i → i < k + length bytes → get_or (with_bytes page k bytes) i 0 ≡ get_or bytes (i - k) 0
within_bytes page k bytes i h le lt =
    let place : i ≡ k + (i - k) = omega arith in
    ap (λ n. get_or (with_bytes page k bytes) n 0) place ∙ get_or-with_bytes_within page k bytes (i - k) 0 h (omega arith)

-- Two runs of bytes that lie apart may be written in either order.
pub with_bytes-with_bytes : (page : List ℕ) (j k : ℕ) (xs ys : List ℕ) → j + length xs ≤ k → k + length ys ≤ length page →
    with_bytes (with_bytes page k ys) j xs ≡ with_bytes (with_bytes page j xs) k ys
with_bytes-with_bytes page j k xs ys apart within =
    let first : j + length xs ≤ length page = omega arith in
    let size_k : length (with_bytes page k ys) ≡ length page = length-with_bytes page k ys within in
    let size_j : length (with_bytes page j xs) ≡ length page = length-with_bytes page j xs first in
    let first_k : j + length xs ≤ length (with_bytes page k ys) = omega arith in
    let within_j : k + length ys ≤ length (with_bytes page j xs) = omega arith in
    ext_get_or 0 (with_bytes (with_bytes page k ys) j xs) (with_bytes (with_bytes page j xs) k ys)
    (length-with_bytes (with_bytes page k ys) j xs first_k ∙ size_k ∙ sym (length-with_bytes (with_bytes page j xs) k ys within_j ∙ size_j))
    (λ i _.
    elim (cases_lt i j) [
      | inl lt ↦
          get_or-with_bytes_below (with_bytes page k ys) j xs i 0 first_k lt
          ∙ get_or-with_bytes_below page k ys i 0 within (omega arith)
          ∙ sym (get_or-with_bytes_below page j xs i 0 first lt)
          ∙ sym (get_or-with_bytes_below (with_bytes page j xs) k ys i 0 within_j (omega arith))
      | inr ge ↦
          elim (cases_lt i (j + length xs)) [
            | inl lt ↦
                within_bytes (with_bytes page k ys) j xs i first_k ge lt
                ∙ sym (within_bytes page j xs i first ge lt)
                ∙ sym (get_or-with_bytes_below (with_bytes page j xs) k ys i 0 within_j (omega arith))
            | inr past ↦
                get_or-with_bytes_above (with_bytes page k ys) j xs i 0 first_k past ∙ rest_same i past
          ]
    ]) where
      rest_same : (i : ℕ) → j + length xs ≤ i → get_or (with_bytes page k ys) i 0 ≡ get_or (with_bytes (with_bytes page j xs) k ys) i 0
      rest_same i past =
          let first : j + length xs ≤ length page = omega arith in
          let within_j : k + length ys ≤ length (with_bytes page j xs) = omega (arith, length-with_bytes page j xs first) in
          elim (cases_lt i k) [
            | inl lt ↦
                get_or-with_bytes_below page k ys i 0 within lt
                ∙ sym (get_or-with_bytes_above page j xs i 0 first past)
                ∙ sym (get_or-with_bytes_below (with_bytes page j xs) k ys i 0 within_j lt)
            | inr ge ↦
                elim (cases_lt i (k + length ys)) [
                  | inl lt ↦
                      within_bytes page k ys i within ge lt ∙ sym (within_bytes (with_bytes page j xs) k ys i within_j ge lt)
                  | inr over ↦
                      get_or-with_bytes_above page k ys i 0 within over
                      ∙ sym (get_or-with_bytes_above page j xs i 0 first past)
                      ∙ sym (get_or-with_bytes_above (with_bytes page j xs) k ys i 0 within_j over)
                ]
          ]

pub with_word-with_word : (page : List ℕ) (i j v w : ℕ) → length page ≡ 4096 → i < j → j < 512 → with_word (with_word page j w) i v ≡ with_word (with_word page i v) j w
unfolding with_number
with_word-with_word page i j v w n lt below =
    with_bytes-with_bytes page (8 * i) (8 * j) (little_bytes 8 v) (little_bytes 8 w) (omega (arith, length-bytes_low_first 0 8 v)) (omega (arith, length-bytes_low_first 0 8 w))

-- What is written over is gone.
pub with_bytes-with_bytes_same : (page : List ℕ) (k : ℕ) (xs ys : List ℕ) → length xs ≡ length ys → k + length ys ≤ length page → with_bytes (with_bytes page k xs) k ys ≡ with_bytes page k ys
unfolding with_bytes
with_bytes-with_bytes_same page k xs ys n le =
    let front : length (take k page) ≡ k = length-take-le k page (omega arith) in
    let both : length (take k page ++ xs) ≡ k + length ys = omega (arith, length-append (take k page) xs) in
    let kept : take k (take k page ++ xs ++ drop (k + length xs) page) ≡ take k page = rw append_assoc (take_at (take k page) (xs ++ drop (k + length xs) page) k front) in
    let rest : drop (k + length ys) (take k page ++ xs ++ drop (k + length xs) page) ≡ drop (k + length ys) page =
    drop_at (take k page ++ xs) (drop (k + length xs) page) (k + length ys) both ∙ ap (λ m. drop (k + m) page) n in
    ap (λ a. a ++ ys ++ drop (k + length ys) (take k page ++ xs ++ drop (k + length xs) page)) kept
    ∙ ap (λ b. take k page ++ ys ++ b) rest

pub with_word-with_word_same : (page : List ℕ) (i v w : ℕ) → length page ≡ 4096 → i < 512 → with_word (with_word page i v) i w ≡ with_word page i w
unfolding with_number
with_word-with_word_same page i v w n lt =
    with_bytes-with_bytes_same page (8 * i) (little_bytes 8 v) (little_bytes 8 w) (length-bytes_low_first 0 8 v ∙ sym (length-bytes_low_first 0 8 w)) (omega (arith, length-bytes_low_first 0 8 w))

-- Writing the same byte over itself changes nothing.
same_written : (n k m z : ℕ) → k + m ≤ n → with_bytes (replicate n z) k (replicate m z) ≡ replicate n z
unfolding with_bytes
same_written n k m z le =
    let size : k + length (replicate m z) ≡ k + m = omega (arith, length-replicate m z) in
    let back : drop (k + length (replicate m z)) (replicate n z) ≡ replicate (n - (k + m)) z = ap (λ i. drop i (replicate n z)) size ∙ drop-replicate (k + m) n z in
    let all : k + m + (n - (k + m)) ≡ n = omega arith in
    ap (λ a. a ++ replicate m z ++ drop (k + length (replicate m z)) (replicate n z)) (take-replicate k n z (omega arith))
    ∙ ap (λ b. replicate k z ++ replicate m z ++ b) back
    ∙ ap (λ a. a ++ replicate (n - (k + m)) z) (replicate-append-replicate k m z)
    ∙ replicate-append-replicate (k + m) (n - (k + m)) z
    ∙ ap (λ i. replicate i z) all

pub with_word-zero_page : (i : ℕ) → i < 512 → with_word zero_page i 0 ≡ zero_page
unfolding with_number zero_page
with_word-zero_page i lt = same_written 4096 (8 * i) 8 0 (omega arith)

-- A page of words.

length-numbers : (n : ℕ) (words : List ℕ) → length (flat_map (little_bytes n) words) ≡ n * length words
length-numbers n [] = sym (mul-zero n)
length-numbers n (w ∷ words) = length-append (little_bytes n w) (flat_map (little_bytes n) words) ∙ omega (arith, length-bytes_low_first 0 n w, length-numbers n words, mul-suc n (length words))

pub length-words : (words : List ℕ) → length (flat_map (little_bytes 8) words) ≡ 8 * length words
length-words words = length-numbers 8 words

-- one more number after the others
push_number : (n : ℕ) (page words : List ℕ) (v : ℕ) → with_number n (with_bytes page 0 (flat_map (little_bytes n) words)) (n * length words) v ≡ with_bytes page 0 (flat_map (little_bytes n) (words ++ v ∷ []))
push_number n page words v =
    let place : n * length words ≡ 0 + length (flat_map (little_bytes n) words) = omega (arith, length-numbers n words) in
    ap (λ k. with_number n (with_bytes page 0 (flat_map (little_bytes n) words)) k v) place
    ∙ with_number-append n page 0 v (flat_map (little_bytes n) words) (omega arith)
    ∙ ap (with_bytes page 0) (ap (λ bytes. flat_map (little_bytes n) words ++ bytes) (sym (append-nil (little_bytes n v))) ∙ sym (flat_map-append (little_bytes n) words (v ∷ [])))

pub length-page_of_words : (words : List ℕ) → length words ≤ 512 → length (page_of_words words) ≡ 4096
unfolding page_of_words
length-page_of_words words le = length-with_bytes zero_page 0 (flat_map (little_bytes 8) words) (omega (arith, length-words words, length-zero_page)) ∙ length-zero_page

pub page_of_words-nil : page_of_words [] ≡ zero_page
unfolding page_of_words
page_of_words-nil = with_bytes-nil zero_page 0

-- one more word
pub page_of_words-push : (words : List ℕ) (v : ℕ) → page_of_words (words ++ v ∷ []) ≡ with_word (page_of_words words) (length words) v
unfolding page_of_words
page_of_words-push words v = sym (push_number 8 zero_page words v)

-- Word k of a page of words is the k-th, or 0 where there are no more.

number_of_run : (n : ℕ) (words tail : List ℕ) (k : ℕ) → k < length words → get_or words k 0 < 256 ^ n → number_at n (flat_map (little_bytes n) words ++ tail) (n * k) ≡ get_or words k 0
unfolding number_at
number_of_run n [] tail k lt fits = absurd (omega arith)
number_of_run n (w ∷ words) tail zero lt fits =
    rw (mul-zero n, append_assoc (little_bytes n w) (flat_map (little_bytes n) words) tail) (little_number-reads_back n w (flat_map (little_bytes n) words ++ tail) fits)
number_of_run n (w ∷ words) tail (suc k) lt fits =
    let next : n * suc k ≡ n + n * k = omega (arith, mul-suc n k) in
    rw (next, append_assoc (little_bytes n w) (flat_map (little_bytes n) words) tail)
    (ap (little_number n) (sym (drop-drop (n * k) n (little_bytes n w ++ (flat_map (little_bytes n) words ++ tail)))
    ∙ ap (drop (n * k)) (drop_at (little_bytes n w) (flat_map (little_bytes n) words ++ tail) n (length-bytes_low_first 0 n w)))
    ∙ number_of_run n words tail k (omega arith) fits)

pub word-page_of_words : (words : List ℕ) (k : ℕ) → k < length words → get_or words k 0 < 2 ^ 64 → word (page_of_words words) k ≡ get_or words k 0
unfolding page_of_words with_bytes
word-page_of_words words k lt fits = number_of_run 8 words (drop (0 + length (flat_map (little_bytes 8) words)) zero_page) k lt fits

number_of_zeros : (i n : ℕ) (bytes : List ℕ) → ((j : ℕ) → get_or bytes j 0 ≡ 0) → little_from i n bytes ≡ 0
number_of_zeros i zero bytes h = refl
number_of_zeros i (suc n) bytes h = rw (h i, number_of_zeros (suc i) n bytes h) refl

zeros_at : (i : ℕ) → get_or zero_page i 0 ≡ 0
zeros_at i = elim (cases_lt i 4096) [ inl lt ↦ get_or-zero_page i lt | inr ge ↦ get_or_past zero_page i 0 (omega (arith, length-zero_page)) ]

pub word-zero_page : (k : ℕ) → word zero_page k ≡ 0
unfolding number_at
word-zero_page k = number_of_zeros 0 8 (drop (8 * k) zero_page) (λ j. get_or-drop (8 * k) zero_page j 0 ∙ zeros_at (8 * k + j))

pub word-page_of_words_past : (words : List ℕ) (k : ℕ) → length words ≤ k → k < 512 → word (page_of_words words) k ≡ 0
unfolding page_of_words
word-page_of_words_past words k le lt =
    let size = length-words words in
    number_at-same 8 (with_bytes zero_page 0 (flat_map (little_bytes 8) words)) zero_page (8 * k)
    (bytes_at-with_bytes_apart 8 zero_page 0 (flat_map (little_bytes 8) words) (8 * k) (omega (arith, length-zero_page)) (inr (omega arith)))
    ∙ word-zero_page k
