-- A number page as it is filled.
use Rattle.std.proofs.Common.{◌≡◌, ℕ, ◌+◌, ◌-◌, ◌*◌, ◌<◌, ◌≤◌, List, [], ◌∷◌, ◌++◌, length, get_or, take, drop, Bool, true, false, eqb, ◌↔◌, refl, sym, ap, ◌∙◌, arith, length-append, length-drop}
use Rattle.std.proofs.lemmas.Bool.{false≢true, eq-eqb, ne_eqb}
use Rattle.std.proofs.lemmas.List.Folds.{list_any_at, list_any_none}
use Rattle.std.specs.List.{list_any, Contains}
use Rattle.std.proofs.lemmas.List.{length-map, get_or-map, take_more, take_all, get_or-drop, get_or_default, take-append-le, drop-append-le, length-take-le}
use Rattle.definitions.specs.Bytes.{with_word}
use Rattle.definitions.specs.NumberPages.{page_of_words, number_page, marked_numbers, end_value}
use Rattle.definitions.proofs.PageWords.{page_of_words-push}
use Rattle.frame_sets.specs.Places.{marked_number}

-- the words of number page k without the end value, and the first i of them
abbrev pub words_of_page : List ℕ → ℕ → List ℕ
words_of_page numbers k = drop (512 * k) numbers

-- one more number
pub page_more : (members zeros : List ℕ) (k i p : ℕ) → 512 * k + i < length members → get_or members (512 * k + i) 0 ≡ p →
    with_word (page_of_words (take i (words_of_page (marked_numbers members zeros) k))) i (marked_number zeros p)
    ≡ page_of_words (take (i + 1) (words_of_page (marked_numbers members zeros) k))
page_more members zeros k i p lt is =
    let numbers = marked_numbers members zeros in
    let words = words_of_page numbers k in
    let mark : ℕ → ℕ = marked_number zeros in
    let n = length-map members mark in
    let rest = length-drop (512 * k) numbers in
    let size = length-take-le i words (omega arith) in
    let here : get_or words i 0 ≡ mark p = get_or-drop (512 * k) numbers i 0 ∙ get_or-map mark members (512 * k + i) 0 0 lt ∙ ap mark is in
    sym (ap page_of_words (take_more words i 0 (omega arith) ∙ ap (λ (w : ℕ). take i words ++ w ∷ []) here)
    ∙ page_of_words-push (take i words) (mark p)
    ∙ ap (λ (j : ℕ). with_word (page_of_words (take i words)) j (mark p)) size)

-- the page is full
pub page_full : (numbers : List ℕ) (k : ℕ) → 512 * k + 512 ≤ length numbers → page_of_words (take 512 (words_of_page numbers k)) ≡ number_page numbers k
unfolding number_page
page_full numbers k le =
    let rest = length-drop (512 * k) numbers in
    ap page_of_words (sym (ap (take 512) (drop-append-le (512 * k) numbers (end_value ∷ []) (omega arith)) ∙ take-append-le 512 (words_of_page numbers k) (end_value ∷ []) (omega arith)))

-- the page isn't full: the end value follows
pub page_ended : (numbers : List ℕ) (k n : ℕ) → 512 * k ≤ length numbers → n ≡ length numbers - 512 * k → n < 512 → with_word (page_of_words (take n (words_of_page numbers k))) n end_value ≡ number_page numbers k
unfolding number_page
page_ended numbers k n from is lt =
    let words = words_of_page numbers k in
    let rest = length-drop (512 * k) numbers in
    let all : take n words ≡ words = take_all n words (omega arith) in
    let whole : take 512 (drop (512 * k) (numbers ++ end_value ∷ [])) ≡ words ++ end_value ∷ [] =
    ap (take 512) (drop-append-le (512 * k) numbers (end_value ∷ []) from) ∙ take_all 512 (words ++ end_value ∷ []) (omega (arith, length-append words (end_value ∷ []))) in
    let size : length words ≡ n = omega arith in
    ap (λ (ws : List ℕ). with_word (page_of_words ws) n end_value) all
    ∙ ap (λ (j : ℕ). with_word (page_of_words words) j end_value) (sym size)
    ∙ sym (page_of_words-push words end_value)
    ∙ ap page_of_words (sym whole)

pub length-marked : (members zeros : List ℕ) → length (marked_numbers members zeros) ≡ length members
length-marked members zeros = let mark : ℕ → ℕ = marked_number zeros in length-map members mark

-- what a test finds is a member
pub listed : (xs : List ℕ) (p : ℕ) (found : Bool) → ((found ≡ true) ↔ Contains xs p) → found ≡ list_any (λ q. eqb q p) xs
listed xs p true iff =
    let (k, lt, e) = iff.0 refl in
    sym (list_any_at (λ q. eqb q p) xs k p lt (eq-eqb (get_or xs k p) p e))
listed xs p false iff =
    sym (list_any_none (λ q. eqb q p) xs (λ k d lt. ne_eqb (get_or xs k d) p (λ e. false≢true (iff.1 (k, lt, get_or_default xs k p d lt ∙ e)))))
