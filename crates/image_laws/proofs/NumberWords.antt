-- Laws of the words of the number pages, and of marked numbers.
use Rattle.std.proofs.Common.{◌≡◌, ◌↔◌, ℕ, ◌+◌, ◌-◌, ◌*◌, ◌/◌, ◌%◌, ◌^◌, ◌<◌, ◌≤◌, ◌||◌, suc, Bool, IsTrue, true, false, cond, eqb, List, [], ◌∷◌, ◌++◌, length, get_or, take, drop, Contains, refl, sym, ap, ◌∙◌, inl, inr, subst, arith, zero-add, length-append, length-drop}
use Rattle.std.specs.List.{list_any}
use Rattle.std.proofs.lemmas.Bool.{cases_eq, eq-eqb, ne_eqb, false≢true}
use Rattle.std.proofs.lemmas.List.{get_or-take, get_or-drop, get_or_append_left, get_or-append_right, length-take, length-map, get_or-map}
use Rattle.std.proofs.lemmas.List.Folds.{list_any_at}
use Rattle.std.proofs.lemmas.List.FromFn.{get_or-map-range_with_len}
use Rattle.definitions.specs.Bytes.{word}
use Rattle.definitions.specs.NumberPages.{meta_of, number_page, number_pages, marked_numbers, number_of_word, word_at, end_value, zero_bit}
use Rattle.definitions.proofs.SwapMaps.{map_entry-map_page, map_entry-map_page_past, map_link-map_page}
use Rattle.definitions.proofs.PageWords.{word-page_of_words, word-page_of_words_past}
use Rattle.image_laws.specs.NumberWords.{HaveWords, AreTold, Tells, HasEntries}

-- The words.

word_of_page : (numbers : List ℕ) (j : ℕ) → j < 512 * meta_of (length numbers) → word_at (number_pages numbers) j ≡ word (number_page numbers (j / 512)) (j % 512)
word_of_page numbers j lt =
    let within : j / 512 < meta_of (length numbers) = omega arith in
    ap (λ (page : List ℕ). word page (j % 512))
    (get_or-map-range_with_len (number_page numbers) 0 (meta_of (length numbers)) (j / 512) (j / 512) [] within (zero-add (j / 512)))

-- the words of one number page
abbrev words_of : List ℕ → ℕ → List ℕ
words_of numbers k = take 512 (drop (512 * k) (numbers ++ end_value ∷ []))

length-words_of : (numbers : List ℕ) (j i : ℕ) → j < length numbers + 1 → i ≡ j % 512 → i < length (words_of numbers (j / 512))
length-words_of numbers j i lt e =
    omega (arith, length-take 512 (drop (512 * (j / 512)) (numbers ++ end_value ∷ [])), length-drop (512 * (j / 512)) (numbers ++ end_value ∷ []), length-append numbers (end_value ∷ []))

word_within : (numbers : List ℕ) (j : ℕ) → j < length numbers + 1 → j < 512 * meta_of (length numbers) → get_or (numbers ++ end_value ∷ []) j 0 < 2 ^ 64 → word_at (number_pages numbers) j ≡ get_or (numbers ++ end_value ∷ []) j 0
unfolding number_page
word_within numbers j within lt fits =
    let all = numbers ++ end_value ∷ [] in
    let few : j % 512 < 512 = omega arith in
    let at : 512 * (j / 512) + j % 512 ≡ j = omega arith in
    let same : get_or (words_of numbers (j / 512)) (j % 512) 0 ≡ get_or all j 0 =
    get_or-take 512 (drop (512 * (j / 512)) all) (j % 512) 0 few ∙ get_or-drop (512 * (j / 512)) all (j % 512) 0 ∙ ap (λ (n : ℕ). get_or all n 0) at in
    word_of_page numbers j lt
    ∙ word-page_of_words (words_of numbers (j / 512)) (j % 512) (length-words_of numbers j (j % 512) within refl) (subst (λ (n : ℕ). n < 2 ^ 64) (sym same) fits)
    ∙ same

word_past : (numbers : List ℕ) (j : ℕ) → length numbers < j → j < 512 * meta_of (length numbers) → word_at (number_pages numbers) j ≡ 0
unfolding number_page
word_past numbers j past lt =
    let size : length (words_of numbers (j / 512)) ≤ j % 512 =
    omega (arith, length-take 512 (drop (512 * (j / 512)) (numbers ++ end_value ∷ [])), length-drop (512 * (j / 512)) (numbers ++ end_value ∷ []), length-append numbers (end_value ∷ [])) in
    word_of_page numbers j lt ∙ word-page_of_words_past (words_of numbers (j / 512)) (j % 512) size (omega arith)

pub have_words : (numbers : List ℕ) → ((j : ℕ) → j < length numbers → get_or numbers j 0 < 2 ^ 64) → HaveWords numbers
have_words numbers fits =
    let all = numbers ++ end_value ∷ [] in
    let at_end : get_or all (length numbers) 0 ≡ end_value =
    get_or-append_right numbers (end_value ∷ []) (length numbers) (length numbers) 0 refl (omega arith)
    ∙ ap (λ (i : ℕ). get_or (end_value ∷ []) i 0) (let none : length numbers - length numbers ≡ 0 = omega arith in none) in
    record {
      each = λ j lt.
          (let same : get_or all j 0 ≡ get_or numbers j 0 = get_or_append_left numbers (end_value ∷ []) 0 j lt in
          word_within numbers j (omega arith) (omega arith) (subst (λ (n : ℕ). n < 2 ^ 64) (sym same) (fits j lt)) ∙ same);
      ends = λ lt. word_within numbers (length numbers) (omega arith) lt (subst (λ (n : ℕ). n < 2 ^ 64) (sym at_end) (omega arith)) ∙ at_end;
      rest = λ j past lt. word_past numbers j past lt;
    }

-- Marked numbers.

abbrev pub marked_number : List ℕ → ℕ → ℕ
marked_number zeros p = cond (list_any (λ q. eqb q p) zeros) (p + zero_bit) p

pub taken_off : (b : Bool) (p : ℕ) → p < zero_bit → number_of_word (cond b (p + zero_bit) p) ≡ p
taken_off true p lt = omega arith
taken_off false p lt = omega arith

told_by : (b : Bool) (p : ℕ) → p < zero_bit → zero_bit ≤ cond b (p + zero_bit) p → b ≡ true
told_by true p lt le = refl
told_by false p lt le = absurd (omega arith)

carries : (b : Bool) (p : ℕ) → b ≡ true → zero_bit ≤ cond b (p + zero_bit) p
carries true p e = omega arith
carries false p e = absurd (false≢true e)

later : (z : ℕ) (zeros : List ℕ) (p : ℕ) → Contains zeros p → Contains (z ∷ zeros) p
later z zeros p (k, lt, e) = (suc k, omega arith, e)

pub has_from_any : (zeros : List ℕ) (p : ℕ) → list_any (λ q. eqb q p) zeros ≡ true → Contains zeros p
has_from_any [] p some = absurd (false≢true some)
has_from_any (z ∷ zeros) p some =
    elim (cases_eq z p) [
      | inl same ↦ (0, omega arith, same)
      | inr apart ↦ later z zeros p (has_from_any zeros p (sym (ap (λ (b : Bool). b || list_any (λ q. eqb q p) zeros) (ne_eqb z p apart)) ∙ some))
    ]

pub any_from_has : (zeros : List ℕ) (p : ℕ) → Contains zeros p → list_any (λ q. eqb q p) zeros ≡ true
any_from_has zeros p (k, lt, e) = list_any_at (λ q. eqb q p) zeros k p lt (eq-eqb (get_or zeros k p) p e)

pub are_told : (frames zeros : List ℕ) → ((j : ℕ) → j < length frames → get_or frames j 0 < zero_bit) → AreTold frames zeros
are_told frames zeros fits =
    let at : (j : ℕ) → j < length frames → get_or (marked_numbers frames zeros) j 0 ≡ marked_number zeros (get_or frames j 0) =
    λ j lt. get_or-map (marked_number zeros) frames j 0 0 lt in
    record {
      size = length-map frames (marked_number zeros);
      number = λ j lt. ap number_of_word (at j lt) ∙ taken_off (list_any (λ q. eqb q (get_or frames j 0)) zeros) (get_or frames j 0) (fits j lt);
      mark = λ j lt. (
        λ le. has_from_any zeros (get_or frames j 0)
            (told_by (list_any (λ q. eqb q (get_or frames j 0)) zeros) (get_or frames j 0) (fits j lt) (subst (λ (n : ℕ). zero_bit ≤ n) (at j lt) le)),
        λ in'. subst (λ (n : ℕ). zero_bit ≤ n) (sym (at j lt))
            (carries (list_any (λ q. eqb q (get_or frames j 0)) zeros) (get_or frames j 0) (any_from_has zeros (get_or frames j 0) in')),
      );
    }

-- a word says its number and its mark
pub tells : (word number : ℕ) (marked : Bool) → number ≡ number_of_word word → (IsTrue marked ↔ (zero_bit ≤ word)) → Tells word number marked
tells word number marked is by frames zeros j fits lt at =
    let told = are_told frames zeros (λ k below. fits k below) in (
      is ∙ ap number_of_word (sym at) ∙ told.number j lt,
      (
        λ yes. (told.mark j lt).0 (subst (λ (w : ℕ). zero_bit ≤ w) (sym at) (by.0 yes)),
        λ there. by.1 (subst (λ (w : ℕ). zero_bit ≤ w) at ((told.mark j lt).1 there)),
      ),
    )

-- Map pages.

pub has_entries : (entries : List ℕ) (link : ℕ) → length entries ≤ 511 → ((j : ℕ) → j < length entries → get_or entries j 0 < 2 ^ 64) → link < 2 ^ 64 → HasEntries entries link
has_entries entries link few fits link_fits = record {
  each = λ k lt. map_entry-map_page entries link k few lt (fits k lt);
  rest = λ k le lt. map_entry-map_page_past entries link k le lt;
  next = map_link-map_page entries link few link_fits;
}
