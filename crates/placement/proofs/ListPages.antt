-- Laws of the page of a list frame, and of memory that holds a restore list.
use Rattle.std.proofs.Common.{◌≡◌, ℕ, ◌+◌, ◌*◌, ◌^◌, ◌<◌, ◌/◌, ◌%◌, zero, suc, List, [], ◌∷◌, ◌++◌, length, get_or, take, drop, refl, sym, ap, ◌∙◌, subst, inl, inr, arith, append_assoc, length-append, length-drop, mul-zero, mul-suc, flat_map, nat_eq, slice_index, All, Contains}
use Rattle.std.proofs.lemmas.Bool.{cases_eq, cases_lt, eq-eqb, false≢true}
use Rattle.std.proofs.lemmas.List.{drop-drop, drop_all, take-append-le, take_all, length-set, length-take, get_or-set_same, get_or-set_other, get_or-take, get_or-drop, get_or-append-add}
use Rattle.std.proofs.Math.Seq.{drop-nil, drop-append-le}
use Rattle.std.proofs.lemmas.List.Concat.{flat_map-append}
use Rattle.std.proofs.lemmas.List.Elements.{Contains-get_or, All-append, All-get_or}
use Rattle.std.specs.List.{IsDistinct}
use Rattle.std.proofs.lemmas.Map.Keys.{apart_from_distinct}
use Rattle.byteorder.specs.Endian.{little_number, little_bytes}
use Rattle.byteorder.specs.Numbers.{little_number-reads_back}
use Rattle.definitions.specs.Bytes.{zero_page, with_bytes, number_at, with_word}
use Rattle.definitions.specs.Moves.{Entry}
use Rattle.definitions.specs.NumberPages.{page_of_words}
use Rattle.definitions.specs.Tables.{frame, with_frame}
use Rattle.definitions.proofs.PageWords.{page_of_words-nil, page_of_words-push}
use Rattle.placement.specs.Listed.{Listed, LiesIn, IsEntry, words_of, list_page, next_frame, part}

-- The words of entries.

length-words : (entries : List Entry) → length (flat_map words_of entries) ≡ 3 * length entries
length-words [] = refl
length-words (e ∷ es) = let rest = length-words es in let more = mul-suc 3 (length es) in omega arith

pub word-from : (entries : List Entry) (k : ℕ) → k < length entries → get_or (flat_map words_of entries) (3 * k) 0 ≡ (get_or entries k (0, 0, 0)).0
word-from [] k lt = absurd (omega arith)
word-from (e ∷ es) zero lt = rw (mul-zero 3) refl
word-from (e ∷ es) (suc k) lt =
    let at : 3 * suc k ≡ 3 + 3 * k = omega (arith, mul-suc 3 k) in
    rw at (get_or-append-add (words_of e) (flat_map words_of es) (3 * k) 0 ∙ word-from es k (omega arith))

pub word-to : (entries : List Entry) (k : ℕ) → k < length entries → get_or (flat_map words_of entries) (3 * k + 1) 0 ≡ (get_or entries k (0, 0, 0)).1
word-to [] k lt = absurd (omega arith)
word-to (e ∷ es) zero lt = rw (mul-zero 3) refl
word-to (e ∷ es) (suc k) lt =
    let at : 3 * suc k + 1 ≡ 3 + (3 * k + 1) = omega (arith, mul-suc 3 k) in
    rw at (get_or-append-add (words_of e) (flat_map words_of es) (3 * k + 1) 0 ∙ word-to es k (omega arith))

pub word-count : (entries : List Entry) (k : ℕ) → k < length entries → get_or (flat_map words_of entries) (3 * k + 2) 0 ≡ (get_or entries k (0, 0, 0)).2
word-count [] k lt = absurd (omega arith)
word-count (e ∷ es) zero lt = rw (mul-zero 3) refl
word-count (e ∷ es) (suc k) lt =
    let at : 3 * suc k + 2 ≡ 3 + (3 * k + 2) = omega (arith, mul-suc 3 k) in
    rw at (get_or-append-add (words_of e) (flat_map words_of es) (3 * k + 2) 0 ∙ word-count es k (omega arith))

-- The low half of a word is the number, if the number fits in it.

half_of_run : (words tail : List ℕ) (k : ℕ) → k < length words → get_or words k 0 < 2 ^ 32 → number_at 4 (flat_map (little_bytes 8) words ++ tail) (8 * k) ≡ get_or words k 0
unfolding number_at
half_of_run [] tail k lt fits = absurd (omega arith)
half_of_run (w ∷ words) tail zero lt fits =
    little_number-reads_back 4 w (drop 4 (little_bytes 8 w) ++ (flat_map (little_bytes 8) words ++ tail)) fits
half_of_run (w ∷ words) tail (suc k) lt fits =
    let next : 8 * suc k ≡ 8 + 8 * k = omega (arith, mul-suc 8 k) in
    rw (next, append_assoc (little_bytes 8 w) (flat_map (little_bytes 8) words) tail)
    (ap (little_number 4) (sym (drop-drop (8 * k) 8 (little_bytes 8 w ++ (flat_map (little_bytes 8) words ++ tail))))
    ∙ half_of_run words tail k (omega arith) fits)

half_of_word : (words : List ℕ) (k : ℕ) → k < length words → get_or words k 0 < 2 ^ 32 → number_at 4 (page_of_words words) (8 * k) ≡ get_or words k 0
unfolding page_of_words with_bytes
half_of_word words k lt fits = half_of_run words (drop (0 + length (flat_map (little_bytes 8) words)) zero_page) k lt fits

-- the numbers of the k-th entry of a list frame
pub from_of_entry : (next : ℕ) (entries : List Entry) (k : ℕ) → k < length entries → All IsEntry entries → number_at 4 (list_page next entries) (8 * (1 + 3 * k)) ≡ (get_or entries k (0, 0, 0)).0
unfolding list_page
from_of_entry next entries k lt fits =
    let entry = All-get_or IsEntry entries k (0, 0, 0) lt fits in
    let is = word-from entries k lt in
    let low = entry.from in
    let at : 8 * (1 + 3 * k) ≡ 8 * suc (3 * k) = omega arith in
    ap (number_at 4 (page_of_words (next ∷ flat_map words_of entries))) at
    ∙ half_of_word (next ∷ flat_map words_of entries) (suc (3 * k)) (omega (arith, length-words entries)) (omega arith) ∙ is

pub to_of_entry : (next : ℕ) (entries : List Entry) (k : ℕ) → k < length entries → All IsEntry entries → number_at 4 (list_page next entries) (8 * (1 + 3 * k) + 8) ≡ (get_or entries k (0, 0, 0)).1
unfolding list_page
to_of_entry next entries k lt fits =
    let entry = All-get_or IsEntry entries k (0, 0, 0) lt fits in
    let is = word-to entries k lt in
    let low = entry.to in
    let at : 8 * (1 + 3 * k) + 8 ≡ 8 * suc (3 * k + 1) = omega arith in
    ap (number_at 4 (page_of_words (next ∷ flat_map words_of entries))) at
    ∙ half_of_word (next ∷ flat_map words_of entries) (suc (3 * k + 1)) (omega (arith, length-words entries)) (omega arith) ∙ is

pub count_of_entry : (next : ℕ) (entries : List Entry) (k : ℕ) → k < length entries → All IsEntry entries → number_at 4 (list_page next entries) (8 * (1 + 3 * k) + 16) ≡ (get_or entries k (0, 0, 0)).2
unfolding list_page
count_of_entry next entries k lt fits =
    let entry = All-get_or IsEntry entries k (0, 0, 0) lt fits in
    let is = word-count entries k lt in
    let low = entry.count in
    let at : 8 * (1 + 3 * k) + 16 ≡ 8 * suc (3 * k + 2) = omega arith in
    ap (number_at 4 (page_of_words (next ∷ flat_map words_of entries))) at
    ∙ half_of_word (next ∷ flat_map words_of entries) (suc (3 * k + 2)) (omega (arith, length-words entries)) (omega arith) ∙ is

-- An empty list frame, and one entry more.

pub list_page-nil : (next : ℕ) → list_page next [] ≡ with_word zero_page 0 next
unfolding list_page
list_page-nil next = page_of_words-push [] next ∙ ap (λ (page : List ℕ). with_word page 0 next) page_of_words-nil

pub list_page-push : (next : ℕ) (entries : List Entry) (e : Entry) (at : ℕ) → at ≡ 1 + 3 * length entries → with_word (with_word (with_word (list_page next entries) at e.0) (at + 1) e.1) (at + 2) e.2 ≡ list_page next (entries ++ e ∷ [])
unfolding list_page
list_page-push next entries e at is =
    let words = next ∷ flat_map words_of entries in
    let first : length words ≡ at = omega (arith, length-words entries) in
    let second : length (words ++ e.0 ∷ []) ≡ at + 1 = omega (arith, length-append words (e.0 ∷ [])) in
    let third : length ((words ++ e.0 ∷ []) ++ e.1 ∷ []) ≡ at + 2 = omega (arith, length-append (words ++ e.0 ∷ []) (e.1 ∷ [])) in
    let whole : ((words ++ e.0 ∷ []) ++ e.1 ∷ []) ++ e.2 ∷ [] ≡ next ∷ flat_map words_of (entries ++ e ∷ []) =
    append_assoc (words ++ e.0 ∷ []) (e.1 ∷ []) (e.2 ∷ []) ∙ append_assoc words (e.0 ∷ []) (e.1 ∷ e.2 ∷ [])
    ∙ ap (λ (ws : List ℕ). next ∷ ws) (sym (flat_map-append words_of entries (e ∷ []))) in
    ap (λ (page : List ℕ). with_word (with_word page (at + 1) e.1) (at + 2) e.2)
    (ap (λ (i : ℕ). with_word (page_of_words words) i e.0) (sym first) ∙ sym (page_of_words-push words e.0))
    ∙ ap (λ (page : List ℕ). with_word page (at + 2) e.2)
    (ap (λ (i : ℕ). with_word (page_of_words (words ++ e.0 ∷ [])) i e.1) (sym second) ∙ sym (page_of_words-push (words ++ e.0 ∷ []) e.1))
    ∙ ap (λ (i : ℕ). with_word (page_of_words ((words ++ e.0 ∷ []) ++ e.1 ∷ [])) i e.2) (sym third)
    ∙ sym (page_of_words-push ((words ++ e.0 ∷ []) ++ e.1 ∷ []) e.2) ∙ ap page_of_words whole

-- The entries of a list frame.

pub part-nil : (i : ℕ) → part [] i ≡ []
part-nil i = ap (take 170) (drop-nil {A = Entry} (170 * i))

pub part-other : (entries : List Entry) (e : Entry) (i : ℕ) → (i ≡ length entries / 170 → ⊥) → part (entries ++ e ∷ []) i ≡ part entries i
part-other entries e i ne = elim (cases_lt i (length entries / 170)) [
  | inl below ↦
      ap (take 170) (drop-append-le (170 * i) entries (e ∷ []) (omega arith))
      ∙ take-append-le 170 (drop (170 * i) entries) (e ∷ []) (omega (arith, length-drop (170 * i) entries))
  | inr above ↦
      ap (take 170) (drop_all (170 * i) (entries ++ e ∷ []) (omega (arith, length-append entries (e ∷ []))) ∙ sym (drop_all (170 * i) entries (omega arith)))
]

pub part-last : (entries : List Entry) (e : Entry) (i : ℕ) → i ≡ length entries / 170 → part (entries ++ e ∷ []) i ≡ part entries i ++ e ∷ []
part-last entries e i is =
    let rest = drop (170 * i) entries in
    let size : length rest < 170 = omega (arith, length-drop (170 * i) entries) in
    ap (take 170) (drop-append-le (170 * i) entries (e ∷ []) (omega arith))
    ∙ take_all 170 (rest ++ e ∷ []) (omega (arith, length-append rest (e ∷ [])))
    ∙ ap (λ (es : List Entry). es ++ e ∷ []) (sym (take_all 170 rest (omega arith)))

pub length-part_last : (entries : List Entry) (i : ℕ) → i ≡ length entries / 170 → length (part entries i) ≡ length entries % 170
length-part_last entries i is = omega (arith, length-take 170 (drop (170 * i) entries), length-drop (170 * i) entries)

-- entry j is in list frame j / 170
pub get_or-part : (entries : List Entry) (j : ℕ) → get_or (part entries (j / 170)) (j % 170) (0, 0, 0) ≡ get_or entries j (0, 0, 0)
get_or-part entries j =
    let place : 170 * (j / 170) + j % 170 ≡ j = omega arith in
    get_or-take 170 (drop (170 * (j / 170)) entries) (j % 170) (0, 0, 0) (omega arith)
    ∙ get_or-drop (170 * (j / 170)) entries (j % 170) (0, 0, 0)
    ∙ ap (λ (i : ℕ). get_or entries i (0, 0, 0)) place

pub within-part : (entries : List Entry) (j : ℕ) → j < length entries → j % 170 < length (part entries (j / 170))
within-part entries j lt = omega (arith, length-take 170 (drop (170 * (j / 170)) entries), length-drop (170 * (j / 170)) entries)

pub All-part : (P : Entry → Type 0) (entries : List Entry) (i : ℕ) → All P entries → All P (part entries i)
All-part P entries i all j d lt =
    let size : j < 170 = omega (arith, length-take 170 (drop (170 * i) entries)) in
    let inside : 170 * i + j < length entries = omega (arith, length-take 170 (drop (170 * i) entries), length-drop (170 * i) entries) in
    subst P (sym (get_or-take 170 (drop (170 * i) entries) j d size ∙ get_or-drop (170 * i) entries j d)) (all (170 * i + j) d inside)

-- Memory with a word set.

unfoldable pub set_word_in : List (List ℕ) → ℕ → ℕ → ℕ → List (List ℕ)
set_word_in memory p i v = with_frame memory p (with_word (frame memory p) i v)

-- two list frames are different page frames
pub list_frames_apart : (frames : List ℕ) (i j : ℕ) → IsDistinct nat_eq frames → i < length frames → j < length frames → (i ≡ j → ⊥) → get_or frames i 0 ≡ get_or frames j 0 → ⊥
list_frames_apart frames i j distinct i_lt j_lt ne same = elim (cases_lt i j) [
  | inl below ↦ false≢true (sym (apart_from_distinct nat_eq frames i j 0 distinct below j_lt) ∙ eq-eqb (get_or frames i 0) (get_or frames j 0) same)
  | inr above ↦ false≢true (sym (apart_from_distinct nat_eq frames j i 0 distinct (omega arith) i_lt) ∙ eq-eqb (get_or frames j 0) (get_or frames i 0) (sym same))
]

-- memory with the three words of an entry set in page frame p
unfoldable pub with_entry_at : List (List ℕ) → ℕ → ℕ → Entry → List (List ℕ)
with_entry_at memory p at e = set_word_in (set_word_in (set_word_in memory p at e.0) p (at + 1) e.1) p (at + 2) e.2

frame-set_word_in : (memory : List (List ℕ)) (p i v : ℕ) → p < length memory → frame (set_word_in memory p i v) p ≡ with_word (frame memory p) i v
unfolding set_word_in
frame-set_word_in memory p i v lt = get_or-set_same memory p (with_word (frame memory p) i v) [] lt

other-set_word_in : (memory : List (List ℕ)) (p i v q : ℕ) → (q ≡ p → ⊥) → frame (set_word_in memory p i v) q ≡ frame memory q
unfolding set_word_in
other-set_word_in memory p i v q ne = get_or-set_other memory p q (with_word (frame memory p) i v) [] ne

length-set_word_in : (memory : List (List ℕ)) (p i v : ℕ) → length (set_word_in memory p i v) ≡ length memory
unfolding set_word_in
length-set_word_in memory p i v = length-set memory p (with_word (frame memory p) i v)

pub length-with_entry_at : (memory : List (List ℕ)) (p at : ℕ) (e : Entry) → length (with_entry_at memory p at e) ≡ length memory
unfolding with_entry_at
length-with_entry_at memory p at e =
    let first = set_word_in memory p at e.0 in
    let second = set_word_in first p (at + 1) e.1 in
    length-set_word_in second p (at + 2) e.2 ∙ length-set_word_in first p (at + 1) e.1 ∙ length-set_word_in memory p at e.0

pub other-with_entry_at : (memory : List (List ℕ)) (p at : ℕ) (e : Entry) (q : ℕ) → (q ≡ p → ⊥) → frame (with_entry_at memory p at e) q ≡ frame memory q
unfolding with_entry_at
other-with_entry_at memory p at e q ne =
    let first = set_word_in memory p at e.0 in
    let second = set_word_in first p (at + 1) e.1 in
    other-set_word_in second p (at + 2) e.2 q ne ∙ other-set_word_in first p (at + 1) e.1 q ne ∙ other-set_word_in memory p at e.0 q ne

frame-with_entry_at : (memory : List (List ℕ)) (p at : ℕ) (e : Entry) → p < length memory → frame (with_entry_at memory p at e) p ≡ with_word (with_word (with_word (frame memory p) at e.0) (at + 1) e.1) (at + 2) e.2
unfolding with_entry_at
frame-with_entry_at memory p at e lt =
    let first = set_word_in memory p at e.0 in
    let second = set_word_in first p (at + 1) e.1 in
    let size = length-set_word_in memory p at e.0 in
    let size_2 = length-set_word_in first p (at + 1) e.1 in
    frame-set_word_in second p (at + 2) e.2 (omega arith)
    ∙ ap (λ (page : List ℕ). with_word page (at + 2) e.2)
    (frame-set_word_in first p (at + 1) e.1 (omega arith)
    ∙ ap (λ (page : List ℕ). with_word page (at + 1) e.1) (frame-set_word_in memory p at e.0 lt))

-- One entry more.

All-one : (e : Entry) → IsEntry e → All IsEntry (e ∷ [])
All-one e is zero d lt = is
All-one e is (suc i) d lt = absurd (omega arith)

pub one_more : (memory : List (List ℕ)) (listed : Listed) (entries : List Entry) (e : Entry) (p at : ℕ) → listed.len < 170 * length listed.frames → p ≡ slice_index listed.frames (listed.len / 170) → at ≡ 1 + 3 * (listed.len % 170) → IsEntry e → LiesIn memory listed entries → LiesIn (with_entry_at memory p at e) (record listed { len = listed.len + 1 }) (entries ++ e ∷ [])
one_more memory listed entries e p at room p_is at_is fits h =
    let frames = listed.frames in
    let n = listed.len / 170 in
    let len = h.len in
    let size = length-with_entry_at memory p at e in
    let n_within : n < length frames = omega arith in
    let n_is : n ≡ length entries / 170 = ap (λ (m : ℕ). m / 170) len in
    let p_within : p < length memory = rw p_is (h.within n 0 n_within) in
    record {
      within = λ i d lt. let low = h.within i d lt in omega arith;
      distinct = h.distinct;
      len = omega (arith, length-append entries (e ∷ []));
      room = omega (arith, length-append entries (e ∷ []));
      fits = All-append IsEntry entries (e ∷ []) h.fits (All-one e fits);
      pages = λ i lt. elim (cases_eq i n) [
        | inl here ↦
            let es = part entries i in
            let next = next_frame frames i in
            let p_here : get_or frames i 0 ≡ p = ap (λ (j : ℕ). get_or frames j 0) here ∙ sym p_is in
            let place : at ≡ 1 + 3 * length es = omega (arith, length-part_last entries i (here ∙ n_is)) in
            let page_was : frame memory p ≡ list_page next es = ap (frame memory) (sym p_here) ∙ h.pages i lt in
            ap (frame (with_entry_at memory p at e)) p_here ∙ frame-with_entry_at memory p at e p_within
            ∙ ap (λ (page : List ℕ). with_word (with_word (with_word page at e.0) (at + 1) e.1) (at + 2) e.2) page_was
            ∙ list_page-push next es e at place ∙ ap (list_page next) (sym (part-last entries e i (here ∙ n_is)))
        | inr elsewhere ↦
            other-with_entry_at memory p at e (get_or frames i 0) (λ same. list_frames_apart frames i n h.distinct lt n_within elsewhere (same ∙ p_is))
            ∙ h.pages i lt ∙ ap (list_page (next_frame frames i)) (sym (part-other entries e i (λ last. elsewhere (last ∙ sym n_is))))
      ];
    }

-- No entry yet: how far the list frames are made.

pub record AreMade (old memory : List (List ℕ)) (frames : List ℕ) (i : ℕ) : Type 0 where
  pub size : length memory ≡ length old
  pub made : (j : ℕ) → j < i → frame memory (get_or frames j 0) ≡ list_page (next_frame frames j) []
  pub others : (p : ℕ) → (Contains frames p → ⊥) → frame memory p ≡ frame old p

pub none_made : (old : List (List ℕ)) (frames : List ℕ) → AreMade old old frames 0
none_made old frames = record { size = refl; made = λ j lt. absurd (omega arith); others = λ p _. refl }

pub one_more_made : (old memory : List (List ℕ)) (frames : List ℕ) (i p next : ℕ) → IsDistinct nat_eq frames → i < length frames → p ≡ get_or frames i 0 → next ≡ next_frame frames i → p < length memory → AreMade old memory frames i → AreMade old (set_word_in (with_frame memory p zero_page) p 0 next) frames (i + 1)
one_more_made old memory frames i p next distinct i_lt p_is next_is p_lt h =
    let zeroed = with_frame memory p zero_page in
    let size = length-set memory p zero_page in
    let other : (q : ℕ) → (q ≡ p → ⊥) → frame (set_word_in zeroed p 0 next) q ≡ frame memory q =
    λ q ne. other-set_word_in zeroed p 0 next q ne ∙ get_or-set_other memory p q zero_page [] ne in
    record {
      size = length-set_word_in zeroed p 0 next ∙ size ∙ h.size;
      made = λ j lt. elim (cases_eq j i) [
        | inl here ↦
            let at : get_or frames j 0 ≡ p = ap (λ (k : ℕ). get_or frames k 0) here ∙ sym p_is in
            ap (frame (set_word_in zeroed p 0 next)) at ∙ frame-set_word_in zeroed p 0 next (omega arith)
            ∙ ap (λ (page : List ℕ). with_word page 0 next) (get_or-set_same memory p zero_page [] p_lt)
            ∙ sym (list_page-nil next) ∙ ap (λ (v : ℕ). list_page v []) (next_is ∙ ap (next_frame frames) (sym here))
        | inr before ↦
            other (get_or frames j 0) (λ same. list_frames_apart frames j i distinct (omega arith) i_lt before (same ∙ p_is))
            ∙ h.made j (omega arith)
      ];
      others = λ q outside.
          other q (λ same. outside (subst (λ (x : ℕ). Contains frames x) (sym (same ∙ p_is)) (Contains-get_or frames i 0 i_lt)))
          ∙ h.others q outside;
    }

-- all list frames are made
pub all_made : (old memory : List (List ℕ)) (frames : List ℕ) (i : ℕ) → i ≡ length frames → IsDistinct nat_eq frames → All (λ p. p < length old) frames → AreMade old memory frames i → LiesIn memory (record { frames = frames; len = 0 }) []
all_made old memory frames i all distinct within h = record {
  within = λ j d lt. let low = within j d lt in let size = h.size in omega arith;
  distinct = distinct;
  len = refl;
  room = omega arith;
  fits = λ j d lt. absurd (omega arith);
  pages = λ j lt. h.made j (omega arith) ∙ ap (list_page (next_frame frames j)) (sym (part-nil j));
}

-- the page of entry j
pub page_of_entry : (memory : List (List ℕ)) (listed : Listed) (entries : List Entry) (j p : ℕ) → j < listed.len → p ≡ slice_index listed.frames (j / 170) → LiesIn memory listed entries → frame memory p ≡ list_page (next_frame listed.frames (j / 170)) (part entries (j / 170))
page_of_entry memory listed entries j p lt is h =
    let len = h.len in
    let room = h.room in
    ap (frame memory) is ∙ h.pages (j / 170) (omega arith)
