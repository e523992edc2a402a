-- The first line of a text, and its first words.
use Rattle.std.proofs.Common.{◌≡◌, ℕ, ◌+◌, ◌-◌, ◌<◌, ◌≤◌, List, [], ◌∷◌, ◌++◌, length, take, drop, get_or, Bool, true, false, ◌==◌, ◌&&◌, refl, sym, ap, ◌∙◌, subst, arith, inl, inr, append_assoc, add-zero, ne_eqb}
use Rattle.std.specs.Prelude.{All, filter}
use Rattle.std.specs.Char.{is_ascii_graphic}
use Rattle.std.specs.List.{list_all, slice_split, onto_first}
use Rattle.std.proofs.lemmas.Bool.{cases_lt}
use Rattle.std.proofs.lemmas.Bool.Decides.{nat_tests}
use Rattle.std.proofs.lemmas.List.{take_all, take_more, take-append-drop, take-append-le, take-take, drop-take, length-take, length-drop, drop-drop, drop_more, get_or-drop, get_or_default}
use Rattle.std.proofs.lemmas.List.Elements.{All-head, All-tail, All-more, All-weaker, filter-append}
use Rattle.std.proofs.lemmas.List.Folds.{list_all-append, list_all_more}
use Rattle.std.proofs.lemmas.List.Sums.{count_by-le-length, list_all-from_AllPass}
use Rattle.std.proofs.lemmas.List.Splits.{slice_split-cons_no, slice_split_at, slice_split_none, length-slice_split}
use Rattle.script.specs.Grammar.{first_line, is_printable, lines_of}
use Rattle.script.specs.Shapes.{is_word, words_of}

-- a text has a first line
lines_more : (text : List ℕ) → lines_of text ≡ first_line text ∷ drop 1 (lines_of text)
lines_more text = drop_more (lines_of text) 0 [] (omega (arith, length-slice_split (λ b. b == 10) text))

-- what stands before an LF stands in the first line
front_of_line : (front text : List ℕ) → All (λ b. (b == 10) ≡ false) front → lines_of (front ++ text) ≡ (front ++ first_line text) ∷ drop 1 (lines_of text)
front_of_line [] text none = lines_more text
front_of_line (b ∷ front) text none =
    let rest = front_of_line front text (All-tail (λ x. (x == 10) ≡ false) b front none) in
    slice_split-cons_no (λ b. b == 10) b (front ++ text) (All-head (λ x. (x == 10) ≡ false) b front none) ∙ ap (onto_first b) rest

-- the words of a line whose first one ends at a space
words_of-space : (word line : List ℕ) → All (λ b. (b == 32) ≡ false) word → words_of (word ++ 32 ∷ line) ≡ filter is_word (word ∷ []) ++ words_of line
words_of-space word line none = ap (filter is_word) (slice_split_at (λ b. b == 32) word 32 line none refl) ∙ filter-append is_word (word ∷ []) (slice_split (λ b. b == 32) line)

-- one word without an end
words_of-one : (word : List ℕ) → All (λ b. (b == 32) ≡ false) word → words_of word ≡ filter is_word (word ∷ [])
words_of-one word none = ap (filter is_word) (slice_split_none (λ b. b == 32) word none)

-- of the items that fit, the first are kept
take-kept : {A : Type 0} (n : ℕ) (xs ys : List A) → take n (take n xs ++ ys) ≡ take n (xs ++ ys)
take-kept n xs ys = elim (cases_lt (length xs) n) [
  | inl less ↦ ap (λ front. take n (front ++ ys)) (take_all n xs (omega arith))
  | inr all ↦
      let size = length-take n xs in
      take-append-le n (take n xs) ys (omega arith) ∙ take-take n n xs (omega arith) ∙ sym (take-append-le n xs ys all)
]

take-add : {A : Type 0} (xs : List A) (n m : ℕ) → take (n + m) xs ≡ take n xs ++ take m (drop n xs)
take-add xs n m = sym (take-append-drop n (take (n + m) xs)) ∙ ap (λ front. front ++ drop n (take (n + m) xs)) (take-take n (n + m) xs (omega arith)) ∙ ap (λ back. take n xs ++ back) (drop-take n m xs)

-- The bytes before i are read: the words that ended are the first of words, and another one began at from.
pub record Walks (text : List ℕ) (from i : ℕ) (words : List (List ℕ)) : Type 0 where
  pub begun : from ≤ i
  pub word : All (λ b. is_ascii_graphic b ≡ true) (take (i - from) (drop from text))
  pub printable : All (λ b. is_printable b ≡ true) (take i text)
  pub split : (rest : List ℕ) → take 10 (words ++ words_of rest) ≡ take 10 (words_of (take from text ++ rest))

pub begins : (text : List ℕ) → Walks text 0 0 []
begins text = record {
  begun = omega arith;
  word = λ k d lt. absurd (omega arith);
  printable = λ k d lt. absurd (omega arith);
  split = λ rest. refl;
}

-- the word that began
abbrev pub word_at : List ℕ → ℕ → ℕ → List (List ℕ)
word_at text from i = filter is_word (take (i - from) (drop from text) ∷ [])

before : (text : List ℕ) (from i : ℕ) → from ≤ i → take i text ≡ take from text ++ take (i - from) (drop from text)
before text from i le = subst (λ (n : ℕ). take n text ≡ take from text ++ take (i - from) (drop from text)) (omega arith) (take-add text from (i - from))

no_space : (b : ℕ) → is_ascii_graphic b ≡ true → (b == 32) ≡ false
no_space b is = grind (arith, nat_tests)

no_end : (b : ℕ) → is_printable b ≡ true → (b == 10) ≡ false
no_end b is = grind (arith, nat_tests)

spaceless : (text : List ℕ) (from i : ℕ) (words : List (List ℕ)) → Walks text from i words → All (λ b. (b == 32) ≡ false) (take (i - from) (drop from text))
spaceless text from i words w = All-weaker (λ b. is_ascii_graphic b ≡ true) (λ b. (b == 32) ≡ false) no_space (take (i - from) (drop from text)) w.word

endless : (text : List ℕ) (i : ℕ) → All (λ b. is_printable b ≡ true) (take i text) → All (λ b. (b == 10) ≡ false) (take i text)
endless text i all = All-weaker (λ b. is_printable b ≡ true) (λ b. (b == 10) ≡ false) no_end (take i text) all

-- the words of what is read, with the one that began
pub words_so_far : (text : List ℕ) (from i : ℕ) (words : List (List ℕ)) → Walks text from i words → take 10 (words ++ word_at text from i) ≡ take 10 (words_of (take i text))
words_so_far text from i words w =
    let word = take (i - from) (drop from text) in
    ap (λ last. take 10 (words ++ last)) (sym (words_of-one word (spaceless text from i words w))) ∙ w.split word ∙ ap (λ line. take 10 (words_of line)) (sym (before text from i w.begun))

-- a byte of a word
pub goes_on : (text : List ℕ) (from i : ℕ) (words : List (List ℕ)) → Walks text from i words → i < length text → is_ascii_graphic (get_or text i 0) ≡ true → Walks text from (i + 1) words
goes_on text from i words w lt is =
    let fits : is_printable (get_or text i 0) ≡ true = grind (arith, nat_tests) in
    let next : get_or (drop from text) (i - from) 0 ≡ get_or text i 0 = get_or-drop from text (i - from) 0 ∙ ap (λ n. get_or text n 0) (omega (arith, w.begun)) in
    let room : i - from < length (drop from text) = omega (arith, w.begun, length-drop from text) in
    record {
      begun = omega (arith, w.begun);
      word = subst (λ (n : ℕ). All (λ b. is_ascii_graphic b ≡ true) (take n (drop from text))) (omega (arith, w.begun)) (All-more (λ b. is_ascii_graphic b ≡ true) (drop from text) (i - from) 0 room w.word (ap is_ascii_graphic next ∙ is));
      printable = All-more (λ b. is_printable b ≡ true) text i 0 lt w.printable fits;
      split = w.split;
    }

-- a space, which ends the word
pub ends_word : (text : List ℕ) (from i : ℕ) (words : List (List ℕ)) → Walks text from i words → i < length text → get_or text i 0 ≡ 32 → Walks text (i + 1) (i + 1) (take 10 (words ++ word_at text from i))
ends_word text from i words w lt is =
    let word = take (i - from) (drop from text) in
    let space : is_printable (get_or text i 0) ≡ true = rw is refl in
    let read : take (i + 1) text ≡ take from text ++ (word ++ 32 ∷ []) = take_more text i 0 lt ∙ ap (λ b. take i text ++ b ∷ []) is ∙ ap (λ front. front ++ 32 ∷ []) (before text from i w.begun) ∙ append_assoc (take from text) word (32 ∷ []) in
    record {
      begun = omega arith;
      word = λ k d less. absurd (omega (arith, length-take (i + 1 - (i + 1)) (drop (i + 1) text)));
      printable = All-more (λ b. is_printable b ≡ true) text i 0 lt w.printable space;
      split = λ rest.
          let line : take (i + 1) text ++ rest ≡ take from text ++ (word ++ 32 ∷ rest) = ap (λ front. front ++ rest) read ∙ append_assoc (take from text) (word ++ 32 ∷ []) rest ∙ ap (λ back. take from text ++ back) (append_assoc word (32 ∷ []) rest) in
          take-kept 10 (words ++ word_at text from i) (words_of rest)
          ∙ ap (take 10) (append_assoc words (word_at text from i) (words_of rest))
          ∙ ap (λ back. take 10 (words ++ back)) (sym (words_of-space word rest (spaceless text from i words w)))
          ∙ w.split (word ++ 32 ∷ rest)
          ∙ ap (λ front. take 10 (words_of front)) (sym line);
    }

-- an LF, which ends the line
pub lines_of-end : (text : List ℕ) (from i : ℕ) (words : List (List ℕ)) → Walks text from i words → i < length text → get_or text i 0 ≡ 10 → lines_of text ≡ take i text ∷ lines_of (drop (i + 1) text)
lines_of-end text from i words w lt is =
    let parts : text ≡ take i text ++ 10 ∷ drop (i + 1) text = sym (take-append-drop i text) ∙ ap (λ back. take i text ++ back) (drop_more text i 0 lt ∙ ap (λ b. b ∷ drop (i + 1) text) is) in
    ap lines_of parts ∙ slice_split_at (λ b. b == 10) (take i text) 10 (drop (i + 1) text) (endless text i w.printable) refl

-- the end of the text, which ends the line too
pub lines_of-last : (text : List ℕ) (from i : ℕ) (words : List (List ℕ)) → Walks text from i words → length text ≤ i → lines_of text ≡ text ∷ []
lines_of-last text from i words w all = slice_split_none (λ b. b == 10) text (subst (All (λ b. (b == 10) ≡ false)) (take_all i text all) (endless text i w.printable))

pub first_is : (text line : List ℕ) (more : List (List ℕ)) → lines_of text ≡ line ∷ more → first_line text ≡ line
first_is text line more are = ap (λ lines. get_or lines 0 []) are

and-false : (b : Bool) → (b && false) ≡ false
and-false true = refl
and-false false = refl

-- a byte that no line may have
pub unprintable : (text : List ℕ) (from i : ℕ) (words : List (List ℕ)) → Walks text from i words → i < length text → is_ascii_graphic (get_or text i 0) ≡ false → (get_or text i 0 ≡ 32 → ⊥) → (get_or text i 0 ≡ 10 → ⊥) → list_all is_printable (first_line text) ≡ false
unprintable text from i words w lt other no_space no_end =
    let bad : is_printable (get_or text i 0) ≡ false = grind (arith, nat_tests) in
    let inside : (get_or text i 0 == 10) ≡ false = ne_eqb (get_or text i 0) 10 no_end in
    let front = All-more (λ b. (b == 10) ≡ false) text i 0 lt (endless text i w.printable) inside in
    let line : first_line text ≡ take (i + 1) text ++ first_line (drop (i + 1) text) = ap first_line (sym (take-append-drop (i + 1) text)) ∙ ap (λ lines. get_or lines 0 []) (front_of_line (take (i + 1) text) (drop (i + 1) text) front) in
    let fails : list_all is_printable (take (i + 1) text) ≡ false = list_all_more is_printable text i 0 lt ∙ ap (λ b. list_all is_printable (take i text) && b) bad ∙ and-false (list_all is_printable (take i text)) in
    ap (list_all is_printable) line ∙ list_all-append is_printable (take (i + 1) text) (first_line (drop (i + 1) text)) ∙ ap (λ b. b && list_all is_printable (first_line (drop (i + 1) text))) fails

pub printable : (text : List ℕ) (from i : ℕ) (words : List (List ℕ)) → Walks text from i words → list_all is_printable (take i text) ≡ true
printable text from i words w = list_all-from_AllPass is_printable (take i text) w.printable

-- Lines one after the other.

-- the next line
pub line_here : (bytes text : List ℕ) (k : ℕ) → lines_of text ≡ drop k (lines_of bytes) → (k < length (lines_of bytes)) × (first_line text ≡ get_or (lines_of bytes) k (first_line text))
line_here bytes text k left =
    let some = ap length (lines_more text) in
    let lt : k < length (lines_of bytes) = omega (arith, some, ap length left, length-drop k (lines_of bytes)) in
    (lt, ap (λ lines. get_or lines 0 []) left ∙ get_or-drop k (lines_of bytes) 0 [] ∙ ap (λ n. get_or (lines_of bytes) n []) (add-zero k) ∙ get_or_default (lines_of bytes) k [] (first_line text) lt)

-- the lines after the next one
pub lines_behind : (bytes text : List ℕ) (k : ℕ) → lines_of text ≡ drop k (lines_of bytes) → drop 1 (lines_of text) ≡ drop (k + 1) (lines_of bytes)
lines_behind bytes text k left = ap (drop 1) left ∙ drop-drop 1 k (lines_of bytes)

pub fewer_lines : (text : List ℕ) → length (drop 1 (lines_of text)) < length (lines_of text)
fewer_lines text = omega (arith, ap length (lines_more text))

pub few_lines : (bytes : List ℕ) → length (lines_of bytes) ≤ length bytes + 1
few_lines bytes = omega (arith, length-slice_split (λ b. b == 10) bytes, count_by-le-length (λ (b : ℕ). b == 10) bytes)
