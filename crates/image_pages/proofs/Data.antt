-- How many of the first numbers pass a test, and how many of the first words have a data page.
use Rattle.std.proofs.Common.{◌≡◌, ℕ, ◌+◌, ◌*◌, ◌/◌, ◌%◌, ◌<◌, ◌≤◌, Bool, true, false, List, [], ◌∷◌, ◌++◌, length, cond, zero, suc, refl, sym, ap, subst, ◌∙◌, inl, inr, arith}
use Rattle.std.specs.Prelude.{count_by}
use Rattle.std.specs.List.{range_with_len}
use Rattle.std.proofs.lemmas.Bool.{cases_lt}
use Rattle.std.proofs.lemmas.List.Sums.{sum_by-cons}
use Rattle.std.proofs.Math.ListN.{get_or-append}
use Rattle.std.proofs.Math.Seq.{get_or-append_seam}
use Rattle.page_core.specs.declared.format.Format.{Format}
use Rattle.page_core.specs.declared.format.Format.TheVariants.{Plain}
use Rattle.definitions.specs.Bytes.{word}
use Rattle.image_pages.specs.Ahead.{data_words, listed, listed_data}
use Rattle.image_pages.specs.Found.{page_at}
use Rattle.image_pages.specs.Saved.{data_before, has_data, has_page, word_in}

-- a number counts once if it passes
abbrev pub once : Bool → ℕ
once t = cond t 1 0

abbrev pub counted : (ℕ → Bool) → ℕ → ℕ
counted p n = count_by p (range_with_len 0 n)

from : (p : ℕ → Bool) (a n : ℕ) → count_by p (range_with_len a (suc n)) ≡ count_by p (range_with_len a n) + once (p (a + n))
from p a zero = ap (λ (k : ℕ). 0 + once (p k)) (no_more a) where
  no_more : (k : ℕ) → k ≡ k + 0
  no_more k = omega arith
from p a (suc n) =
    let long = sum_by-cons (λ (x : ℕ). once (p x)) a (range_with_len (a + 1) (suc n)) in
    let short = sum_by-cons (λ (x : ℕ). once (p x)) a (range_with_len (a + 1) n) in
    let later = from p (a + 1) n in
    let last : once (p (a + 1 + n)) ≡ once (p (a + suc n)) = ap (λ (k : ℕ). once (p k)) (same a n) in
    omega (arith, long, short, later, last) where
      same : (b m : ℕ) → b + 1 + m ≡ b + suc m
      same b m = omega arith

pub counted_more : (p : ℕ → Bool) (n : ℕ) → counted p (suc n) ≡ counted p n + once (p n)
counted_more p n = from p 0 n ∙ ap (λ (k : ℕ). counted p n + once (p k)) (first n) where
  first : (k : ℕ) → 0 + k ≡ k
  first k = omega arith

one_yes : (t : Bool) → t ≡ true → once t ≡ 1
one_yes true e = refl
one_yes false e = cc

one_few : (t : Bool) → once t ≤ 1
one_few true = omega arith
one_few false = omega arith

pub counted_same : (p q : ℕ → Bool) (n : ℕ) → ((j : ℕ) → j < n → p j ≡ q j) → counted p n ≡ counted q n
counted_same p q zero same = refl
counted_same p q (suc n) same =
    let before = counted_same p q n (λ j lt. same j (omega arith)) in
    let last : once (p n) ≡ once (q n) = ap once (same n (omega arith)) in
    omega (arith, counted_more p n, counted_more q n, before, last)

pub counted_all : (p : ℕ → Bool) (n : ℕ) → ((j : ℕ) → j < n → p j ≡ true) → counted p n ≡ n
counted_all p zero all = refl
counted_all p (suc n) all =
    let before = counted_all p n (λ j lt. all j (omega arith)) in
    omega (arith, counted_more p n, before, one_yes (p n) (all n (omega arith)))

pub counted_few : (p : ℕ → Bool) (n : ℕ) → counted p n ≤ n
counted_few p zero = omega arith
counted_few p (suc n) = omega (arith, counted_more p n, counted_few p n, one_few (p n))

-- more numbers count no less
pub counted_up : (p : ℕ → Bool) (i n : ℕ) → i ≤ n → counted p i ≤ counted p n
counted_up p i zero le = let e : i ≡ 0 = omega arith in omega (arith, ap (counted p) e)
counted_up p i (suc n) le = elim (cases_lt i (suc n)) [
  | inl less ↦ omega (arith, counted_up p i n (omega arith), counted_more p n)
  | inr same ↦ let e : i ≡ suc n = omega arith in omega (arith, ap (counted p) e)
]

-- and more if one of the further numbers passes
pub counted_inside : (p : ℕ → Bool) (i n : ℕ) → i < n → p i ≡ true → counted p i + 1 ≤ counted p n
counted_inside p i n lt passes = omega (arith, counted_up p (suc i) n (omega arith), counted_more p i, one_yes (p i) passes)

pub counted_join : (p : ℕ → Bool) (a n : ℕ) → counted p (a + n) ≡ counted p a + counted (λ j. p (a + j)) n
counted_join p a zero = ap (counted p) (no_more a) ∙ sym (no_more (counted p a)) where
  no_more : (k : ℕ) → k + 0 ≡ k
  no_more k = omega arith
counted_join p a (suc n) =
    let before = counted_join p a n in
    let more = counted_more p (a + n) in
    let last = counted_more (λ j. p (a + j)) n in
    let same : counted p (a + suc n) ≡ counted p (suc (a + n)) = ap (counted p) (next a n) in
    omega (arith, before, more, last, same) where
      next : (b m : ℕ) → b + suc m ≡ suc (b + m)
      next b m = omega arith

-- the words of number pages after an info page
pub behind_info : (info : List ℕ) (rest : List (List ℕ)) (k : ℕ) → page_at (info ∷ rest) (1 + k) ≡ page_at rest k
behind_info info rest k = ap (page_at (info ∷ rest)) (let e : 1 + k ≡ suc k = omega arith in e)

pub word_behind : (info : List ℕ) (rest : List (List ℕ)) (i : ℕ) → word_in (page_at (info ∷ rest)) i ≡ listed rest i
word_behind info rest i = ap (λ (p : List ℕ). word p (i % 512)) (behind_info info rest (i / 512))

pub data_behind : (format : Format) (info : List ℕ) (rest : List (List ℕ)) (n : ℕ) → data_before format (page_at (info ∷ rest)) n ≡ listed_data format rest n
data_behind format info rest n =
    counted_same (has_data format (page_at (info ∷ rest))) (λ j. has_page format (listed rest j)) n (λ j lt. ap (has_page format) (word_behind info rest j))

-- a word among the pages before, and in the last one
pub listed_before : (pages more : List (List ℕ)) (i : ℕ) → i / 512 < length pages → listed (pages ++ more) i ≡ listed pages i
listed_before pages more i lt = ap (λ (p : List ℕ). word p (i % 512)) (get_or-append pages more [] (i / 512) lt)

pub listed_last : (pages : List (List ℕ)) (page : List ℕ) (i : ℕ) → i / 512 ≡ length pages → listed (pages ++ page ∷ []) i ≡ word page (i % 512)
listed_last pages page i at =
    ap (λ (k : ℕ). word (page_at (pages ++ page ∷ []) k) (i % 512)) at
    ∙ ap (λ (p : List ℕ). word p (i % 512)) (get_or-append_seam pages page [] [])

pub data_kept : (format : Format) (pages more : List (List ℕ)) (n : ℕ) → n ≤ 512 * length pages → listed_data format (pages ++ more) n ≡ listed_data format pages n
data_kept format pages more n le =
    counted_same (λ j. has_page format (listed (pages ++ more) j)) (λ j. has_page format (listed pages j)) n
    (λ j lt. ap (has_page format) (listed_before pages more j (omega arith)))

-- the first words of one page more
pub data_added : (format : Format) (pages : List (List ℕ)) (page : List ℕ) (k n : ℕ) → length pages ≡ k → n ≤ 512 → listed_data format (pages ++ page ∷ []) (512 * k + n) ≡ listed_data format pages (512 * k) + data_words format page n
data_added format pages page k n size le =
    let all = pages ++ page ∷ [] in
    let both = counted_join (λ j. has_page format (listed all j)) (512 * k) n in
    let old = data_kept format pages (page ∷ []) (512 * k) (omega arith) in
    let new = counted_same (λ j. has_page format (listed all (512 * k + j))) (λ j. has_page format (word page j)) n (λ j lt.
    let at : (512 * k + j) / 512 ≡ k = omega arith in
    let rest : (512 * k + j) % 512 ≡ j = omega arith in
    ap (has_page format) (listed_last pages page (512 * k + j) (at ∙ sym size) ∙ ap (word page) rest)) in
    omega (arith, both, old, new)

-- in the plain format each number has a data page
pub data_plain : (pages : List (List ℕ)) (n : ℕ) → listed_data Plain pages n ≡ n
data_plain pages n = counted_all (λ j. has_page Plain (listed pages j)) n (λ j lt. refl)

-- one word more
words_more : (format : Format) (page : List ℕ) (i w : ℕ) (t : Bool) → w ≡ word page i → t ≡ has_page format w → data_words format page (i + 1) ≡ data_words format page i + once t
words_more format page i w t is has =
    ap (counted (λ j. has_page format (word page j))) (let e : i + 1 ≡ suc i = omega arith in e)
    ∙ counted_more (λ j. has_page format (word page j)) i
    ∙ ap (λ (k : Bool). data_words format page i + once k) (ap (has_page format) (sym is) ∙ sym has)

pub words_yes : (format : Format) (page : List ℕ) (i w found : ℕ) (t : Bool) → w ≡ word page i → t ≡ has_page format w → t ≡ true → found ≡ data_words format page i → found + 1 ≡ data_words format page (i + 1)
words_yes format page i w found t is has e so_far = omega (arith, words_more format page i w t is has, one_yes t e, so_far)

pub words_no : (format : Format) (page : List ℕ) (i w found : ℕ) (t : Bool) → w ≡ word page i → t ≡ has_page format w → t ≡ false → found ≡ data_words format page i → found ≡ data_words format page (i + 1)
words_no format page i w found t is has e so_far =
    let none : once t ≡ 0 = ap once e in
    omega (arith, words_more format page i w t is has, none, so_far)
