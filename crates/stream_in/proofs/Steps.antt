-- The first fault of a stream, as bytes come after it.
use Rattle.std.proofs.Common.{◌≡◌, ◌≢◌, ℕ, ◌+◌, ◌*◌, ◌%◌, ◌<◌, ◌≤◌, ◌⊎◌, zero, suc, Bool, true, false, cond, eqb, ltb, leb, ◌&&◌, List, [], ◌∷◌, ◌++◌, length, take, drop, min, Option, Some, None, refl, sym, ap, ap₂, ◌∙◌, subst, inl, inr, arith, add-one, length-append, length-drop}
use Rattle.std.proofs.lemmas.List.{take-append-le, drop-append-le}
use Rattle.std.proofs.lemmas.Bool.{cases_lt, cases_Bool, cond-true, cond-false, lt-ltb, le-ltb, ltb-true, ltb-false, leb-true, eqb-true, and_parts}
use Rattle.definitions.specs.Bytes.{number_at}
use Rattle.definitions.specs.NumberPages.{meta_of}
use Rattle.definitions.proofs.PageBytes.{number_at-same}
use Rattle.stream_in.specs.declared.checking.fault.StreamFault.{StreamFault}
use Rattle.stream_in.specs.declared.checking.fault.Kind.TheVariants.{Extra}
use Rattle.stream_in.specs.Grammar.{image_pages, all_pages, place, number, words, fault, are_counts, counts_fault, least_number, kind_of_word, fault_at, word_fault, extra_fault, or_else, first_below, first_fault}

-- Numbers stay where bytes come after them.

pub number_at-append : (n k : ℕ) (bs more : List ℕ) → k + n ≤ length bs → number_at n (bs ++ more) k ≡ number_at n bs k
number_at-append n k bs more h =
    number_at-same n (bs ++ more) bs k
    (ap (take n) (drop-append-le k bs more (omega arith)) ∙ take-append-le n (drop k bs) more (omega (arith, length-drop k bs)))

pub image_pages-append : (bs more : List ℕ) → 424 ≤ length bs → image_pages (bs ++ more) ≡ image_pages bs
image_pages-append bs more h = number_at-append 8 416 bs more h

pub all_pages-append : (bs more : List ℕ) → 432 ≤ length bs → all_pages (bs ++ more) ≡ all_pages bs
all_pages-append bs more h = number_at-append 8 424 bs more h

pub least_number-append : (bs more : List ℕ) (j : ℕ) → place j ≤ length bs → least_number (bs ++ more) j ≡ least_number bs j
least_number-append bs more zero h = refl
least_number-append bs more (suc j) h = ap (λ n. n + 1) (number_at-append 8 (place j) bs more (omega arith))

pub word_fault-append : (bs more : List ℕ) (j : ℕ) → place j + 8 ≤ length bs → word_fault (bs ++ more) j ≡ word_fault bs j
word_fault-append bs more j h =
    let n = image_pages-append bs more (omega arith) in
    let least = least_number-append bs more j (omega arith) in
    let v = number_at-append 8 (place j) bs more h in
    ap (fault_at (place j)) (ap (λ m. kind_of_word m j (least_number (bs ++ more) j) (number (bs ++ more) j)) n
    ∙ ap₂ (kind_of_word (image_pages bs) j) least v)

-- The first result among some.

pub first_below-same : {A : Type 0} (f g : ℕ → Option A) (n : ℕ) → ((j : ℕ) → j < n → f j ≡ g j) → first_below f n ≡ first_below g n
first_below-same f g zero same = refl
first_below-same f g (suc n) same = ap₂ or_else (first_below-same f g n (λ j lt. same j (omega arith))) (same n (omega arith))

pub first_below-suc : {A : Type 0} (f : ℕ → Option A) (n : ℕ) → first_below f n ≡ None → first_below f (n + 1) ≡ f n
first_below-suc f n none = ap (first_below f) (add-one n) ∙ ap (λ x. or_else x (f n)) none

pub or_else-parts : {A : Type 0} (a b : Option A) → or_else a b ≡ None → (a ≡ None) × (b ≡ None)
or_else-parts None b h = (refl, h)
or_else-parts (Some x) b h = cc

pub or_else-nil : {A : Type 0} (a b : Option A) → b ≡ None → or_else a b ≡ a
or_else-nil None b h = h
or_else-nil (Some x) b h = refl

true_at_none : {A : Type 0} (b : Bool) (x : A) → cond b None (Some x) ≡ None → b ≡ true
true_at_none true x h = refl
true_at_none false x h = cc

false_at_none : {A : Type 0} (b : Bool) (x : A) → cond b (Some x) None ≡ None → b ≡ false
false_at_none true x h = cc
false_at_none false x h = refl

-- The counts.

-- what the counts are where they are those of an image
pub record AreCounts (n pages : ℕ) : Type 0 where
  pub some : 0 < n
  pub few : n ≤ 65536
  pub all : pages ≡ n + meta_of n + 1

pub counts_from : (n pages : ℕ) → are_counts n pages ≡ true → AreCounts n pages
counts_from n pages h =
    let outer = and_parts (ltb 0 n && leb n 65536) (eqb pages (n + meta_of n + 1)) h in
    let inner = and_parts (ltb 0 n) (leb n 65536) outer.0 in
    record { some = ltb-true 0 n inner.0; few = leb-true n 65536 inner.1; all = eqb-true pages (n + meta_of n + 1) outer.1 }

pub counts_none : (n pages : ℕ) → counts_fault n pages ≡ None → are_counts n pages ≡ true
counts_none n pages h = true_at_none (are_counts n pages) _ h

-- The parts of the first fault.

-- before the info page is whole there is none
pub first_fault-early : (bs : List ℕ) → length bs < 4096 → first_fault bs ≡ None
unfolding first_fault
first_fault-early bs h = cond-true (ltb (length bs) 4096) None _ (lt-ltb (length bs) 4096 h)

pub first_fault-late : (bs : List ℕ) → 4096 ≤ length bs → first_fault bs ≡ or_else (counts_fault (image_pages bs) (all_pages bs))
    (or_else (first_below (word_fault bs) (min (image_pages bs + 1) (words bs))) (extra_fault bs))
unfolding first_fault
first_fault-late bs h = cond-false (ltb (length bs) 4096) None _ (le-ltb (length bs) 4096 h)

pub extra_fault-none : (bs : List ℕ) → length bs ≤ 4096 * all_pages bs → extra_fault bs ≡ None
extra_fault-none bs h = cond-false (ltb (4096 * all_pages bs) (length bs)) (Some _) None (le-ltb (4096 * all_pages bs) (length bs) h)

pub extra_fault-within : (bs : List ℕ) → extra_fault bs ≡ None → length bs ≤ 4096 * all_pages bs
extra_fault-within bs h = ltb-false (4096 * all_pages bs) (length bs) (false_at_none (ltb (4096 * all_pages bs) (length bs)) _ h)

-- a stream without a fault whose info page is whole
pub record IsSound (bs : List ℕ) : Type 0 where
  pub counts : counts_fault (image_pages bs) (all_pages bs) ≡ None
  pub are : AreCounts (image_pages bs) (all_pages bs)
  pub numbers : first_below (word_fault bs) (min (image_pages bs + 1) (words bs)) ≡ None
  pub within : length bs ≤ 4096 * all_pages bs

pub sound_from : (bs : List ℕ) → 4096 ≤ length bs → first_fault bs ≡ None → IsSound bs
sound_from bs h none =
    let outer = or_else-parts _ _ (sym (first_fault-late bs h) ∙ none) in
    let inner = or_else-parts _ _ outer.1 in
    record {
      counts = outer.0;
      are = counts_from (image_pages bs) (all_pages bs) (counts_none (image_pages bs) (all_pages bs) outer.0);
      numbers = inner.0;
      within = extra_fault-within bs inner.1;
    }

-- What comes after a sound stream.

pub counts_fault-append : (bs more : List ℕ) → 4096 ≤ length bs → counts_fault (image_pages (bs ++ more)) (all_pages (bs ++ more)) ≡ counts_fault (image_pages bs) (all_pages bs)
counts_fault-append bs more h = ap₂ counts_fault (image_pages-append bs more (omega arith)) (all_pages-append bs more (omega arith))

-- the numbers that were tested stay sound
pub numbers-append : (bs more : List ℕ) (k : ℕ) → k ≤ words bs → 4096 ≤ length bs → first_below (word_fault (bs ++ more)) k ≡ first_below (word_fault bs) k
numbers-append bs more k le h =
    first_below-same (word_fault (bs ++ more)) (word_fault bs) k (λ j lt. word_fault-append bs more j (omega arith))

pub first_fault-append : (bs more : List ℕ) → 4096 ≤ length bs → first_fault bs ≡ None →
    first_fault (bs ++ more) ≡ or_else (first_below (word_fault (bs ++ more)) (min (image_pages bs + 1) (words (bs ++ more)))) (extra_fault (bs ++ more))
first_fault-append bs more h none =
    let s = sound_from bs h none in
    let n = image_pages-append bs more (omega arith) in
    first_fault-late (bs ++ more) (omega (arith, length-append bs more))
    ∙ ap₂ or_else (counts_fault-append bs more h ∙ s.counts)
    (ap (λ m. or_else (first_below (word_fault (bs ++ more)) (min (m + 1) (words (bs ++ more)))) (extra_fault (bs ++ more))) n)

-- One byte more.

pub length-byte : (bs : List ℕ) (b : ℕ) → length (bs ++ b ∷ []) ≡ length bs + 1
length-byte bs b = length-append bs (b ∷ [])

-- the info page is whole with the next byte
pub first_fault-info : (bs : List ℕ) (b : ℕ) → length bs + 1 ≡ 4096 → first_fault (bs ++ b ∷ []) ≡ counts_fault (image_pages bs) (all_pages bs)
first_fault-info bs b whole =
    let bs' = bs ++ b ∷ [] in
    let size = length-byte bs b in
    let counts = ap₂ counts_fault (image_pages-append bs (b ∷ []) (omega arith)) (all_pages-append bs (b ∷ []) (omega arith)) in
    let no_word : min (image_pages bs' + 1) (words bs') ≡ 0 = omega arith in
    let numbers : first_below (word_fault bs') (min (image_pages bs' + 1) (words bs')) ≡ None = ap (first_below (word_fault bs')) no_word in
    first_fault-late bs' (omega arith)
    ∙ elim (cases_Bool (are_counts (image_pages bs') (all_pages bs'))) [
      | inl good ↦
          let are = counts_from (image_pages bs') (all_pages bs') good in
          ap (or_else (counts_fault (image_pages bs') (all_pages bs')))
          (ap₂ or_else numbers (extra_fault-none bs' (omega (arith, are.some, are.all))))
          ∙ or_else-nil (counts_fault (image_pages bs') (all_pages bs')) None refl ∙ counts
      | inr bad ↦
          let some = cond-false (are_counts (image_pages bs') (all_pages bs')) None (Some _) bad in
          ap (λ x. or_else x (or_else (first_below (word_fault bs') (min (image_pages bs' + 1) (words bs'))) (extra_fault bs'))) some
          ∙ sym some ∙ counts
    ]

-- as long as the words that are tested aren't over, no byte is one too many
within_numbers : (bs : List ℕ) (b : ℕ) → 4096 ≤ length bs → first_fault bs ≡ None → length bs < place (image_pages bs + 1) → extra_fault (bs ++ b ∷ []) ≡ None
within_numbers bs b h none early =
    let s = sound_from bs h none in
    extra_fault-none (bs ++ b ∷ []) (omega (arith, length-byte bs b, s.are.all, s.are.some, all_pages-append bs (b ∷ []) (omega arith)))

-- a byte that ends no word
pub first_fault-within : (bs : List ℕ) (b : ℕ) → 4096 ≤ length bs → first_fault bs ≡ None → length bs < place (image_pages bs + 1) → (length bs + 1) % 8 ≢ 0 → first_fault (bs ++ b ∷ []) ≡ None
first_fault-within bs b h none early part =
    let s = sound_from bs h none in
    let same : words (bs ++ b ∷ []) ≡ words bs = omega (arith, length-byte bs b) in
    first_fault-append bs (b ∷ []) h none
    ∙ ap₂ or_else (ap (λ k. first_below (word_fault (bs ++ b ∷ [])) (min (image_pages bs + 1) k)) same
    ∙ numbers-append bs (b ∷ []) (min (image_pages bs + 1) (words bs)) (omega arith) h ∙ s.numbers)
    (within_numbers bs b h none early)

-- a byte that ends a word
pub first_fault-word : (bs : List ℕ) (b : ℕ) → 4096 ≤ length bs → first_fault bs ≡ None → length bs < place (image_pages bs + 1) → (length bs + 1) % 8 ≡ 0 → first_fault (bs ++ b ∷ []) ≡ word_fault (bs ++ b ∷ []) (words bs)
first_fault-word bs b h none early whole =
    let s = sound_from bs h none in
    let bs' = bs ++ b ∷ [] in
    let one : min (image_pages bs + 1) (words bs') ≡ words bs + 1 = omega (arith, length-byte bs b) in
    let all : min (image_pages bs + 1) (words bs) ≡ words bs = omega arith in
    let before : first_below (word_fault bs') (words bs) ≡ None =
    numbers-append bs (b ∷ []) (words bs) (omega arith) h ∙ subst (λ (k : ℕ). first_below (word_fault bs) k ≡ None) all s.numbers in
    first_fault-append bs (b ∷ []) h none
    ∙ ap₂ or_else (ap (first_below (word_fault bs')) one ∙ first_below-suc (word_fault bs') (words bs) before) (within_numbers bs b h none early)
    ∙ or_else-nil (word_fault bs' (words bs)) None refl

-- Bytes after the words that are tested: only their count matters.
pub first_fault-rest : (bs more : List ℕ) → 4096 ≤ length bs → first_fault bs ≡ None → place (image_pages bs + 1) ≤ length bs → first_fault (bs ++ more) ≡ extra_fault (bs ++ more)
first_fault-rest bs more h none behind =
    let s = sound_from bs h none in
    let one : min (image_pages bs + 1) (words (bs ++ more)) ≡ image_pages bs + 1 = omega (arith, length-append bs more) in
    let all : min (image_pages bs + 1) (words bs) ≡ image_pages bs + 1 = omega arith in
    first_fault-append bs more h none
    ∙ ap (λ x. or_else x (extra_fault (bs ++ more)))
    (ap (first_below (word_fault (bs ++ more))) one ∙ numbers-append bs more (image_pages bs + 1) (omega arith) h
    ∙ subst (λ (k : ℕ). first_below (word_fault bs) k ≡ None) all s.numbers)

-- The first fault stays the first.

pub or_else-some : {A : Type 0} (a b : Option A) (x : A) → or_else a b ≡ Some x → (a ≡ Some x) ⊎ ((a ≡ None) × (b ≡ Some x))
or_else-some None b x h = inr (refl, h)
or_else-some (Some y) b x h = inl h

pub first_below-found : {A : Type 0} (f : ℕ → Option A) (j n : ℕ) (x : A) → j ≤ n → first_below f j ≡ Some x → first_below f n ≡ Some x
first_below-found f j zero x le found = subst (λ (k : ℕ). first_below f k ≡ Some x) (let e : j ≡ 0 = omega arith in e) found
first_below-found f j (suc n) x le found = elim (cases_lt n j) [
  | inl lt ↦ subst (λ (k : ℕ). first_below f k ≡ Some x) (let e : j ≡ suc n = omega arith in e) found
  | inr ge ↦ ap (λ y. or_else y (f n)) (first_below-found f j n x ge found)
]

pub true_at_some : {A : Type 0} (b : Bool) (x y : A) → cond b (Some x) None ≡ Some y → b ≡ true
true_at_some true x y h = refl
true_at_some false x y h = cc

extra_stays : (bs more : List ℕ) (x : StreamFault) → 4096 ≤ length bs → extra_fault bs ≡ Some x → extra_fault (bs ++ more) ≡ Some x
extra_stays bs more x h found =
    let beyond = ltb-true (4096 * all_pages bs) (length bs) (true_at_some (ltb (4096 * all_pages bs) (length bs)) _ x found) in
    let pages = all_pages-append bs more (omega arith) in
    let bs' = bs ++ more in
    cond-true (ltb (4096 * all_pages bs') (length bs')) (Some (fault Extra (4096 * all_pages bs'))) None
    (lt-ltb (4096 * all_pages bs') (length bs') (omega (arith, length-append bs more)))
    ∙ ap (λ n. Some (fault Extra (4096 * n))) pages
    ∙ sym (cond-true (ltb (4096 * all_pages bs) (length bs)) (Some (fault Extra (4096 * all_pages bs))) None (lt-ltb (4096 * all_pages bs) (length bs) beyond))
    ∙ found

behind_counts : (bs more : List ℕ) (x : StreamFault) → 4096 ≤ length bs → counts_fault (image_pages bs) (all_pages bs) ≡ None →
    or_else (first_below (word_fault bs) (min (image_pages bs + 1) (words bs))) (extra_fault bs) ≡ Some x →
    or_else (first_below (word_fault (bs ++ more)) (min (image_pages bs + 1) (words (bs ++ more)))) (extra_fault (bs ++ more)) ≡ Some x
behind_counts bs more x h sound found =
    let f = word_fault (bs ++ more) in
    let k = min (image_pages bs + 1) (words bs) in
    let m = min (image_pages bs + 1) (words (bs ++ more)) in
    let same = numbers-append bs more k (omega arith) h in
    elim (or_else-some (first_below (word_fault bs) k) (extra_fault bs) x found) [
      | inl early ↦ ap (λ y. or_else y (extra_fault (bs ++ more))) (first_below-found f k m x (omega (arith, length-append bs more)) (same ∙ early))
      | inr late ↦
          let are = counts_from (image_pages bs) (all_pages bs) (counts_none (image_pages bs) (all_pages bs) sound) in
          let beyond = ltb-true (4096 * all_pages bs) (length bs) (true_at_some (ltb (4096 * all_pages bs) (length bs)) _ x late.1) in
          let all : k ≡ m = omega (arith, length-append bs more, are.all, are.some) in
          ap₂ or_else (subst (λ (i : ℕ). first_below f i ≡ None) all (same ∙ late.0)) (extra_stays bs more x h late.1)
    ]

pub first_fault-stays : (bs more : List ℕ) (x : StreamFault) → first_fault bs ≡ Some x → first_fault (bs ++ more) ≡ Some x
first_fault-stays bs more x found = elim (cases_lt (length bs) 4096) [
  | inl lt ↦ let none = first_fault-early bs lt in cc
  | inr h ↦
      let n = image_pages-append bs more (omega arith) in
      let counts = counts_fault-append bs more h in
      first_fault-late (bs ++ more) (omega (arith, length-append bs more))
      ∙ elim (or_else-some (counts_fault (image_pages bs) (all_pages bs)) _ x (sym (first_fault-late bs h) ∙ found)) [
        | inl early ↦
            ap (λ y. or_else y (or_else (first_below (word_fault (bs ++ more)) (min (image_pages (bs ++ more) + 1) (words (bs ++ more)))) (extra_fault (bs ++ more)))) (counts ∙ early)
        | inr late ↦
            ap₂ or_else (counts ∙ late.0)
            (ap (λ i. or_else (first_below (word_fault (bs ++ more)) (min (i + 1) (words (bs ++ more)))) (extra_fault (bs ++ more))) n
            ∙ behind_counts bs more x h late.0 late.1)
      ]
]
