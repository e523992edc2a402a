-- The first fault is one of the faults, and none lies before it.
use Rattle.std.proofs.Common.{◌≡◌, ℕ, ◌+◌, ◌*◌, ◌%◌, ◌<◌, ◌≤◌, ◌⊎◌, zero, suc, Bool, true, false, cond, eqb, ltb, leb, ◌||◌, List, length, min, Option, Some, None, IsTrue, refl, sym, ap, ◌∙◌, subst, inl, inr, arith}
use Rattle.std.proofs.lemmas.Bool.{cases_lt, cond-true, cond-false, lt-ltb, le-ltb, le-leb, lt-leb, ltb-true, eqb-false, ne_eqb, or_from, or_parts, both_ways}
use Rattle.definitions.specs.NumberPages.{end_value}
use Rattle.stream_in.specs.declared.checking.fault.StreamFault.{StreamFault}
use Rattle.stream_in.specs.declared.checking.fault.Kind.{Kind}
use Rattle.stream_in.specs.declared.checking.fault.Kind.TheVariants.{Counts, Pfn, Order, End, Extra, Short}
use Rattle.stream_in.specs.Grammar.{image_pages, all_pages, place, number, words, fault, are_counts, counts_fault, least_number, kind_of_word, kind_of_number, kind_of_end, fault_at, word_fault, extra_fault, first_below, first_fault}
use Rattle.stream_in.specs.Faults.{HasCounts, HasWord, HasFault, IsFirst, HasNoFault, StaysFirst}
use Rattle.stream_in.proofs.Steps.{sound_from, counts_from, counts_none, first_fault-early, first_fault-late, first_fault-stays, or_else-some, or_else-parts, true_at_some}

-- the place of the first result
pub record IsPlace {A : Type 0} (f : ℕ → Option A) (n : ℕ) (x : A) (j : ℕ) : Type 0 where
  pub within : j < n
  pub there : f j ≡ Some x
  pub before : (i : ℕ) → i < j → f i ≡ None

below_none : {A : Type 0} (f : ℕ → Option A) (n : ℕ) → first_below f n ≡ None → (i : ℕ) → i < n → f i ≡ None
below_none f zero h i lt = absurd (omega arith)
below_none f (suc n) h i lt =
    let parts = or_else-parts (first_below f n) (f n) h in
    elim (cases_lt i n) [
      | inl below ↦ below_none f n parts.0 i below
      | inr ge ↦ subst (λ (k : ℕ). f k ≡ None) (let e : n ≡ i = omega arith in e) parts.1
    ]

first_place : {A : Type 0} (f : ℕ → Option A) (n : ℕ) (x : A) → first_below f n ≡ Some x → (j : ℕ) × IsPlace f n x j
first_place f zero x h = cc
first_place f (suc n) x h = elim (or_else-some (first_below f n) (f n) x h) [
  | inl early ↦
      let p = first_place f n x early in
      (p.0, record { within = omega (arith, p.1.within); there = p.1.there; before = p.1.before })
  | inr late ↦ (n, record { within = omega arith; there = late.1; before = below_none f n late.0 })
]

some_same : {A : Type 0} (x y : A) → Some x ≡ Some y → x ≡ y
some_same x y h = cc

false_at_some : {A : Type 0} (b : Bool) (x y : A) → cond b None (Some x) ≡ Some y → b ≡ false
false_at_some true x y h = cc
false_at_some false x y h = refl

-- The faults of words.

-- word j is at fault, with this kind
kind_at : (at : ℕ) (k : Option Kind) (x : StreamFault) → fault_at at k ≡ Some x → (kind : Kind) × (k ≡ Some kind) × (x ≡ fault kind at)
kind_at at None x h = cc
kind_at at (Some kind) x h = (kind, refl, cc)

order_faulty : (bs : List ℕ) (j : ℕ) → HasCounts bs → HasWord bs j → j < image_pages bs → number bs j < 65536 → number bs j < least_number bs j → HasFault bs Order (place j)
order_faulty bs zero counts whole lt small below = absurd (omega arith)
order_faulty bs (suc i) counts whole lt small below = (counts, (i, refl, whole, lt, small, omega arith))

-- a number at fault
number_faulty : (bs : List ℕ) (j : ℕ) (kind : Kind) → HasCounts bs → HasWord bs j → j < image_pages bs → kind_of_number (least_number bs j) (number bs j) ≡ Some kind → HasFault bs kind (place j)
number_faulty bs j kind counts whole lt h = elim (cases_lt (number bs j) 65536) [
  | inr ge ↦
      let e : Pfn ≡ kind = some_same Pfn kind (sym (cond-true (leb 65536 (number bs j)) (Some Pfn) _ (le-leb 65536 (number bs j) ge)) ∙ h) in
      subst (λ (k : Kind). HasFault bs k (place j)) e (counts, (j, refl, whole, lt, ge))
  | inl small ↦
      let later : cond (ltb (number bs j) (least_number bs j)) (Some Order) None ≡ Some kind =
      sym (cond-false (leb 65536 (number bs j)) (Some Pfn) (cond (ltb (number bs j) (least_number bs j)) (Some Order) None) (lt-leb 65536 (number bs j) small)) ∙ h in
      let e : Order ≡ kind = some_same Order kind (sym (cond-true (ltb (number bs j) (least_number bs j)) (Some Order) None (true_at_some (ltb (number bs j) (least_number bs j)) Order kind later)) ∙ later) in
      subst (λ (k : Kind). HasFault bs k (place j)) e
      (order_faulty bs j counts whole lt small (ltb-true (number bs j) (least_number bs j) (true_at_some (ltb (number bs j) (least_number bs j)) Order kind later)))
]

-- the word after the last number at fault
end_faulty : (bs : List ℕ) (kind : Kind) → HasCounts bs → HasWord bs (image_pages bs) → kind_of_end (image_pages bs) (number bs (image_pages bs)) ≡ Some kind → HasFault bs kind (place (image_pages bs))
end_faulty bs kind counts whole h =
    let full = eqb (image_pages bs % 512) 0 in
    let ended = eqb (number bs (image_pages bs)) end_value in
    let wrong = false_at_some (full || ended) End kind h in
    let parts = or_parts full ended wrong in
    let e : End ≡ kind = some_same End kind (sym (cond-false (full || ended) None (Some End) wrong) ∙ h) in
    subst (λ (k : Kind). HasFault bs k (place (image_pages bs))) e
    (counts, refl, whole, eqb-false (image_pages bs % 512) 0 parts.0, eqb-false (number bs (image_pages bs)) end_value parts.1)

word_faulty : (bs : List ℕ) (j : ℕ) (x : StreamFault) → HasCounts bs → HasWord bs j → j < image_pages bs + 1 → word_fault bs j ≡ Some x → HasFault bs x.kind x.at
word_faulty bs j x counts whole lt h =
    let p = kind_at (place j) (kind_of_word (image_pages bs) j (least_number bs j) (number bs j)) x h in
    let P : StreamFault → Type 0 = λ f. HasFault bs f.kind f.at in
    subst P (sym p.2) (elim (cases_lt j (image_pages bs)) [
      | inl below ↦
          number_faulty bs j p.0 counts whole below
          (sym (cond-true (ltb j (image_pages bs)) (kind_of_number (least_number bs j) (number bs j)) (kind_of_end (image_pages bs) (number bs j)) (lt-ltb j (image_pages bs) below)) ∙ p.1)
      | inr ge ↦
          let e : image_pages bs ≡ j = omega arith in
          let Q : ℕ → Type 0 = λ k. HasFault bs p.0 (place k) in
          subst Q e (end_faulty bs p.0 counts (subst (HasWord bs) (sym e) whole)
          (ap (λ k. kind_of_end (image_pages bs) (number bs k)) e
          ∙ sym (cond-false (ltb j (image_pages bs)) (kind_of_number (least_number bs j) (number bs j)) (kind_of_end (image_pages bs) (number bs j)) (le-ltb j (image_pages bs) ge)) ∙ p.1))
    ])

-- And the other way round: a fault is one of a word that was tested, or a byte too many.
abbrev IsLate : List ℕ → ℕ → Type 0
IsLate bs at =
    ((j : ℕ) × (at ≡ place j) × (j < min (image_pages bs + 1) (words bs)) × (word_fault bs j ≡ None → ⊥)) ⊎ ((at ≡ 4096 * all_pages bs) × (at < length bs))

some_none : {A : Type 0} (o : Option A) (x : A) → o ≡ Some x → o ≡ None → ⊥
some_none o x is none = cc

found : (bs : List ℕ) (j : ℕ) (kind : Kind) → kind_of_word (image_pages bs) j (least_number bs j) (number bs j) ≡ Some kind → word_fault bs j ≡ None → ⊥
found bs j kind h = some_none (word_fault bs j) (fault kind (place j)) (ap (fault_at (place j)) h)

late : (bs : List ℕ) (kind : Kind) (at : ℕ) → HasCounts bs → HasFault bs kind at → IsLate bs at
late bs Counts at counts h = absurd (h.2 counts.counts)
late bs Pfn at counts (has, (j, e, whole, lt, big)) =
    let v = number bs j in
    inl (
      j,
      e,
      omega arith,
      found bs j Pfn
          (cond-true (ltb j (image_pages bs)) (kind_of_number (least_number bs j) v) (kind_of_end (image_pages bs) v) (lt-ltb j (image_pages bs) lt)
          ∙ cond-true (leb 65536 v) (Some Pfn) (cond (ltb v (least_number bs j)) (Some Order) None) (le-leb 65536 v big)),
    )
late bs Order at counts (has, (i, e, whole, lt, small, below)) =
    let j = suc i in
    let v = number bs j in
    inl (
      j,
      e,
      omega arith,
      found bs j Order
          (cond-true (ltb j (image_pages bs)) (kind_of_number (least_number bs j) v) (kind_of_end (image_pages bs) v) (lt-ltb j (image_pages bs) lt)
          ∙ cond-false (leb 65536 v) (Some Pfn) (cond (ltb v (least_number bs j)) (Some Order) None) (lt-leb 65536 v small)
          ∙ cond-true (ltb v (least_number bs j)) (Some Order) None (lt-ltb v (least_number bs j) (omega arith))),
    )
late bs End at counts (has, e, whole, part, other) =
    let n = image_pages bs in
    let v = number bs n in
    inl (
      n,
      e,
      omega arith,
      found bs n End
          (cond-false (ltb n n) (kind_of_number (least_number bs n) v) (kind_of_end n v) (le-ltb n n (omega arith))
          ∙ cond-false (eqb (n % 512) 0 || eqb v end_value) None (Some End) (or_from (eqb (n % 512) 0) (eqb v end_value) (ne_eqb (n % 512) 0 part) (ne_eqb v end_value other))),
    )
late bs Extra at counts (has, e, lt) = inr (e, lt)
late bs Short at counts h = absurd h

-- a fault says that the info page is whole
info_whole : (bs : List ℕ) (kind : Kind) (at : ℕ) → HasFault bs kind at → 4096 ≤ length bs
info_whole bs Counts at h = h.1
info_whole bs Pfn at h = h.0.info
info_whole bs Order at h = h.0.info
info_whole bs End at h = h.0.info
info_whole bs Extra at h = h.0.info
info_whole bs Short at h = absurd h

-- where the counts are at fault, each fault is that
only_counts : (bs : List ℕ) (kind : Kind) (at : ℕ) → (IsTrue (are_counts (image_pages bs) (all_pages bs)) → ⊥) → HasFault bs kind at → 416 ≤ at
only_counts bs Counts at wrong h = omega (arith, h.0)
only_counts bs Pfn at wrong h = absurd (wrong h.0.counts)
only_counts bs Order at wrong h = absurd (wrong h.0.counts)
only_counts bs End at wrong h = absurd (wrong h.0.counts)
only_counts bs Extra at wrong h = absurd (wrong h.0.counts)
only_counts bs Short at wrong h = absurd h

-- The first fault.

counts_first : (bs : List ℕ) (x : StreamFault) → 4096 ≤ length bs → counts_fault (image_pages bs) (all_pages bs) ≡ Some x → IsFirst bs x
counts_first bs x h found =
    let b = are_counts (image_pages bs) (all_pages bs) in
    let wrong = false_at_some b (fault Counts 416) x found in
    let e : fault Counts 416 ≡ x = some_same (fault Counts 416) x (sym (cond-false b None (Some (fault Counts 416)) wrong) ∙ found) in
    let bad : IsTrue b → ⊥ = λ good. both_ways b wrong good in
    subst (IsFirst bs) e (record { there = (refl, h, bad); least = λ kind at other. only_counts bs kind at bad other })

words_first : (bs : List ℕ) (x : StreamFault) → HasCounts bs → first_below (word_fault bs) (min (image_pages bs + 1) (words bs)) ≡ Some x → IsFirst bs x
words_first bs x counts found =
    let p = first_place (word_fault bs) (min (image_pages bs + 1) (words bs)) x found in
    let j = p.0 in
    let k = kind_at (place j) (kind_of_word (image_pages bs) j (least_number bs j) (number bs j)) x p.1.there in
    let at : x.at ≡ place j = ap (λ f. f.at) k.2 in
    let are = counts_from (image_pages bs) (all_pages bs) counts.counts in
    record {
      there = word_faulty bs j x counts (omega (arith, p.1.within)) (omega (arith, p.1.within)) p.1.there;
      least = λ kind other_at other. elim (late bs kind other_at counts other) [
        | inl (i, e, lt, bad) ↦ elim (cases_lt i j) [
          | inl before ↦ absurd (bad (p.1.before i before))
          | inr ge ↦ omega arith
        ]
        | inr (e, lt) ↦ omega (arith, p.1.within, are.all, are.some)
      ];
    }

extra_first : (bs : List ℕ) (x : StreamFault) → HasCounts bs → first_below (word_fault bs) (min (image_pages bs + 1) (words bs)) ≡ None → extra_fault bs ≡ Some x → IsFirst bs x
extra_first bs x counts none found =
    let b = ltb (4096 * all_pages bs) (length bs) in
    let beyond = true_at_some b (fault Extra (4096 * all_pages bs)) x found in
    let e : fault Extra (4096 * all_pages bs) ≡ x = some_same (fault Extra (4096 * all_pages bs)) x (sym (cond-true b (Some (fault Extra (4096 * all_pages bs))) None beyond) ∙ found) in
    subst (IsFirst bs) e (record {
      there = (counts, refl, ltb-true (4096 * all_pages bs) (length bs) beyond);
      least = λ kind at other. elim (late bs kind at counts other) [
        | inl (i, e, lt, bad) ↦ absurd (bad (below_none (word_fault bs) (min (image_pages bs + 1) (words bs)) none i lt))
        | inr (e, lt) ↦ omega arith
      ];
    })

pub is_first : (bs : List ℕ) (x : StreamFault) → first_fault bs ≡ Some x → IsFirst bs x
is_first bs x found = elim (cases_lt (length bs) 4096) [
  | inl lt ↦ absurd (some_none (first_fault bs) x found (first_fault-early bs lt))
  | inr h ↦ elim (or_else-some (counts_fault (image_pages bs) (all_pages bs)) _ x (sym (first_fault-late bs h) ∙ found)) [
    | inl early ↦ counts_first bs x h early
    | inr rest ↦
        let counts : HasCounts bs = record { info = h; counts = counts_none (image_pages bs) (all_pages bs) rest.0 } in
        elim (or_else-some (first_below (word_fault bs) (min (image_pages bs + 1) (words bs))) (extra_fault bs) x rest.1) [
          | inl word ↦ words_first bs x counts word
          | inr extra ↦ extra_first bs x counts extra.0 extra.1
        ]
  ]
]

pub has_no_fault : (bs : List ℕ) → first_fault bs ≡ None → HasNoFault bs
has_no_fault bs none kind at h =
    let info = info_whole bs kind at h in
    let s = sound_from bs info none in
    let counts : HasCounts bs = record { info = info; counts = counts_none (image_pages bs) (all_pages bs) s.counts } in
    elim (late bs kind at counts h) [
      | inl (i, e, lt, bad) ↦ bad (below_none (word_fault bs) (min (image_pages bs + 1) (words bs)) s.numbers i lt)
      | inr (e, lt) ↦ omega (arith, s.within)
    ]

-- the first fault stays the first, whatever bytes come after
pub stays_first : (bs : List ℕ) → StaysFirst bs
stays_first bs fault more found = first_fault-stays bs more fault found
