-- Laws of the bits of a 64-bit word that are 1.
use Rattle.std.proofs.Common.{◌≡◌, ℕ, ◌+◌, ◌-◌, ◌*◌, ◌/◌, ◌%◌, ◌^◌, ◌<◌, ◌≤◌, zero, suc, List, [], ◌∷◌, ◌++◌, length, filter, eqb, sym, ap, Bool, ◌∙◌, inl, inr, arith, w64, count_ones, length-append, cond}
use Rattle.std.proofs.Math.Nat.{pow-suc}
use Rattle.std.proofs.lemmas.Bool.{cases_lt, cases_eq, cond-true, cond-false, eq-eqb, ne_eqb}
use Rattle.std.proofs.lemmas.Nat.{leading_top, ones-le, ones_cat, zero_from_ones, ones_le_self, mod-pow-add, pow_pos, le-div, div_below, mod_below}
use Rattle.std.proofs.lemmas.Nat.Bits.{bit_at-trailing_zeros, bit_at_above, bit_at-lt}
use Rattle.std.specs.Int.{bit_at}
use Rattle.std.specs.List.{range_with_len}
use Rattle.definitions.proofs.ZoneLists.{filter-range_more}
use Rattle.frame_sets.specs.Places.{IsSpan}
use lib.Count.{count_leading_zeros, count_trailing_zeros}

-- the places of the bits that are 1
abbrev pub bits_of : ℕ → ℕ → List ℕ
bits_of word k = filter (λ t. eqb (bit_at word t) 1) (range_with_len 0 k)

one_bit : (b t : ℕ) → b < 2 → count_ones b ≡ length (cond (eqb b 1) (t ∷ []) [])
one_bit b t lt = elim (cases_eq b 1) [
  | inl e ↦
      let few = ones_le_self b in
      let some : count_ones b ≡ 0 → ⊥ = λ none. let z = zero_from_ones b none in omega arith in
      (let one : count_ones b ≡ 1 = elim (cases_eq (count_ones b) 0) [ inl none ↦ absurd (some none) | inr ne ↦ omega arith ] in one)
      ∙ sym (ap length (cond-true (eqb b 1) (t ∷ []) [] (eq-eqb b 1 e)))
  | inr ne ↦
      let few = ones_le_self b in
      (let none : count_ones b ≡ 0 = omega arith in none)
      ∙ sym (ap length (cond-false (eqb b 1) (t ∷ []) [] (ne_eqb b 1 ne)))
]

-- the number of 1s among the low k bits of a number
ones_of_low : (n k : ℕ) → count_ones (n % 2 ^ k) ≡ length (bits_of n k)
ones_of_low n zero = let le = ones-le 0 (n % 2 ^ 0) (mod_below n (2 ^ 0) (pow_pos 0)) in omega arith
ones_of_low n (suc k) =
    let test : ℕ → Bool = λ t. eqb (bit_at n t) 1 in
    let high = bit_at n k in
    let low = n % 2 ^ k in
    let next : suc k ≡ 1 + k = omega arith in
    let one_more : suc k ≡ k + 1 = omega arith in
    let at : 0 + k ≡ k = omega arith in
    let split : n % 2 ^ suc k ≡ high * 2 ^ k + low = ap (λ (j : ℕ). n % 2 ^ j) next ∙ mod-pow-add n 1 k in
    let more : bits_of n (suc k) ≡ bits_of n k ++ cond (test k) (k ∷ []) [] =
    ap (bits_of n) one_more ∙ filter-range_more test 0 k ∙ ap (λ (t : ℕ). bits_of n k ++ cond (test t) (t ∷ []) []) at in
    let top : count_ones high ≡ length (cond (test k) (k ∷ []) []) = one_bit high k (bit_at-lt n k) in
    let sum = length-append (bits_of n k) (cond (test k) (k ∷ []) []) in
    let rest = ones_of_low n k in
    ap count_ones split ∙ ones_cat k high low (mod_below n (2 ^ k) (pow_pos k)) ∙ (let total : count_ones high + count_ones low ≡ length (bits_of n k ++ cond (test k) (k ∷ []) []) = omega arith in total)
    ∙ sym (ap length more)

pub ones_are : (word : ℕ) → word < 2 ^ 64 → count_ones word ≡ length (bits_of word 64)
ones_are word fits = let same : word % 2 ^ 64 ≡ word = omega arith in ap count_ones (sym same) ∙ ones_of_low word 64

top_bit : (n j : ℕ) → 2 ^ j ≤ n → n < 2 ^ suc j → bit_at n j ≡ 1
top_bit n j le lt =
    let pos = pow_pos j in
    let twice : 2 ^ suc j ≡ 2 ^ j * 2 = pow-suc 2 j in
    let low : 1 ≤ n / 2 ^ j = le-div 1 n (2 ^ j) pos (omega arith) in
    let high : n / 2 ^ j < 2 = div_below n (2 ^ j) 2 pos (omega arith) in
    let one : n / 2 ^ j ≡ 1 = omega arith in
    ap (λ (q : ℕ). q % 2) one

pub record HasTop (word j : ℕ) : Type 0 where
  pub size : count_leading_zeros 64 word + suc j ≡ 64
  pub set : bit_at word j ≡ 1
  pub above : (t : ℕ) → suc j ≤ t → bit_at word t ≡ 0

has_top : (word : ℕ) → 0 < word → word < 2 ^ 64 → (j : ℕ) × HasTop word j
has_top word some fits =
    let top = leading_top 64 word some fits in
    (top.0, record { size = top.1; set = top_bit word top.0 top.2 top.3; above = λ t le. bit_at_above word (suc top.0) t top.3 le })

pub span_of : (word : ℕ) → 0 < word → word < 2 ^ 64 → (count_trailing_zeros 64 word ≤ 64 - count_leading_zeros 64 word) × IsSpan word (count_trailing_zeros 64 word) (64 - count_leading_zeros 64 word - count_trailing_zeros 64 word)
span_of word some fits =
    let low = bit_at-trailing_zeros w64 word some fits in
    let t = count_trailing_zeros 64 word in
    let found = has_top word some fits in
    let j = found.0 in
    let size = found.1.size in
    let first = low.1 in
    let within : t ≤ j = elim (cases_lt j t) [ inl lt ↦ absurd (let none = found.1.above t (omega arith) in omega arith) | inr ge ↦ ge ] in (
      omega arith,
      record {
        some = omega arith;
        within = omega arith;
        first = first;
        last = let at : t + (64 - count_leading_zeros 64 word - t) - 1 ≡ j = omega arith in ap (bit_at word) at ∙ found.1.set;
        below = low.2;
        above = λ i le. found.1.above i (omega arith);
      },
    )
