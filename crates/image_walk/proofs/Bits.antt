-- One bit of a word, and of a set of blocks.
use Rattle.std.proofs.Common.{◌≡◌, ℕ, ◌*◌, ◌/◌, ◌%◌, ◌^◌, ◌<◌, ◌⊎◌, not, eqb, ◌||◌, List, length, get_or, set, refl, sym, ap, ◌∙◌, inl, inr, arith, bit_and, bit_or, w64}
use Rattle.std.proofs.lemmas.Bool.{cases_eq, eq-eqb, ne_eqb}
use Rattle.std.proofs.lemmas.List.{get_or-set_same, get_or-set_other}
use Rattle.std.proofs.lemmas.Nat.Bits.{and_pow, bit_at-lt, bit_at_set_same, bit_at_set_other}
use Rattle.std.proofs.lemmas.Grind.{one_shifted, get_or-set_at}
use Rattle.std.specs.Int.{bit_at}
use Rattle.image_walk.specs.BlockSets.{has_block, AddsBlock}

-- 1 << k as the code computes it
abbrev pub mask : ℕ → ℕ
mask k = 1 * 2 ^ k % 18446744073709551616

mask_is : (k : ℕ) → k < 64 → (mask k ≡ 2 ^ k) × (0 < 2 ^ k)
mask_is k h = one_shifted k 18446744073709551615 refl h

and_mask : (n k : ℕ) → k < 64 → bit_and n (mask k) ≡ bit_at n k * 2 ^ k
and_mask n k h = ap (bit_and n) (mask_is k h).0 ∙ and_pow n k

bit_cases : (n k : ℕ) → (bit_at n k ≡ 0) ⊎ (bit_at n k ≡ 1)
bit_cases n k = let two = bit_at-lt n k in elim (cases_eq (bit_at n k) 0) [ inl e ↦ inl e | inr ne ↦ inr (omega arith) ]

-- the test n & (1 << k) != 0
pub is_set : (n k : ℕ) → k < 64 → not (eqb (bit_and n (mask k)) 0) ≡ eqb (bit_at n k) 1
is_set n k h =
    let is = and_mask n k h in
    let some = (mask_is k h).1 in
    elim (bit_cases n k) [
      | inl e ↦
          let product = ap (λ b. b * 2 ^ k) e in
          let zero_is : bit_and n (mask k) ≡ 0 = omega arith in
          ap not (eq-eqb (bit_and n (mask k)) 0 zero_is) ∙ sym (ne_eqb (bit_at n k) 1 (λ q. omega arith))
      | inr e ↦
          let product = ap (λ b. b * 2 ^ k) e in
          ap not (ne_eqb (bit_and n (mask k)) 0 (λ q. omega arith)) ∙ sym (eq-eqb (bit_at n k) 1 e)
    ]

-- a word with one more bit adds that block
pub adds_block : (words : List ℕ) (k word : ℕ) → k / 64 < length words → word ≡ bit_or (get_or words (k / 64) 0) (mask (k % 64)) → AddsBlock k words (set words (k / 64) word)
adds_block words k word l is b =
    let old = get_or words (k / 64) 0 in
    let within : k % 64 < 64 = omega arith in
    elim (cases_eq b k) [
      | inl e ↦
          ap (λ j. has_block (set words (k / 64) word) j) e
          ∙ ap (λ w. eqb (bit_at w (k % 64)) 1) (get_or-set_same words (k / 64) word 0 l ∙ is)
          ∙ eq-eqb (bit_at (bit_or old (mask (k % 64))) (k % 64)) 1 (bit_at_set_same w64 old (k % 64) within)
          ∙ sym (ap (λ t. t || has_block words b) (eq-eqb b k e))
      | inr ne ↦
          elim (cases_eq (b / 64) (k / 64)) [
            | inl e ↦
                ap (λ w. eqb (bit_at w (b % 64)) 1) (get_or-set_at words (k / 64) (b / 64) word 0 e l ∙ is)
                ∙ ap (λ x. eqb x 1) (bit_at_set_other w64 old (k % 64) within (b % 64) (λ same. ne (omega arith)))
                ∙ ap (λ j. eqb (bit_at (get_or words j 0) (b % 64)) 1) (sym e)
            | inr apart ↦ ap (λ w. eqb (bit_at w (b % 64)) 1) (get_or-set_other words (k / 64) (b / 64) word 0 apart)
          ]
          ∙ sym (ap (λ t. t || has_block words b) (ne_eqb b k ne))
    ]
