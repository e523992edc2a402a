-- One bit of a word, and of a block.
use Rattle.std.proofs.Common.{◌≡◌, ℕ, ◌*◌, ◌/◌, ◌%◌, ◌^◌, ◌<◌, ◌↔◌, ◌⊎◌, IsTrue, not, eqb, List, length, get_or, set, refl, sym, ap, ◌∙◌, inl, inr, arith, bit_and}
use Rattle.std.proofs.lemmas.Bool.{cases_eq, eq-eqb, ne_eqb, eqb-true, eqb-false, not-true, not_from_false}
use Rattle.std.proofs.lemmas.List.{get_or-set_same, get_or-set_other}
use Rattle.std.proofs.lemmas.Nat.Bits.{and_pow, bit_at-lt}
use Rattle.std.proofs.lemmas.Grind.{one_shifted, get_or-set_at}
use Rattle.std.specs.Int.{bit_at}
use Rattle.definitions.specs.FrameSets.{IsBlockBitSet}
use Rattle.frame_sets.specs.Bits.{bit_of, ChangesBit}

-- 1 << k as the code computes it
abbrev pub mask : ℕ → ℕ
mask k = 1 * 2 ^ k % 18446744073709551616

pub mask_is : (k : ℕ) → k < 64 → (mask k ≡ 2 ^ k) × (0 < 2 ^ k)
mask_is k h = one_shifted k 18446744073709551615 refl h

pub and_mask : (n k : ℕ) → k < 64 → bit_and n (mask k) ≡ bit_at n k * 2 ^ k
and_mask n k h = ap (bit_and n) (mask_is k h).0 ∙ and_pow n k

bit_cases : (n k : ℕ) → (bit_at n k ≡ 0) ⊎ (bit_at n k ≡ 1)
bit_cases n k = let two = bit_at-lt n k in elim (cases_eq (bit_at n k) 0) [ inl e ↦ inl e | inr ne ↦ inr (omega arith) ]

masked_zero : (n k : ℕ) → k < 64 → bit_at n k ≡ 0 → bit_and n (mask k) ≡ 0
masked_zero n k h e = let product = ap (λ b. b * 2 ^ k) e in let is = and_mask n k h in omega arith

masked_one : (n k : ℕ) → k < 64 → bit_at n k ≡ 1 → bit_and n (mask k) ≡ 0 → ⊥
masked_one n k h e zero_is =
    let product = ap (λ b. b * 2 ^ k) e in let is = and_mask n k h in let some = (mask_is k h).1 in omega arith

-- the tests n & (1 << k) == 0 and n & (1 << k) != 0
pub is_clear : (n k : ℕ) → k < 64 → IsTrue (eqb (bit_and n (mask k)) 0) ↔ (bit_at n k ≡ 0)
is_clear n k h = (
  λ test. elim (bit_cases n k) [ inl e ↦ e | inr e ↦ absurd (masked_one n k h e (eqb-true (bit_and n (mask k)) 0 test)) ],
  λ e. eq-eqb (bit_and n (mask k)) 0 (masked_zero n k h e),
)

pub is_set : (n k : ℕ) → k < 64 → IsTrue (not (eqb (bit_and n (mask k)) 0)) ↔ (bit_at n k ≡ 1)
is_set n k h = (
  λ test. elim (bit_cases n k) [
    | inl e ↦ absurd (eqb-false (bit_and n (mask k)) 0 (not-true (eqb (bit_and n (mask k)) 0) test) (masked_zero n k h e))
    | inr e ↦ e
  ],
  λ e. not_from_false (eqb (bit_and n (mask k)) 0) (ne_eqb (bit_and n (mask k)) 0 (masked_one n k h e)),
)

-- a bit of a block by the word of clauses
pub is_bit : (words : List ℕ) (k : ℕ) → IsBlockBitSet words k ↔ (bit_of words k ≡ 1)
is_bit words k =
    let word = get_or words (k / 64) 0 in
    let product = and_pow word (k % 64) in
    let power = (mask_is (k % 64) (omega arith)).1 in (
      λ set. elim (bit_cases word (k % 64)) [
        | inl e ↦ absurd (set (product ∙ ap (λ b. b * 2 ^ (k % 64)) e ∙ omega arith))
        | inr e ↦ e
      ],
      λ one none. let times = ap (λ b. b * 2 ^ (k % 64)) one in omega arith,
    )

-- a word put into a block changes one bit of the block where it differs from the old word in that bit
pub changes_bit : (words : List ℕ) (k word v : ℕ) → k / 64 < length words → bit_at word (k % 64) ≡ v → ((i : ℕ) → i < 64 → (i ≡ k % 64 → ⊥) → bit_at word i ≡ bit_at (get_or words (k / 64) 0) i) → ChangesBit k v words (set words (k / 64) word)
changes_bit words k word v l this others = record {
  this = ap (λ w. bit_at w (k % 64)) (get_or-set_same words (k / 64) word 0 l) ∙ this;
  others = λ i ne. elim (cases_eq (i / 64) (k / 64)) [
    | inl e ↦
        ap (λ w. bit_at w (i % 64)) (get_or-set_at words (k / 64) (i / 64) word 0 e l)
        ∙ others (i % 64) (omega arith) (λ same. ne (omega arith))
        ∙ ap (λ j. bit_at (get_or words j 0) (i % 64)) (sym e)
    | inr apart ↦ ap (λ w. bit_at w (i % 64)) (get_or-set_other words (k / 64) (i / 64) word 0 apart)
  ];
}
