-- Eight bits at once: adding a number before them is adding what they make of it after them.
use Rattle.std.proofs.Common.{◌≡◌, ℕ, zero, suc, ◌+◌, ◌*◌, ◌/◌, ◌%◌, ◌^◌, ◌<◌, ◌==◌, if◌then◌else◌, bit_and, bit_xor, List, map, get_or, pow-suc, refl, ap, sym, ◌∙◌, arith, inl, inr, ◌⊎◌}
use Rattle.std.proofs.lemmas.Nat.{xor_shr, xor_mod, xor_comm, and_mask, and_block}
use Rattle.std.proofs.lemmas.List.FromFn.{get_or-map-range_with_len}
use Rattle.std.specs.List.{range_with_len}
use Rattle.std.specs.Int.Bits.{xor_assoc, xor_zero_r, xor_disjoint, and_zero_l, and_zero_r}
use Rattle.std.proofs.lemmas.Bool.{cases_lt}
use Rattle.std.specs.Fn.{iterate}
use Rattle.compression.specs.Crc.{after_bit, after_byte, polynomial}

-- what a bit that is shifted out adds
abbrev pub added : ℕ → ℕ
added bit = if bit == 1 then polynomial else 0

pub bit_cases : (n : ℕ) → (n % 2 ≡ 0) ⊎ (n % 2 ≡ 1)
bit_cases n =
    let below : n % 2 < 2 = omega arith in
    elim (cases_lt (n % 2) 1) [ inl p ↦ inl (omega arith) | inr p ↦ inr (omega arith) ]

pub added-xor : (a b : ℕ) → added (bit_xor a b % 2) ≡ bit_xor (added (a % 2)) (added (b % 2))
added-xor a b =
    ap added (xor_mod a b 1)
    ∙ (elim (bit_cases a) [
      | inl p ↦ elim (bit_cases b) [ inl q ↦ rw (p, q) refl | inr q ↦ rw (p, q) refl ]
      | inr p ↦ elim (bit_cases b) [ inl q ↦ rw (p, q) refl | inr q ↦ rw (p, q) refl ]
    ])

-- the order of four sums is free
pub xor_pairs : (a b c d : ℕ) → bit_xor (bit_xor a b) (bit_xor c d) ≡ bit_xor (bit_xor a c) (bit_xor b d)
xor_pairs a b c d =
    xor_assoc a b (bit_xor c d)
    ∙ ap (bit_xor a) (sym (xor_assoc b c d) ∙ ap (λ (n : ℕ). bit_xor n d) (xor_comm b c) ∙ xor_assoc c b d)
    ∙ sym (xor_assoc a c (bit_xor b d))

pub after_bit-xor : (a b : ℕ) → after_bit (bit_xor a b) ≡ bit_xor (after_bit a) (after_bit b)
after_bit-xor a b =
    ap (λ (n : ℕ). bit_xor n (added (bit_xor a b % 2))) (xor_shr a b 1)
    ∙ ap (bit_xor (bit_xor (a / 2) (b / 2))) (added-xor a b)
    ∙ xor_pairs (a / 2) (b / 2) (added (a % 2)) (added (b % 2))

pub iterate-xor : (k a b : ℕ) → iterate after_bit k (bit_xor a b) ≡ bit_xor (iterate after_bit k a) (iterate after_bit k b)
iterate-xor zero a b = refl
iterate-xor (suc k) a b = ap (iterate after_bit k) (after_bit-xor a b) ∙ iterate-xor k (after_bit a) (after_bit b)

-- a bit that isn't set adds nothing
pub after_bit-even : (n : ℕ) → after_bit (n * 2) ≡ n
after_bit-even n =
    let half : n * 2 / 2 ≡ n = omega arith in
    let even : n * 2 % 2 ≡ 0 = omega arith in
    rw (half, even) (xor_zero_r n)

pub iterate-even : (k n : ℕ) → iterate after_bit k (n * 2 ^ k) ≡ n
iterate-even zero n = omega arith
iterate-even (suc k) n =
    let twice : n * 2 ^ suc k ≡ n * 2 ^ k * 2 = rw pow-suc (omega arith) in
    ap (iterate after_bit (suc k)) twice ∙ (ap (iterate after_bit k) (after_bit-even (n * 2 ^ k)) ∙ iterate-even k n)

-- blocks that don't overlap have no bit in common
pub and_block_apart : (a b : ℕ) → b < 256 → bit_and (a * 256) b ≡ 0
and_block_apart a b fits =
    let left : a * 256 ≡ a * 2 ^ 8 + 0 = omega arith in
    let right : b ≡ 0 * 2 ^ 8 + b = omega arith in
    let both : bit_and (a * 2 ^ 8 + 0) (0 * 2 ^ 8 + b) ≡ bit_and a 0 * 2 ^ 8 + bit_and 0 b = and_block 8 a 0 0 b (omega arith) fits in
    let none : bit_and a 0 * 2 ^ 8 + bit_and 0 b ≡ 0 = rw (and_zero_r a, and_zero_l b) refl in
    ap (bit_and (a * 256)) right ∙ ap (λ (n : ℕ). bit_and n (0 * 2 ^ 8 + b)) left ∙ both ∙ none

-- the high bits are shifted down, and the low eight make what they make alone
pub eight_bits : (n : ℕ) → iterate after_bit 8 n ≡ bit_xor (n / 256) (iterate after_bit 8 (n % 256))
eight_bits n =
    let apart : bit_xor (n / 256 * 256) (n % 256) ≡ n =
    xor_disjoint _ _ (and_block_apart (n / 256) (n % 256) (omega arith)) ∙ omega arith in
    ap (iterate after_bit 8) (sym apart)
    ∙ iterate-xor 8 (n / 256 * 256) (n % 256)
    ∙ ap (λ (m : ℕ). bit_xor m (iterate after_bit 8 (n % 256))) (iterate-even 8 (n / 256))

-- a byte, by a table of what eight bits make of each
pub after_byte-table : (table : List ℕ) (crc byte wide : ℕ) → byte < 256 → wide ≡ byte → table ≡ map (iterate after_bit 8) (range_with_len 0 256)
    → bit_xor (crc / 256) (get_or table (bit_and (bit_xor crc wide) 255) 0) ≡ after_byte crc byte
unfolding after_byte
after_byte-table table crc byte wide fits same is =
    let n : ℕ = bit_xor crc byte in
    let low : n % 256 < 256 = omega arith in
    let index : bit_and (bit_xor crc wide) 255 ≡ n % 256 = ap (λ (b : ℕ). bit_and (bit_xor crc b) 255) same ∙ and_mask n 8 in
    let high : n / 256 ≡ crc / 256 =
    let none : byte / 256 ≡ 0 = omega arith in
    xor_shr crc byte 8 ∙ ap (bit_xor (crc / 256)) none ∙ xor_zero_r (crc / 256) in
    sym (eight_bits n
    ∙ ap (λ (m : ℕ). bit_xor m (iterate after_bit 8 (n % 256))) high
    ∙ ap (bit_xor (crc / 256)) (sym (ap (λ (i : ℕ). get_or table i 0) index
    ∙ ap (λ (ns : List ℕ). get_or ns (n % 256) 0) is
    ∙ get_or-map-range_with_len (iterate after_bit 8) 0 256 (n % 256) (n % 256) 0 low (omega arith))))
