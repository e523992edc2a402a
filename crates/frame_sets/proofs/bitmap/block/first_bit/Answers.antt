use Rattle.std.proofs.Common.{◌≡◌, ℕ, ◌+◌, ◌-◌, ◌*◌, ◌/◌, ◌%◌, ◌^◌, ◌<◌, ◌≤◌, List, get_or, sym, ap, ◌∙◌, subst, inl, inr, arith, bit_and, w64}
use Rattle.std.proofs.lemmas.Bool.{cases_lt}
use Rattle.std.proofs.lemmas.Nat.{and_le_l}
use Rattle.std.proofs.lemmas.Nat.Bits.{bit_at_and, bit_at-lt, bit_at-zero, bit_at_mask_inside, bit_at_mask_below, ones_shl, bit_at-trailing_zeros}
use Rattle.std.specs.Int.{bit_at, trailing_zeros}
use Rattle.frame_sets.specs.Bits.{AllClear, IsFirstBit}
use Rattle.frame_sets.proofs.bitmap.block.first_bit.Goals as goal

-- n & (u64::MAX << k) as the code computes it: the bits of n from k on
abbrev head : ℕ → ℕ → ℕ
head n k = bit_and n (18446744073709551615 * 2 ^ k % 18446744073709551616)

head_is : (n k : ℕ) → k < 64 → head n k ≡ bit_and n (2 ^ 64 - 2 ^ k)
head_is n k h = ap (bit_and n) (ones_shl 64 k (omega arith))

bit_at-head : (n k i : ℕ) → k ≤ i → i < 64 → bit_at (head n k) i ≡ bit_at n i
bit_at-head n k i le lt =
    let one = bit_at_mask_inside k 64 i le lt in
    let two = bit_at-lt n i in
    ap (λ m. bit_at m i) (head_is n k (omega arith)) ∙ bit_at_and n (2 ^ 64 - 2 ^ k) i ∙ omega arith

bit_at-head_low : (n k i : ℕ) → k < 64 → i < k → bit_at (head n k) i ≡ 0
bit_at-head_low n k i h lt =
    let none = bit_at_mask_below k 64 i lt in
    ap (λ m. bit_at m i) (head_is n k h) ∙ bit_at_and n (2 ^ 64 - 2 ^ k) i ∙ omega arith

-- bit t of word w is 1, the bits of the word from `low` up to it are 0, and so are those of the block before
first_in_word : (words : List ℕ) (from w low t : ℕ) → w < 512 → from ≤ 64 * w + low → AllClear words from (64 * w + low) → low ≤ t → t < 64 → bit_at (get_or words w 0) t ≡ 1 → ((i : ℕ) → low ≤ i → i < t → bit_at (get_or words w 0) i ≡ 0) → IsFirstBit words from (64 * w + t)
first_in_word words from w low t in' start before le lt one clear = record {
  at_or_after = omega arith;
  within = omega arith;
  set =
      let at : (64 * w + t) / 64 ≡ w = omega arith in
      let bit : (64 * w + t) % 64 ≡ t = omega arith in
      ap (λ j. bit_at (get_or words j 0) ((64 * w + t) % 64)) at ∙ ap (bit_at (get_or words w 0)) bit ∙ one;
  before = λ i i_from i_lt. elim (cases_lt i (64 * w + low)) [
    | inl below ↦ before i i_from below
    | inr here ↦
        let at : i / 64 ≡ w = omega arith in
        ap (λ j. bit_at (get_or words j 0) (i % 64)) at ∙ clear (i % 64) (omega arith) (omega arith)
  ];
}

first_in_head : (words : List ℕ) (from : ℕ) → from < 32768 → get_or words (from / 64) 0 < 18446744073709551616 → (head (get_or words (from / 64) 0) (from % 64) ≡ 0 → ⊥) → IsFirstBit words from (from / 64 * 64 + trailing_zeros w64 (head (get_or words (from / 64) 0) (from % 64)))
first_in_head words from in' fits some =
    let w = from / 64 in
    let low = from % 64 in
    let n = get_or words w 0 in
    let h = head n low in
    let less = and_le_l n (18446744073709551615 * 2 ^ low % 18446744073709551616) in
    let first = bit_at-trailing_zeros w64 h (omega arith) (omega arith) in
    let t = trailing_zeros w64 h in
    let t_lt : t < 64 = first.0 in
    let t_one : bit_at h t ≡ 1 = first.1 in
    let low_lt : low < 64 = omega arith in
    let le : low ≤ t = elim (cases_lt t low) [ inl lt ↦ absurd (let none = bit_at-head_low n low t low_lt lt in omega arith) | inr ge ↦ ge ] in
    let times : w * 64 ≡ 64 * w = omega arith in
    subst (λ (x : ℕ). IsFirstBit words from (x + t)) (sym times)
    (first_in_word words from w low t (omega arith) (omega arith) (λ i i_from i_lt. absurd (omega arith)) le t_lt
    (sym (bit_at-head n low t le t_lt) ∙ t_one)
    (λ i i_low i_lt. sym (bit_at-head n low i i_low (omega arith)) ∙ first.2 i i_lt))

pub returns-then-head-ne0 : goal.returns-then-head-ne0
returns-then-head-ne0 c =
    let words = c.args.block.now in
    let from = c.args.from in
    let w = from / 64 in
    let low = from % 64 in
    let n = get_or words w 0 in
    let fits : n < 18446744073709551616 = omega arith in
    first_in_head words from (omega arith) fits c.if-head-ne0.true

pub loop-word-init : goal.loop-word-init
loop-word-init c i le lt =
    let words = c.args.block.now in
    let from = c.args.from in
    let at : i / 64 ≡ from / 64 = omega arith in
    let n = get_or words (from / 64) 0 in
    let none : head n (from % 64) ≡ 0 = c.if-head-ne0.false in
    ap (λ j. bit_at (get_or words j 0) (i % 64)) at
    ∙ sym (bit_at-head n (from % 64) (i % 64) (omega arith) (omega arith))
    ∙ ap (λ m. bit_at m (i % 64)) none ∙ bit_at-zero (i % 64)

pub returns-then-block-word-ne0 : goal.returns-then-block-word-ne0
returns-then-block-word-ne0 c =
    let words = c.args.block.now in
    let w = c.loop-word.word in
    let n = get_or words w 0 in
    let fits : n < 18446744073709551616 = omega arith in
    let first = bit_at-trailing_zeros w64 n (let ne = c.if-block-word-ne0.true in omega arith) fits in
    let low = c.loop-word.auto.word in
    let start : 64 * w + 0 ≡ 64 * w = omega arith in
    first_in_word words c.args.from w 0 (trailing_zeros w64 n) (omega arith) (omega arith)
    (λ i le lt. c.loop-word.invariant i le (omega arith)) (omega arith) first.0 first.1 (λ i _ lt. first.2 i lt)
