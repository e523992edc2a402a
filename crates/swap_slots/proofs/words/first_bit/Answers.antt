use Rattle.std.proofs.Common.{◌≡◌, ℕ, ◌+◌, ◌*◌, ◌/◌, ◌%◌, ◌<◌, ◌≤◌, List, length, get_or, ap, ◌∙◌, inl, inr, arith, w64}
use Rattle.std.proofs.lemmas.Bool.{cases_lt}
use Rattle.std.proofs.lemmas.Nat.Bits.{bit_at-trailing_zeros}
use Rattle.std.specs.Int.{bit_at, trailing_zeros}
use Rattle.swap_slots.specs.Bits.{AllClear, IsFirstBit}
use Rattle.swap_slots.proofs.words.first_bit.Goals as goal

-- bit t is the first of word w that is 1, and the words from `from` up to it have none
first_in_word : (words : List ℕ) (from w t : ℕ) → from ≤ w → w < length words → AllClear words (64 * from) (64 * w) → t < 64 → bit_at (get_or words w 0) t ≡ 1 → ((i : ℕ) → i < t → bit_at (get_or words w 0) i ≡ 0) → IsFirstBit words (64 * from) (64 * w + t)
first_in_word words from w t start in' before lt one clear = record {
  at_or_after = omega arith;
  within = omega arith;
  set =
      let at : (64 * w + t) / 64 ≡ w = omega arith in
      let bit : (64 * w + t) % 64 ≡ t = omega arith in
      ap (λ j. bit_at (get_or words j 0) ((64 * w + t) % 64)) at ∙ ap (bit_at (get_or words w 0)) bit ∙ one;
  before = λ i i_from i_lt. elim (cases_lt i (64 * w)) [
    | inl below ↦ before i i_from below
    | inr here ↦
        let at : i / 64 ≡ w = omega arith in
        ap (λ j. bit_at (get_or words j 0) (i % 64)) at ∙ clear (i % 64) (omega arith)
  ];
}

pub returns-then-words-w-ne0 : goal.returns-then-words-w-ne0
returns-then-words-w-ne0 c =
    let words = c.args.words.now in
    let w = c.loop-w.w in
    let n = get_or words w 0 in
    let fits : n < 18446744073709551616 = (c.type_inv.words w).fits in
    let first = bit_at-trailing_zeros w64 n (let ne = c.if-words-w-ne0.true in omega arith) fits in
    let start = c.loop-w.auto.w in
    first_in_word words c.args.from w (trailing_zeros w64 n) (omega arith) c.loop-w-test.true c.loop-w.invariant first.0 first.1 first.2
