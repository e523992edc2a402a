-- A walk over the words of a set, block after block.
use Rattle.std.proofs.Common.{◌≡◌, ℕ, ◌+◌, ◌-◌, ◌*◌, ◌/◌, ◌%◌, ◌^◌, ◌<◌, ◌≤◌, List, length, get_or, map, eqb, Some, IsBitSet, count_ones, sym, ap, ◌∙◌, subst, inl, inr, arith}
use Rattle.std.proofs.lemmas.Bool.{cases_lt, cases_eq, cases_order, eq-eqb, eqb-true}
use Rattle.std.proofs.lemmas.Nat.{pow_pos, zero_from_ones, ones_le_self}
use Rattle.std.proofs.lemmas.Nat.Bits.{and_pow, bit_at-lt, bit_at-zero}
use Rattle.std.proofs.lemmas.List.{length-map, get_or-map}
use Rattle.std.proofs.lemmas.List.Elements.{Contains-get_or}
use Rattle.std.proofs.lemmas.List.Kept.{IsStrictlyIncreasing-filter}
use Rattle.std.specs.Int.{bit_at}
use Rattle.std.specs.List.{Contains, range_with_len}
use Rattle.std.specs.List.Sorted.{IsStrictlyIncreasing}
use Rattle.definitions.specs.Zones.{numbers, zone_at, first_from}
use Rattle.definitions.specs.ZoneFacts.{InZone}
use Rattle.definitions.specs.FrameSets.{HoldsBits}
use Rattle.definitions.proofs.Ascending.{first_from-some}
use Rattle.definitions.proofs.FrameSets.{Contains-filter, Contains-from_filter}
use Rattle.definitions.proofs.ZoneNumbers.{zone_of, zones_apart, Contains-range, range-bounds, IsStrictlyIncreasing-range}
use Rattle.definitions.proofs.ZoneBlocks.{IsBlock, All-blocks, AreApart-blocks, numbers-blocks}
use Rattle.frame_sets.specs.FrameSet.{FrameSet, IsFrameSet}
use Rattle.frame_sets.specs.Places.{count_below, IsSpan, runs, start, word_of, IsWord}
use Rattle.frame_sets.proofs.Below.{count_below-more, count_below-all}
use Rattle.frame_sets.proofs.PackedWords.{bits_of, ones_are, span_of}
use lib.Count.{count_leading_zeros, count_trailing_zeros}

few_in_block : (set : FrameSet) (b : ℕ) → IsFrameSet set → b < length (runs set) → IsBlock (zone_at (runs set) b)
few_in_block set b h lt = All-blocks set.zones h.zones.each b (0, 0) lt

-- the numbers ascend with their words
below_by_word : (set : FrameSet) (q b r d : ℕ) → IsFrameSet set → InZone (runs set) q b → InZone (runs set) r d → word_of set q b < word_of set r d → q < r
below_by_word set q b r d h at_q at_r lt =
    let q_from = at_q.from in
    let q_below = at_q.below in
    let r_from = at_r.from in
    let r_below = at_r.below in
    elim (cases_order b d) [
      | inl e ↦ let same = ap (start set) e in omega arith
      | inr apart ↦ elim apart [
        | inl lower ↦ let over = zones_apart (runs set) (AreApart-blocks set.zones h.zones.apart) b d lower at_r.within in omega arith
        | inr higher ↦ let few = few_in_block set d h at_r.within in let few_r = few.1 in absurd (omega arith)
      ]
    ]

-- The members of the first w words are below `from`, and the others aren't.
pub record IsPassed (set : FrameSet) (w from : ℕ) : Type 0 where
  pub passed : (q b : ℕ) → Contains set.members q → InZone (runs set) q b → word_of set q b < w → q < from
  pub others : (q b : ℕ) → Contains set.members q → InZone (runs set) q b → w ≤ word_of set q b → from ≤ q

pub none_passed : (set : FrameSet) → IsPassed set 0 0
none_passed set = record { passed = λ q b in' at lt. absurd (omega arith); others = λ q b in' at le. omega arith }

block_of_member : (set : FrameSet) (q : ℕ) → IsFrameSet set → Contains set.members q → (b : ℕ) × InZone (runs set) q b
block_of_member set q h (k, lt, e) =
    let valid : Contains (numbers set.zones) q = subst (λ (x : ℕ). Contains (numbers set.zones) x) e (h.valid k q lt) in
    zone_of (runs set) q (subst (λ (xs : List ℕ). Contains xs q) (sym (numbers-blocks set.zones)) valid)

-- when all words are passed all members are
pub all_passed : (set : FrameSet) (w from : ℕ) → IsFrameSet set → 512 * length (runs set) ≤ w → IsPassed set w from → count_below set.members from ≡ length set.members
all_passed set w from h le passed =
    count_below-all set.members from (λ q in'.
    let m = block_of_member set q h in' in
    let within = m.1.within in
    let q_below = m.1.below in
    let few = few_in_block set m.0 h within in
    let few_q = few.1 in
    passed.passed q m.0 in' m.1 (omega arith))

bit_set : (n k : ℕ) → IsBitSet n k → bit_at n k ≡ 1
bit_set n k some = elim (cases_eq (bit_at n k) 0) [
  | inl none ↦ absurd (some (and_pow n k ∙ ap (λ (b : ℕ). b * 2 ^ k) none ∙ omega arith))
  | inr ne ↦ let lt = bit_at-lt n k in omega arith
]

set_bit : (n k : ℕ) → bit_at n k ≡ 1 → IsBitSet n k
set_bit n k one none =
    let pos = pow_pos k in
    let is : 0 ≡ bit_at n k * 2 ^ k = sym none ∙ and_pow n k in
    let product : bit_at n k * 2 ^ k ≡ 1 * 2 ^ k = ap (λ (b : ℕ). b * 2 ^ k) one in
    omega arith

pub is_word : (set : FrameSet) (words : List ℕ) (w word : ℕ) → IsFrameSet set → w / 512 < length (runs set) → word < 2 ^ 64 → HoldsBits set.members (zone_at (runs set) (w / 512)) words → get_or words (w % 512) 0 ≡ word → IsWord set w word
is_word set words w word h within fits holds is = record {
  within = within;
  fits = fits;
  bit = λ q b in' at number.
      let few = few_in_block set b h at.within in
      let few_q = few.1 in
      let from = at.from in
      let below = at.below in
      let b_is : b ≡ w / 512 = omega arith in
      let same = ap (start set) b_is in
      let k = q - start set b in
      let at_word : k / 64 ≡ w % 512 = omega arith in
      let inside : k < (zone_at (runs set) (w / 512)).1 = let count = ap (λ (d : ℕ). (zone_at (runs set) d).1) b_is in omega arith in
      let place : start set (w / 512) + k ≡ q = omega arith in
      let held : Contains set.members (start set (w / 512) + k) = subst (λ (x : ℕ). Contains set.members x) (sym place) in' in
      let one = bit_set (get_or words (k / 64) 0) (k % 64) ((holds k (omega arith)).1 (inside, held)) in
      sym (ap (λ (n : ℕ). bit_at n (k % 64)) (ap (λ (j : ℕ). get_or words j 0) at_word ∙ is)) ∙ one;
  member = λ t lt one.
      let k = 64 * (w % 512) + t in
      let at_word : k / 64 ≡ w % 512 = omega arith in
      let at_bit : k % 64 ≡ t = omega arith in
      let set_there : IsBitSet (get_or words (k / 64) 0) (k % 64) = set_bit (get_or words (k / 64) 0) (k % 64)
      (ap (λ (n : ℕ). bit_at n (k % 64)) (ap (λ (j : ℕ). get_or words j 0) at_word ∙ is) ∙ ap (bit_at word) at_bit ∙ one) in
      let held = (holds k (omega arith)).0 set_there in
      let inside = held.0 in
      let place : start set (w / 512) + k ≡ start set (w / 512) + 64 * (w % 512) + t = omega arith in
      (record { within = within; from = omega arith; below = omega arith }, subst (λ (x : ℕ). Contains set.members x) place held.1);
}

-- Where the first w words are passed and word w has no bit, it is passed too.
pub passed_empty : (set : FrameSet) (w word from : ℕ) → IsWord set w word → count_ones word ≡ 0 → IsPassed set w from → IsPassed set (w + 1) from
passed_empty set w word from at none passed =
    let zero_word : word ≡ 0 = zero_from_ones word none in
    record {
      passed = λ q b in' at_q lt. elim (cases_lt (word_of set q b) w) [
        | inl before ↦ passed.passed q b in' at_q before
        | inr ge ↦
            let one = at.bit q b in' at_q (omega arith) in
            let off : bit_at word ((q - start set b) % 64) ≡ 0 = ap (λ (n : ℕ). bit_at n ((q - start set b) % 64)) zero_word ∙ bit_at-zero ((q - start set b) % 64) in
            absurd (omega arith)
      ];
      others = λ q b in' at_q le. passed.others q b in' at_q (omega arith);
    }

-- The least member from `from` on is the one of the lowest bit of word w.
pub lowest : (set : FrameSet) (w word from low width : ℕ) → IsFrameSet set → IsWord set w word → IsSpan word low width → IsPassed set w from → first_from set.members from ≡ Some (start set (w / 512) + 64 * (w % 512) + low)
lowest set w word from low width h at span passed =
    let base = start set (w / 512) + 64 * (w % 512) in
    let some = span.some in
    let size = span.within in
    let is = at.member low (omega arith) span.first in
    first_from-some set.members from (base + low) h.ascending is.1
    (passed.others (base + low) (w / 512) is.1 is.0 (omega arith))
    (λ r in' le.
    let m = block_of_member set r h in' in
    let b = m.0 in
    let number = word_of set r b in
    elim (cases_order number w) [
      | inl e ↦
          let one = at.bit r b in' m.1 e in
          let few = few_in_block set b h m.1.within in
          let few_r = few.1 in
          let r_from = m.1.from in
          let r_below = m.1.below in
          let b_is : b ≡ w / 512 = omega arith in
          let same = ap (start set) b_is in
          let t = (r - start set b) % 64 in
          let not_below : low ≤ t = elim (cases_lt t low) [ inl lt ↦ absurd (let off = span.below t lt in omega arith) | inr ge ↦ ge ] in
          omega arith
      | inr apart ↦ elim apart [
        | inl before ↦ absurd (let lt = passed.passed r b in' m.1 before in omega arith)
        | inr after ↦ let lt = below_by_word set (base + low) (w / 512) r b h is.0 m.1 (omega arith) in omega arith
      ]
    ])

-- The members of word w.

abbrev word_members : FrameSet → ℕ → ℕ → List ℕ
word_members set w word = map (λ t. start set (w / 512) + 64 * (w % 512) + t) (bits_of word 64)

shifted_up : (base : ℕ) (xs : List ℕ) → IsStrictlyIncreasing xs → IsStrictlyIncreasing (map (λ t. base + t) xs)
shifted_up base xs up k lt =
    let add : ℕ → ℕ = λ t. base + t in
    let n = length-map xs add in
    let here = get_or-map add xs k 0 0 (omega arith) in
    let next = get_or-map add xs (k + 1) 0 0 (omega arith) in
    let rises = up k (omega arith) in
    omega arith

from_shifted : (base : ℕ) (xs : List ℕ) (q : ℕ) → Contains (map (λ t. base + t) xs) q → (t : ℕ) × Contains xs t × (base + t ≡ q)
from_shifted base xs q (k, lt, e) =
    let add : ℕ → ℕ = λ t. base + t in
    let within : k < length xs = omega (arith, length-map xs add) in
    (get_or xs k 0, Contains-get_or xs k 0 within, sym (get_or-map add xs k 0 q within) ∙ e)

to_shifted : (base : ℕ) (xs : List ℕ) (t : ℕ) → Contains xs t → Contains (map (λ t. base + t) xs) (base + t)
to_shifted base xs t (k, lt, e) =
    let add : ℕ → ℕ = λ i. base + i in
    (k, omega (arith, length-map xs add), get_or-map add xs k t (base + t) lt ∙ ap add e)

-- The members of the first w + 1 words lie below the place after the highest bit of word w.
pub passed_word : (set : FrameSet) (w word from low width : ℕ) → IsFrameSet set → IsWord set w word → IsSpan word low width → IsPassed set w from → IsPassed set (w + 1) (start set (w / 512) + 64 * (w % 512) + low + width)
passed_word set w word from low width h at span passed =
    let base = start set (w / 512) + 64 * (w % 512) in
    let some = span.some in
    let size = span.within in
    let top = low + width - 1 in
    let is = at.member top (omega arith) span.last in
    record {
      passed = λ q b in' at_q lt. elim (cases_lt (word_of set q b) w) [
        | inl before ↦ let less = below_by_word set q b (base + top) (w / 512) h at_q is.0 (omega arith) in omega arith
        | inr ge ↦
            let one = at.bit q b in' at_q (omega arith) in
            let few = few_in_block set b h at_q.within in
            let few_q = few.1 in
            let q_from = at_q.from in
            let q_below = at_q.below in
            let b_is : b ≡ w / 512 = omega arith in
            let same = ap (start set) b_is in
            let t = (q - start set b) % 64 in
            let not_above : t < low + width = elim (cases_lt t (low + width)) [ inl lt ↦ lt | inr above ↦ absurd (let off = span.above t above in omega arith) ] in
            omega arith
      ];
      others = λ q b in' at_q le. let less = below_by_word set (base + top) (w / 512) q b h is.0 at_q (omega arith) in omega arith;
    }

-- the count rises by the number of members in the span of a word
pub counted_word : (set : FrameSet) (w word from low width : ℕ) → IsFrameSet set → IsWord set w word → IsSpan word low width → IsPassed set w from → count_below set.members (start set (w / 512) + 64 * (w % 512) + low + width) ≡ count_below set.members from + count_ones word
counted_word set w word from low width h at span passed =
    let base = start set (w / 512) + 64 * (w % 512) in
    let ys = word_members set w word in
    let next = base + low + width in
    let after = passed_word set w word from low width h at span passed in
    let some = span.some in
    let first = at.member low (let size = span.within in omega arith) span.first in
    let from_low = passed.others (base + low) (w / 512) first.1 first.0 (let size = span.within in omega arith) in
    let n : length ys ≡ count_ones word = length-map (bits_of word 64) (λ (t : ℕ). base + t) ∙ sym (ones_are word at.fits) in
    count_below-more set.members from next ys h.ascending (omega arith) record {
      ascending = shifted_up base (bits_of word 64) (IsStrictlyIncreasing-filter (λ t. eqb (bit_at word t) 1) (range_with_len 0 64) (IsStrictlyIncreasing-range 0 64));
      members = λ q in'.
          let shifted = from_shifted base (bits_of word 64) q in' in
          let t = shifted.0 in
          let kept = Contains-from_filter (λ i. eqb (bit_at word i) 1) (range_with_len 0 64) t shifted.1 in
          let bounds = range-bounds 0 64 t kept.0 in
          let one = eqb-true (bit_at word t) 1 kept.1 in
          let is = at.member t (omega arith) one in
          let place : base + t ≡ q = shifted.2 in
          let number : w ≤ word_of set (base + t) (w / 512) = omega arith in
          let from_t = passed.others (base + t) (w / 512) is.1 is.0 number in
          let not_above : t < low + width = elim (cases_lt t (low + width)) [ inl lt ↦ lt | inr above ↦ absurd (let off = span.above t above in omega arith) ] in
          (subst (λ (x : ℕ). Contains set.members x) place is.1, omega arith, omega arith);
      all = λ q in' ge lt.
          let m = block_of_member set q h in' in
          let b = m.0 in
          let few = few_in_block set b h m.1.within in
          let few_q = few.1 in
          let q_from = m.1.from in
          let q_below = m.1.below in
          let not_before : w ≤ word_of set q b = elim (cases_lt (word_of set q b) w) [ inl before ↦ absurd (let less = passed.passed q b in' m.1 before in omega arith) | inr ge ↦ ge ] in
          let not_after : word_of set q b < w + 1 = elim (cases_lt (word_of set q b) (w + 1)) [ inl lt ↦ lt | inr late ↦ absurd (let over = after.others q b in' m.1 late in omega arith) ] in
          let one = at.bit q b in' m.1 (omega arith) in
          let b_is : b ≡ w / 512 = omega arith in
          let same = ap (start set) b_is in
          let t = (q - start set b) % 64 in
          let place : base + t ≡ q = omega arith in
          subst (λ (x : ℕ). Contains ys x) place (to_shifted base (bits_of word 64) t (Contains-filter (λ i. eqb (bit_at word i) 1) (range_with_len 0 64) t (Contains-range 0 64 t (omega arith) (omega arith)) (eq-eqb (bit_at word t) 1 one)));
    } ∙ ap (λ (k : ℕ). count_below set.members from + k) n

pub first_of_word : (set : FrameSet) (w word from : ℕ) → IsFrameSet set → IsWord set w word → 0 < count_ones word → IsPassed set w from → first_from set.members from ≡ Some (start set (w / 512) + 64 * (w % 512) + count_trailing_zeros 64 word)
first_of_word set w word from h at some passed =
    let few = ones_le_self word in
    lowest set w word from (count_trailing_zeros 64 word) (64 - count_leading_zeros 64 word - count_trailing_zeros 64 word) h at (span_of word (omega arith) at.fits).1 passed

pub small_of_word : (set : FrameSet) (w word low width : ℕ) → IsFrameSet set → IsWord set w word → IsSpan word low width → start set (w / 512) + 64 * (w % 512) + low < 65536
small_of_word set w word low width h at span =
    let some = span.some in
    let size = span.within in
    let is = at.member low (omega arith) span.first in
    let block = few_in_block set (w / 512) h at.within in
    let end = block.2 in
    let below = is.0.below in
    omega arith
