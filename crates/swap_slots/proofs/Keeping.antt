-- What the bits of the free slots keep, at the start and after a bit was set or cleared.
use Rattle.std.proofs.Common.{◌≡◌, ℕ, ◌*◌, ◌/◌, ◌%◌, ◌^◌, ◌<◌, ◌≤◌, List, [], length, get_or, replicate, Some, sym, ap, ◌∙◌, inl, inr, arith}
use Rattle.std.proofs.lemmas.Bool.{cases_eq, cases_lt}
use Rattle.std.proofs.lemmas.List.{length-replicate, get_or-replicate, get_or_past}
use Rattle.std.proofs.lemmas.Nat.Bits.{bit_at-zero}
use Rattle.std.specs.Int.{bit_at}
use Rattle.std.specs.List.{slice_get}
use Rattle.swap_slots.specs.Bits.{bit_of, AllClear, IsClearWord, ChangesBit, IsFirstBit}
use Rattle.swap_slots.specs.Kept.{members_of, AreKept}
use Rattle.swap_slots.proofs.OneBit.{word_zero}
use Rattle.swap_slots.proofs.FreeBits.{members_of-clear_all, members_of-first}

-- Words of zeros.

pub bit_of-zeros : (n s : ℕ) → bit_of (replicate n 0) s ≡ 0
bit_of-zeros n s =
    let zero_is : get_or (replicate n 0) (s / 64) 0 ≡ 0 = elim (cases_lt (s / 64) n) [
      | inl lt ↦ get_or-replicate {A = ℕ} n (s / 64) 0 0 lt
      | inr ge ↦ get_or_past (replicate n 0) (s / 64) 0 (let size = length-replicate {A = ℕ} n 0 in omega arith)
    ] in
    ap (λ word. bit_at word (s % 64)) zero_is ∙ bit_at-zero (s % 64)

pub members_of-zeros : (room n : ℕ) → members_of room (replicate n 0) ≡ []
members_of-zeros room n = members_of-clear_all room (replicate n 0) (λ s lt. bit_of-zeros n s)

pub kept_zeros : (room n m : ℕ) → room < 2 ^ 32 → room ≤ 64 * n → n ≤ 64 * m → m < 2 ^ 32 → AreKept room 0 (replicate n 0) (replicate m 0)
kept_zeros room n m size slots words few = record {
  size = size;
  slots = let n_is = length-replicate {A = ℕ} n 0 in omega arith;
  words = let n_is = length-replicate {A = ℕ} n 0 in let m_is = length-replicate {A = ℕ} m 0 in omega arith;
  few = let m_is = length-replicate {A = ℕ} m 0 in omega arith;
  past = λ s one. absurd (let zero_is = bit_of-zeros n s in omega arith);
  none = λ s zero_is. bit_of-zeros n s;
  some = λ w clear. bit_of-zeros m w;
  counted = sym (ap length (members_of-zeros room n));
}

-- A bit was set, and that of its word.

pub kept_set : (room count count' s : ℕ) (bits bits' summary summary' : List ℕ) → AreKept room count bits summary → s < room → ChangesBit s 1 bits bits' → ChangesBit (s / 64) 1 summary summary' → length bits' ≡ length bits → length summary' ≡ length summary → count' ≡ length (members_of room bits') → AreKept room count' bits' summary'
kept_set room count count' s bits bits' summary summary' h lt change above same_bits same_summary counted = record {
  size = h.size;
  slots = let slots = h.slots in omega arith;
  words = let words = h.words in omega arith;
  few = let few = h.few in omega arith;
  past = λ k one. elim (cases_eq k s) [ inl e ↦ omega arith | inr ne ↦ h.past k (sym (change.others k ne) ∙ one) ];
  none = λ k zero_is. elim (cases_eq (k / 64) (s / 64)) [
    | inl e ↦ absurd (let one = ap (bit_of summary') e ∙ above.this in omega arith)
    | inr ne ↦ change.others k (λ e. ne (ap (λ i. i / 64) e)) ∙ h.none k (sym (above.others (k / 64) ne) ∙ zero_is)
  ];
  some = λ w clear. elim (cases_eq w (s / 64)) [
    | inl e ↦ absurd (let zero_is = clear s (sym e) in let one = change.this in omega arith)
    | inr ne ↦ above.others w ne ∙ h.some w (λ k at. sym (change.others k (λ e. ne (sym at ∙ ap (λ i. i / 64) e))) ∙ clear k at)
  ];
  counted = counted;
}

-- A bit was cleared.

kept_past : (room count s : ℕ) (bits bits' summary : List ℕ) → AreKept room count bits summary → ChangesBit s 0 bits bits' → (k : ℕ) → bit_of bits' k ≡ 1 → k < room
kept_past room count s bits bits' summary h change k one = elim (cases_eq k s) [
  | inl e ↦ absurd (let zero_is = ap (bit_of bits') e ∙ change.this in omega arith)
  | inr ne ↦ h.past k (sym (change.others k ne) ∙ one)
]

-- the word of a cleared bit is 0 now, and its bit in the summary is cleared too
pub kept_last : (room count count' s : ℕ) (bits bits' summary summary' : List ℕ) → AreKept room count bits summary → ChangesBit s 0 bits bits' → IsClearWord bits' (s / 64) → ChangesBit (s / 64) 0 summary summary' → length bits' ≡ length bits → length summary' ≡ length summary → count' ≡ length (members_of room bits') → AreKept room count' bits' summary'
kept_last room count count' s bits bits' summary summary' h change word above same_bits same_summary counted = record {
  size = h.size;
  slots = let slots = h.slots in omega arith;
  words = let words = h.words in omega arith;
  few = let few = h.few in omega arith;
  past = kept_past room count s bits bits' summary h change;
  none = λ k zero_is. elim (cases_eq (k / 64) (s / 64)) [
    | inl e ↦ word k e
    | inr ne ↦ change.others k (λ e. ne (ap (λ i. i / 64) e)) ∙ h.none k (sym (above.others (k / 64) ne) ∙ zero_is)
  ];
  some = λ w clear. elim (cases_eq w (s / 64)) [
    | inl e ↦ ap (bit_of summary') e ∙ above.this
    | inr ne ↦ above.others w ne ∙ h.some w (λ k at. sym (change.others k (λ e. ne (sym at ∙ ap (λ i. i / 64) e))) ∙ clear k at)
  ];
  counted = counted;
}

-- the word of a cleared bit isn't 0 now, and the summary stays
pub kept_clear : (room count count' s : ℕ) (bits bits' summary : List ℕ) → AreKept room count bits summary → ChangesBit s 0 bits bits' → (IsClearWord bits' (s / 64) → ⊥) → length bits' ≡ length bits → count' ≡ length (members_of room bits') → AreKept room count' bits' summary
kept_clear room count count' s bits bits' summary h change word same_bits counted = record {
  size = h.size;
  slots = let slots = h.slots in omega arith;
  words = let words = h.words in omega arith;
  few = h.few;
  past = kept_past room count s bits bits' summary h change;
  none = λ k zero_is. elim (cases_eq k s) [
    | inl e ↦ ap (bit_of bits') e ∙ change.this
    | inr ne ↦ change.others k ne ∙ h.none k zero_is
  ];
  some = λ w clear. elim (cases_eq w (s / 64)) [
    | inl e ↦ absurd (word (λ k at. clear k (at ∙ sym e)))
    | inr ne ↦ h.some w (λ k at. sym (change.others k (λ e. ne (sym at ∙ ap (λ i. i / 64) e))) ∙ clear k at)
  ];
  counted = counted;
}

-- The least free slot.

-- no word has a bit that is 1
pub none_free : (room count : ℕ) (bits summary : List ℕ) → AreKept room count bits summary → AllClear summary (64 * 0) (64 * length summary) → members_of room bits ≡ []
none_free room count bits summary h clear =
    members_of-clear_all room bits (λ s lt. let slots = h.slots in let words = h.words in h.none s (clear (s / 64) (omega arith) (omega arith)))

-- a word that isn't 0 by the summary has a bit that is 1
pub some_in_word : (room count : ℕ) (bits summary : List ℕ) (w : ℕ) → AreKept room count bits summary → IsFirstBit summary (64 * 0) w → AllClear bits (64 * w) (64 * length bits) → ⊥
some_in_word room count bits summary w h above clear =
    let zero_is = h.some w (λ s at. elim (cases_lt s (64 * length bits)) [
      | inl lt ↦ clear s (omega arith) lt
      | inr past ↦ word_zero bits s (get_or_past bits (s / 64) 0 (omega arith))
    ]) in
    let one = above.set in
    omega arith

-- the first bit that is 1 from the first word on that isn't 0
pub first_free : (room count : ℕ) (bits summary : List ℕ) (w s : ℕ) → AreKept room count bits summary → IsFirstBit summary (64 * 0) w → IsFirstBit bits (64 * w) s → (s < room) × (slice_get (members_of room bits) 0 ≡ Some s)
first_free room count bits summary w s h above first =
    let within = h.past s first.set in (
      within,
      members_of-first room bits s within (record {
        at_or_after = omega arith;
        within = first.within;
        set = first.set;
        before = λ k _ lt. elim (cases_lt k (64 * w)) [
          | inl below ↦ h.none k (above.before (k / 64) (omega arith) (omega arith))
          | inr ge ↦ first.before k ge lt
        ];
      }),
    )
