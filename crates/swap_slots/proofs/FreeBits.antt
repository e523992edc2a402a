-- The free slots by their bits, and how they change with a bit.
use Rattle.std.proofs.Common.{◌≡◌, ℕ, ◌+◌, ◌/◌, ◌%◌, ◌<◌, ◌≤◌, ◌↔◌, ◌⊎◌, IsTrue, List, [], ◌∷◌, length, get_or, Bool, true, false, eqb, Some, refl, sym, ap, ◌∙◌, subst, inl, inr, arith}
use mir.Val.{bool_byte}
use Rattle.std.proofs.lemmas.Bool.{cases_eq, cases_lt, eq-eqb, eqb-true}
use Rattle.std.proofs.lemmas.List.Kept.{IsStrictlyIncreasing-filter}
use Rattle.std.proofs.lemmas.Nat.Bits.{bit_at-lt}
use Rattle.std.specs.List.{Contains, range_with_len, slice_get}
use Rattle.std.specs.List.Sorted.{IsStrictlyIncreasing}
use Rattle.definitions.specs.FrameSets.{inserted, removed}
use Rattle.definitions.proofs.Ascending.{Contains-nil, Contains-head, Contains-cons_cases, head_below, length-between, same_members}
use Rattle.definitions.proofs.FrameSets.{Contains-filter, Contains-from_filter, Contains-inserted, Contains-inserted_itself, Contains-from_inserted, IsStrictlyIncreasing-inserted, inserted_member, length-inserted, Contains-removed, Contains-from_removed, IsStrictlyIncreasing-removed, removed_other, length-removed}
use Rattle.definitions.proofs.ZoneNumbers.{Contains-range, range-bounds, IsStrictlyIncreasing-range}
use Rattle.swap_slots.specs.Bits.{bit_of, ChangesBit, IsFirstBit}
use Rattle.swap_slots.specs.Kept.{members_of}

-- Members by their bits.

pub Contains-members_of : (room : ℕ) (bits : List ℕ) (s : ℕ) → s < room → bit_of bits s ≡ 1 → Contains (members_of room bits) s
unfolding members_of
Contains-members_of room bits s lt one =
    Contains-filter (λ k. eqb (bit_of bits k) 1) (range_with_len 0 room) s (Contains-range 0 room s (omega arith) (omega arith)) (eq-eqb (bit_of bits s) 1 one)

pub member : (room : ℕ) (bits : List ℕ) (s : ℕ) → Contains (members_of room bits) s → (s < room) × (bit_of bits s ≡ 1)
unfolding members_of
member room bits s in' =
    let kept = Contains-from_filter (λ k. eqb (bit_of bits k) 1) (range_with_len 0 room) s in' in
    let bounds = range-bounds 0 room s kept.0 in
    (omega arith, eqb-true (bit_of bits s) 1 kept.1)

pub IsStrictlyIncreasing-members_of : (room : ℕ) (bits : List ℕ) → IsStrictlyIncreasing (members_of room bits)
unfolding members_of
IsStrictlyIncreasing-members_of room bits = IsStrictlyIncreasing-filter (λ k. eqb (bit_of bits k) 1) (range_with_len 0 room) (IsStrictlyIncreasing-range 0 room)

pub few_members : (room : ℕ) (bits : List ℕ) → length (members_of room bits) ≤ room
few_members room bits =
    let all = length-between (members_of room bits) 0 room (IsStrictlyIncreasing-members_of room bits)
    (λ s in'. let m = member room bits s in' in (omega arith, m.0)) (omega arith) in
    omega arith

pub bit_cases : (bits : List ℕ) (s : ℕ) → (bit_of bits s ≡ 0) ⊎ (bit_of bits s ≡ 1)
bit_cases bits s =
    let two = bit_at-lt (get_or bits (s / 64) 0) (s % 64) in
    elim (cases_eq (bit_of bits s) 0) [ inl e ↦ inl e | inr ne ↦ inr (omega arith) ]

-- no bit is 1, no member
pub members_of-clear_all : (room : ℕ) (bits : List ℕ) → ((s : ℕ) → s < room → bit_of bits s ≡ 0) → members_of room bits ≡ []
members_of-clear_all room bits clear =
    same_members (members_of room bits) [] (IsStrictlyIncreasing-members_of room bits) (λ k h. absurd (omega arith))
    (λ s in'. let m = member room bits s in' in let zero_is = clear s m.0 in absurd (omega arith))
    (λ s in'. absurd (Contains-nil s in'))

-- the first bit that is 1 is that of the least member
first_of : (xs : List ℕ) (s : ℕ) → IsStrictlyIncreasing xs → Contains xs s → ((k : ℕ) → Contains xs k → s ≤ k) → slice_get xs 0 ≡ Some s
first_of [] s up in' least = absurd (Contains-nil s in')
first_of (x ∷ xs) s up in' least = elim (Contains-cons_cases x xs s in') [
  | inl e ↦ ap Some e
  | inr h ↦ absurd (let lt = head_below x xs s up h in let le = least x (Contains-head x xs) in omega arith)
]

pub members_of-first : (room : ℕ) (bits : List ℕ) (s : ℕ) → s < room → IsFirstBit bits 0 s → slice_get (members_of room bits) 0 ≡ Some s
members_of-first room bits s lt first =
    first_of (members_of room bits) s (IsStrictlyIncreasing-members_of room bits) (Contains-members_of room bits s lt first.set)
    (λ k in'. elim (cases_lt k s) [
      | inl below ↦ absurd (let one = (member room bits k in').1 in let zero_is = first.before k (omega arith) below in omega arith)
      | inr ge ↦ ge
    ])

-- A bit that changes.

pub members_of-set : (room : ℕ) (bits new : List ℕ) (s : ℕ) → s < room → ChangesBit s 1 bits new → members_of room new ≡ inserted (members_of room bits) s
members_of-set room bits new s lt change =
    let old = members_of room bits in
    let up = IsStrictlyIncreasing-members_of room bits in
    same_members (members_of room new) (inserted old s) (IsStrictlyIncreasing-members_of room new) (IsStrictlyIncreasing-inserted old s up)
    (λ k in'. elim (cases_eq k s) [
      | inl e ↦ subst (λ (x : ℕ). Contains (inserted old s) x) (sym e) (Contains-inserted_itself old s)
      | inr ne ↦
          let m = member room new k in' in
          Contains-inserted old s k (Contains-members_of room bits k m.0 (sym (change.others k ne) ∙ m.1))
    ])
    (λ k in'. elim (cases_eq k s) [
      | inl e ↦ Contains-members_of room new k (omega arith) (ap (bit_of new) e ∙ change.this)
      | inr ne ↦ elim (Contains-from_inserted old s k in') [
        | inl e ↦ absurd (ne e)
        | inr was ↦ let m = member room bits k was in Contains-members_of room new k m.0 (change.others k ne ∙ m.1)
      ]
    ])

pub members_of-clear : (room : ℕ) (bits new : List ℕ) (s : ℕ) → ChangesBit s 0 bits new → members_of room new ≡ removed (members_of room bits) s
members_of-clear room bits new s change =
    let old = members_of room bits in
    let up = IsStrictlyIncreasing-members_of room bits in
    same_members (members_of room new) (removed old s) (IsStrictlyIncreasing-members_of room new) (IsStrictlyIncreasing-removed old s up)
    (λ k in'.
    let m = member room new k in' in
    let ne : k ≡ s → ⊥ = λ e. let zero_is = ap (bit_of new) e ∙ change.this in omega arith in
    Contains-removed old s k (Contains-members_of room bits k m.0 (sym (change.others k ne) ∙ m.1)) ne)
    (λ k in'.
    let was = Contains-from_removed old s k in' in
    let m = member room bits k was.0 in
    Contains-members_of room new k m.0 (change.others k was.1 ∙ m.1))

-- The count afterwards.

pub length-set : (room : ℕ) (bits new : List ℕ) (s : ℕ) (was : Bool) → s < room → ChangesBit s 1 bits new → IsTrue was ↔ (bit_of bits s ≡ 0) → length (members_of room bits) + bool_byte was ≡ length (members_of room new)
length-set room bits new s true lt change test =
    let zero_is = test.0 refl in
    let more = length-inserted (members_of room bits) s (λ in'. let one = (member room bits s in').1 in omega arith) in
    let same = ap length (members_of-set room bits new s lt change) in
    omega arith
length-set room bits new s false lt change test =
    let one : bit_of bits s ≡ 1 = elim (bit_cases bits s) [ inl e ↦ absurd (let both = test.1 e in cc) | inr e ↦ e ] in
    let same = ap length (members_of-set room bits new s lt change) in
    let kept = ap length (inserted_member (members_of room bits) s (IsStrictlyIncreasing-members_of room bits) (Contains-members_of room bits s lt one)) in
    omega arith

pub length-clear : (room : ℕ) (bits new : List ℕ) (s : ℕ) (was : Bool) → s < room → ChangesBit s 0 bits new → IsTrue was ↔ (bit_of bits s ≡ 1) → length (members_of room bits) ≡ bool_byte was + length (members_of room new)
length-clear room bits new s true lt change test =
    let one = test.0 refl in
    let less = length-removed (members_of room bits) s (IsStrictlyIncreasing-members_of room bits) (Contains-members_of room bits s lt one) in
    let same = ap length (members_of-clear room bits new s change) in
    omega arith
length-clear room bits new s false lt change test =
    let same = ap length (members_of-clear room bits new s change) in
    let kept = ap length (removed_other (members_of room bits) s (IsStrictlyIncreasing-members_of room bits) (λ in'. let both = test.1 (member room bits s in').1 in cc)) in
    omega arith
