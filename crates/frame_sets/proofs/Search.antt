-- The least member at or above a number, block by block.
use Rattle.std.proofs.Common.{◌≡◌, ℕ, ◌+◌, ◌-◌, ◌<◌, ◌≤◌, List, [], length, get_or, Some, None, sym, ap, ap₂, ◌∙◌, subst, inl, inr, arith}
use Rattle.std.proofs.lemmas.Bool.{cases_lt, cases_eq}
use Rattle.std.proofs.lemmas.List.{get_or_read}
use Rattle.definitions.specs.Zones.{zone_at, zone_end, first_from}
use Rattle.definitions.specs.ZoneFacts.{InZone}
use Rattle.definitions.proofs.Ascending.{first_from-some, first_from-none}
use Rattle.definitions.proofs.ZoneNumbers.{zones_apart}
use Rattle.definitions.proofs.ZoneBlocks.{IsBlock}
use Rattle.frame_sets.specs.declared.bitmap.Bitmap.TheInside.{Inside}
use Rattle.frame_sets.specs.Bits.{bit_of, AllClear, IsFirstBit}
use Rattle.frame_sets.specs.KeptBitmap.{bits_at, members_of, IsKept}
use Rattle.frame_sets.proofs.Keeping.{kept_apart, kept_blocks}
use Rattle.frame_sets.proofs.Members.{bit_in, Contains-members_of, block_of_member, IsStrictlyIncreasing-members_of}

-- no block before block j has a member at or above p
abbrev pub NoneBefore : Inside → ℕ → ℕ → Type 0
NoneBefore b p j = (i q : ℕ) → i < j → InZone b.runs.items q i → p ≤ q → bit_in b.runs.items b.bits.items q i ≡ 1 → ⊥

-- block j as it was read: its page frames and its words
pub record IsRead (b : Inside) (j : ℕ) (run : ℕ × ℕ) (words : List ℕ) : Type 0 where
  pub kept : IsKept b
  pub within : j < length b.runs.items
  pub run_is : run ≡ zone_at b.runs.items j
  pub words_are : words ≡ bits_at b.bits.items j

pub is_read : (b : Inside) (j : ℕ) (run : ℕ × ℕ) (words : List ℕ) → IsKept b → j < length b.runs.items → run ≡ get_or b.runs.items j run → words ≡ get_or b.bits.items j words → IsRead b j run words
is_read b j run words kept l at is =
    let count = kept.bits in
    record { kept = kept; within = l; run_is = get_or_read b.runs.items j run l at (0, 0); words_are = get_or_read b.bits.items j words (omega arith) is [] }

pub run_is_block : (b : Inside) (j : ℕ) (run : ℕ × ℕ) → IsKept b → j < length b.runs.items → run ≡ get_or b.runs.items j run → IsBlock run
run_is_block b j run kept l at = subst IsBlock (sym (get_or_read b.runs.items j run l at (0, 0))) (kept_blocks b kept j (0, 0) l)

bit_here : (b : Inside) (j : ℕ) (run : ℕ × ℕ) (words : List ℕ) (q : ℕ) → IsRead b j run words → bit_in b.runs.items b.bits.items q j ≡ bit_of words (q - run.0)
bit_here b j run words q h = ap₂ (λ (r : ℕ × ℕ) (ws : List ℕ). bit_of ws (q - r.0)) (sym h.run_is) (sym h.words_are)

-- block j has no bit from p on
pub none_in_block : (b : Inside) (j p : ℕ) (run : ℕ × ℕ) (words : List ℕ) → IsRead b j run words → NoneBefore b p j → AllClear words (p - run.0) 32768 → NoneBefore b p (j + 1)
none_in_block b j p run words h none clear i q lt at le one = elim (cases_eq i j) [
  | inl e ↦
      let block = kept_blocks b h.kept i (0, 0) at.within in
      let few = block.1 in
      let from = at.from in
      let below = at.below in
      let run_is = h.run_is ∙ ap (zone_at b.runs.items) (sym e) in
      let start = ap (λ (r : ℕ × ℕ). r.0) run_is in
      let here = bit_here b j run words q h in
      let same = ap (bit_in b.runs.items b.bits.items q) e in
      let off = clear (q - run.0) (omega arith) (omega arith) in
      omega arith
  | inr ne ↦ none i q (omega arith) at le one
]

-- block j ends at or below p
pub none_below : (b : Inside) (j p : ℕ) (run : ℕ × ℕ) → NoneBefore b p j → run ≡ zone_at b.runs.items j → zone_end run ≤ p → NoneBefore b p (j + 1)
none_below b j p run none run_is end i q lt at le one = elim (cases_eq i j) [
  | inl e ↦
      let is = run_is ∙ ap (zone_at b.runs.items) (sym e) in
      let below = subst (λ (r : ℕ × ℕ). q < zone_end r) (sym is) at.below in
      omega arith
  | inr ne ↦ none i q (omega arith) at le one
]

-- bit k is the first of block j from p on
pub first_in_block : (b : Inside) (j p k : ℕ) (run : ℕ × ℕ) (words : List ℕ) → IsRead b j run words → NoneBefore b p j → IsFirstBit words (p - run.0) k → first_from (members_of b.runs.items b.bits.items) p ≡ Some (run.0 + k)
first_in_block b j p k run words h none first =
    let runs = b.runs.items in
    let bits = b.bits.items in
    let apart = kept_apart b h.kept in
    let start = ap (λ (r : ℕ × ℕ). r.0) h.run_is in
    let count = ap (λ (r : ℕ × ℕ). r.1) h.run_is in
    let past = h.kept.past j k (sym (ap (λ ws. bit_of ws k) h.words_are) ∙ first.set) in
    let at : InZone runs (run.0 + k) j = record { within = h.within; from = omega arith; below = omega arith } in
    let place : run.0 + k - run.0 ≡ k = omega arith in
    let after = first.at_or_after in
    first_from-some (members_of runs bits) p (run.0 + k) (IsStrictlyIncreasing-members_of runs bits apart)
    (Contains-members_of runs bits (run.0 + k) j apart at (bit_here b j run words (run.0 + k) h ∙ ap (bit_of words) place ∙ first.set))
    (omega arith)
    (λ r in' le.
    let m = block_of_member runs bits r apart in' in
    let i = m.0 in
    let from = m.1.from in
    let within = m.1.within in
    elim (cases_lt i j) [
      | inl lt ↦ absurd (none i r lt m.1 le m.2)
      | inr ge ↦ elim (cases_eq i j) [
        | inl e ↦ elim (cases_lt (r - run.0) k) [
          | inl lt ↦
              let off = first.before (r - run.0) (omega arith) lt in
              let here = bit_here b j run words r h in
              let same = ap (bit_in runs bits r) e in
              let one = m.2 in
              absurd (omega arith)
          | inr le_k ↦ let from_j = ap (λ n. (zone_at runs n).0) e in omega arith
        ]
        | inr ne ↦ let over = zones_apart runs apart j i (omega arith) within in omega arith
      ]
    ])

-- no block has one
pub none_at_all : (b : Inside) (p j : ℕ) → IsKept b → NoneBefore b p j → length b.runs.items ≤ j → first_from (members_of b.runs.items b.bits.items) p ≡ None
none_at_all b p j kept none end =
    first_from-none (members_of b.runs.items b.bits.items) p (λ q in'.
    let m = block_of_member b.runs.items b.bits.items q (kept_apart b kept) in' in
    let within = m.1.within in
    elim (cases_lt q p) [ inl lt ↦ lt | inr ge ↦ absurd (none m.0 q (omega arith) m.1 ge m.2) ])
