-- How many blocks a disk needs for the extents of a swap area.
use Rattle.std.proofs.Common.{◌≡◌, ◌≤◌, ◌<◌, ℕ, ◌+◌, ◌-◌, inl, inr, List, length, nat_lt, eqb, cond, Bool, true, false, Less, Equal, Greater, refl, sym, ap, ◌∙◌, arith}
use Rattle.std.proofs.lemmas.Bool.{cases_lt, cond-true, cond-false, lt-ltb, le-ltb}
use Rattle.std.specs.Ordering.{is_lt, nat_cmp, ord_max}
use Rattle.definitions.specs.Slots.{extent_at}
use Rattle.definitions.specs.FileMaps.{IsFileMap}
use Rattle.definitions.proofs.FileMaps.{HasSlot, extent_of_slot, block_of-slot, slot_below}
use Rattle.plain_machine.specs.Machine.{Hardware, block_of_slot}
use Rattle.swsusp_cli.specs.Replay.{IsNeeded}

-- the block after an extent
abbrev pub blocks_end : ℕ × ℕ × ℕ → ℕ
blocks_end e = e.2 + e.1

-- The greatest end of the first i extents, which one of them has where there is one.
pub record IsGreatest (extents : List (ℕ × ℕ × ℕ)) (i need : ℕ) : Type 0 where
  pub each : (j : ℕ) → j < i → blocks_end (extent_at extents j) ≤ need
  pub none : i ≡ 0 → need ≡ 0
  pub one : 0 < i → (j : ℕ) × (j < i) × (blocks_end (extent_at extents j) ≡ need)

pub none_yet : (extents : List (ℕ × ℕ × ℕ)) → IsGreatest extents 0 0
none_yet extents = record { each = λ j lt. absurd (omega arith); none = λ e. refl; one = λ lt. absurd (omega arith) }

earlier_or_this : (extents : List (ℕ × ℕ × ℕ)) (i j need next : ℕ) → IsGreatest extents i need → need ≤ next → blocks_end (extent_at extents i) ≤ next → j < i + 1 → blocks_end (extent_at extents j) ≤ next
earlier_or_this extents i j need next h more this lt = elim (cases_lt j i) [
  | inl before ↦ let low = h.each j before in omega arith
  | inr ge ↦ let same : j ≡ i = omega arith in let at = ap (λ (k : ℕ). blocks_end (extent_at extents k)) same in omega arith
]

-- the greater of two numbers
greater : (a b : ℕ) (less same : Bool) → cond (is_lt (cond less Less (cond same Equal Greater))) a b ≡ cond less a b
greater a b true same = refl
greater a b false true = refl
greater a b false false = refl

pub one_more : (extents : List (ℕ × ℕ × ℕ)) (i need next : ℕ) → IsGreatest extents i need → next ≡ ord_max nat_cmp need (blocks_end (extent_at extents i)) → IsGreatest extents (i + 1) next
one_more extents i need next h is =
    let end = blocks_end (extent_at extents i) in
    let picked : next ≡ cond (nat_lt end need) need end = is ∙ greater need end (nat_lt end need) (eqb end need) in
    elim (cases_lt end need) [
      | inl less ↦
          let still : next ≡ need = picked ∙ cond-true (nat_lt end need) need end (lt-ltb end need less) in
          record {
            each = λ j lt. earlier_or_this extents i j need next h (omega arith) (omega arith) lt;
            none = λ e. absurd (omega arith);
            one = λ lt. elim (cases_lt 0 i) [
              | inl some ↦ let (k, below, at) = h.one some in (k, omega arith, at ∙ sym still)
              | inr first ↦ let zero_is = h.none (omega arith) in absurd (omega arith)
            ];
          }
      | inr most ↦
          let this : next ≡ end = picked ∙ cond-false (nat_lt end need) need end (le-ltb end need most) in
          record {
            each = λ j lt. earlier_or_this extents i j need next h (omega arith) (omega arith) lt;
            none = λ e. absurd (omega arith);
            one = λ lt. (i, omega arith, sym this);
          }
    ]

-- If the extents are a machine's, their greatest end is what its disk needs.
pub needed : (h : Hardware) (need : ℕ) → IsFileMap h.extents h.slots → IsGreatest h.extents (length h.extents) need → IsNeeded h need
needed h need map greatest =
    let some = map.count.some in
    let (j, within, at) = greatest.one (omega arith) in
    let has_one = (map.each j within).some in
    let e = extent_at h.extents j in
    let s = e.0 + (e.1 - 1) in
    let has : HasSlot h.extents j s = record { within = within; from = omega arith; below = omega arith } in
    let last : block_of_slot h s ≡ e.2 + (s - e.0) = block_of-slot h.extents h.slots j s map has in
    record {
      enough = λ t lt.
          let (i, of) = extent_of_slot h.extents h.slots t map lt in
          let block = block_of-slot h.extents h.slots i t map of in
          let from = of.from in
          let below = of.below in
          let low = greatest.each i of.within in
          omega arith;
      furthest = s;
      is_slot = slot_below h.extents h.slots j s map has;
      last = omega arith;
    }
