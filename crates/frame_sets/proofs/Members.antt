-- The members of a bitmap by its bits, and how they change with a bit.
use Rattle.std.proofs.Common.{◌≡◌, ℕ, ◌-◌, ◌<◌, List, [], length, set, ltb, sym, ap, ◌∙◌, subst, inl, inr, arith}
use Rattle.std.proofs.lemmas.Bool.{cases_eq, lt-ltb, le-ltb, eq-eqb, eqb-true}
use Rattle.std.proofs.lemmas.List.{get_or-set_same, get_or-set_other}
use Rattle.std.proofs.lemmas.List.Sums.{position_or_len_is}
use Rattle.std.proofs.lemmas.List.Kept.{IsStrictlyIncreasing-filter}
use Rattle.std.specs.List.{Contains}
use Rattle.std.specs.List.Sorted.{IsStrictlyIncreasing}
use Rattle.definitions.specs.Zones.{numbers, zone_end, zone_at}
use Rattle.definitions.specs.ZoneFacts.{AreApart, InZone}
use Rattle.definitions.specs.FrameSets.{inserted, removed}
use Rattle.definitions.proofs.Ascending.{same_members}
use Rattle.definitions.proofs.FrameSets.{Contains-filter, Contains-from_filter, Contains-inserted, Contains-inserted_itself, Contains-from_inserted, IsStrictlyIncreasing-inserted, Contains-removed, Contains-from_removed, IsStrictlyIncreasing-removed}
use Rattle.definitions.proofs.ZoneNumbers.{zone_of, zones_apart, Contains-numbers, IsStrictlyIncreasing-numbers}
use Rattle.frame_sets.specs.Bits.{bit_of, ChangesBit}
use Rattle.frame_sets.specs.KeptBitmap.{block_of, bits_at, has_number, members_of}

-- The block of a page frame.

pub block_of-InZone : (runs : List (ℕ × ℕ)) (p b : ℕ) → AreApart runs → InZone runs p b → block_of runs p ≡ b
block_of-InZone runs p b apart at =
    let within = at.within in
    let from = at.from in
    position_or_len_is (λ run. ltb p (zone_end run)) runs b (0, 0) (omega arith)
    (λ k lt. let below = zones_apart runs apart k b lt within in le-ltb p (zone_end (zone_at runs k)) (omega arith))
    (λ _. lt-ltb p (zone_end (zone_at runs b)) at.below)

-- Members by their bits.

-- the bit of p in block b
abbrev pub bit_in : List (ℕ × ℕ) → List (List ℕ) → ℕ → ℕ → ℕ
bit_in runs bits p b = bit_of (bits_at bits b) (p - (zone_at runs b).0)

pub Contains-members_of : (runs : List (ℕ × ℕ)) (bits : List (List ℕ)) (p b : ℕ) → AreApart runs → InZone runs p b → bit_in runs bits p b ≡ 1 → Contains (members_of runs bits) p
unfolding members_of
Contains-members_of runs bits p b apart at one =
    let block = block_of-InZone runs p b apart at in
    Contains-filter (has_number runs bits) (numbers runs) p (Contains-numbers runs b p at.within at.from at.below)
    (eq-eqb (bit_in runs bits p (block_of runs p)) 1 (ap (bit_in runs bits p) block ∙ one))

pub block_of_member : (runs : List (ℕ × ℕ)) (bits : List (List ℕ)) (p : ℕ) → AreApart runs → Contains (members_of runs bits) p → (b : ℕ) × InZone runs p b × (bit_in runs bits p b ≡ 1)
unfolding members_of
block_of_member runs bits p apart in' =
    let kept = Contains-from_filter (has_number runs bits) (numbers runs) p in' in
    let at = zone_of runs p kept.0 in
    let block = block_of-InZone runs p at.0 apart at.1 in
    (at.0, at.1, ap (bit_in runs bits p) (sym block) ∙ eqb-true (bit_in runs bits p (block_of runs p)) 1 kept.1)

pub bit_of_member : (runs : List (ℕ × ℕ)) (bits : List (List ℕ)) (p b : ℕ) → AreApart runs → InZone runs p b → Contains (members_of runs bits) p → bit_in runs bits p b ≡ 1
bit_of_member runs bits p b apart at in' =
    let m = block_of_member runs bits p apart in' in
    let same : m.0 ≡ b = sym (block_of-InZone runs p m.0 apart m.1) ∙ block_of-InZone runs p b apart at in
    ap (bit_in runs bits p) (sym same) ∙ m.2

pub valid_member : (runs : List (ℕ × ℕ)) (bits : List (List ℕ)) (p : ℕ) → Contains (members_of runs bits) p → Contains (numbers runs) p
unfolding members_of
valid_member runs bits p in' = (Contains-from_filter (has_number runs bits) (numbers runs) p in').0

pub IsStrictlyIncreasing-members_of : (runs : List (ℕ × ℕ)) (bits : List (List ℕ)) → AreApart runs → IsStrictlyIncreasing (members_of runs bits)
unfolding members_of
IsStrictlyIncreasing-members_of runs bits apart = IsStrictlyIncreasing-filter (has_number runs bits) (numbers runs) (IsStrictlyIncreasing-numbers runs apart)

-- A bit that changes.

-- in block b the bit of p is now v
pub record Changed (runs : List (ℕ × ℕ)) (bits : List (List ℕ)) (p b v : ℕ) (block : List ℕ) : Type 0 where
  pub apart : AreApart runs
  pub at : InZone runs p b
  pub within : b < length bits
  pub change : ChangesBit (p - (zone_at runs b).0) v (bits_at bits b) block

pub bit_in-this : (runs : List (ℕ × ℕ)) (bits : List (List ℕ)) (p b v : ℕ) (block : List ℕ) → Changed runs bits p b v block → bit_in runs (set bits b block) p b ≡ v
bit_in-this runs bits p b v block h = ap (λ w. bit_of w (p - (zone_at runs b).0)) (get_or-set_same bits b block [] h.within) ∙ h.change.this

pub bit_in-other : (runs : List (ℕ × ℕ)) (bits : List (List ℕ)) (p b v : ℕ) (block : List ℕ) (q d : ℕ) → Changed runs bits p b v block → InZone runs q d → (q ≡ p → ⊥) → bit_in runs (set bits b block) q d ≡ bit_in runs bits q d
bit_in-other runs bits p b v block q d h at ne = elim (cases_eq d b) [
  | inl e ↦
      let k = q - (zone_at runs d).0 in
      let q_from = at.from in
      let p_from = h.at.from in
      let apart : k ≡ p - (zone_at runs b).0 → ⊥ = λ same. ne (let starts = ap (λ j. (zone_at runs j).0) e in omega arith) in
      ap (λ j. bit_of (bits_at (set bits b block) j) k) e
      ∙ ap (λ w. bit_of w k) (get_or-set_same bits b block [] h.within)
      ∙ h.change.others k apart
      ∙ ap (λ j. bit_of (bits_at bits j) k) (sym e)
  | inr ne_b ↦ ap (λ w. bit_of w (q - (zone_at runs d).0)) (get_or-set_other bits b d block [] ne_b)
]

pub members_of-set : (runs : List (ℕ × ℕ)) (bits : List (List ℕ)) (p b : ℕ) (block : List ℕ) → Changed runs bits p b 1 block → members_of runs (set bits b block) ≡ inserted (members_of runs bits) p
members_of-set runs bits p b block h =
    let old = members_of runs bits in
    let new = members_of runs (set bits b block) in
    let up = IsStrictlyIncreasing-members_of runs bits h.apart in
    same_members new (inserted old p) (IsStrictlyIncreasing-members_of runs (set bits b block) h.apart) (IsStrictlyIncreasing-inserted old p up)
    (λ q in'. elim (cases_eq q p) [
      | inl e ↦ subst (λ (x : ℕ). Contains (inserted old p) x) (sym e) (Contains-inserted_itself old p)
      | inr ne ↦
          let m = block_of_member runs (set bits b block) q h.apart in' in
          Contains-inserted old p q (Contains-members_of runs bits q m.0 h.apart m.1 (sym (bit_in-other runs bits p b 1 block q m.0 h m.1 ne) ∙ m.2))
    ])
    (λ q in'. elim (cases_eq q p) [
      | inl e ↦ subst (λ (x : ℕ). Contains new x) (sym e) (Contains-members_of runs (set bits b block) p b h.apart h.at (bit_in-this runs bits p b 1 block h))
      | inr ne ↦ elim (Contains-from_inserted old p q in') [
        | inl e ↦ absurd (ne e)
        | inr was ↦
            let m = block_of_member runs bits q h.apart was in
            Contains-members_of runs (set bits b block) q m.0 h.apart m.1 (bit_in-other runs bits p b 1 block q m.0 h m.1 ne ∙ m.2)
      ]
    ])

pub members_of-clear : (runs : List (ℕ × ℕ)) (bits : List (List ℕ)) (p b : ℕ) (block : List ℕ) → Changed runs bits p b 0 block → members_of runs (set bits b block) ≡ removed (members_of runs bits) p
members_of-clear runs bits p b block h =
    let old = members_of runs bits in
    let new = members_of runs (set bits b block) in
    let up = IsStrictlyIncreasing-members_of runs bits h.apart in
    same_members new (removed old p) (IsStrictlyIncreasing-members_of runs (set bits b block) h.apart) (IsStrictlyIncreasing-removed old p up)
    (λ q in'.
    let m = block_of_member runs (set bits b block) q h.apart in' in
    let ne : q ≡ p → ⊥ = λ e.
    let is = subst (λ (x : ℕ). Contains new x) e in' in
    let one = bit_of_member runs (set bits b block) p b h.apart h.at is in
    let none = bit_in-this runs bits p b 0 block h in
    omega arith in
    Contains-removed old p q (Contains-members_of runs bits q m.0 h.apart m.1 (sym (bit_in-other runs bits p b 0 block q m.0 h m.1 ne) ∙ m.2)) ne)
    (λ q in'.
    let was = Contains-from_removed old p q in' in
    let m = block_of_member runs bits q h.apart was.0 in
    Contains-members_of runs (set bits b block) q m.0 h.apart m.1 (bit_in-other runs bits p b 0 block q m.0 h m.1 was.1 ∙ m.2))
