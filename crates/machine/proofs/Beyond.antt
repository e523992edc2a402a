-- Which slots lie beyond a disk.
use Rattle.std.proofs.Common.{◌≡◌, ℕ, ◌+◌, ◌-◌, ◌<◌, ◌≤◌, ◌⊎◌, suc, not, nat_lt, List, length, ap, inl, inr, arith}
use Rattle.std.proofs.lemmas.Bool.{cases_lt}
use Rattle.std.proofs.lemmas.Bool.Decides.{Decides-like, Decides-ltb, Decides-not}
use Rattle.std.specs.Bool.{Decides}
use Rattle.std.specs.List.{Contains, list_any, range_with_len}
use Rattle.definitions.specs.Slots.{block_of, extent_at}
use Rattle.definitions.specs.FileMaps.{IsFileMap}
use Rattle.definitions.proofs.FileMaps.{HasSlot, block_of-extent, block_of-slot, ends_before, extent_of_slot, slot_below}
use Rattle.definitions.proofs.ZoneNumbers.{Contains-range, range-bounds}
use Rattle.machine.specs.Usable.{Passes}
use Rattle.machine.proofs.ListTests.{Decides-any}

-- one of these extents passes
abbrev pub SomePasses : List (ℕ × ℕ × ℕ) → ℕ → ℕ → Type 0
SomePasses extents last blocks = (i : ℕ) × (i < length extents) × Passes (extent_at extents i) last blocks

-- a slot up to `last` lies beyond
abbrev SomeBeyond : List (ℕ × ℕ × ℕ) → ℕ → ℕ → Type 0
SomeBeyond extents last blocks = (s : ℕ) × Contains (range_with_len 0 (last + 1)) s × (block_of extents s < blocks → ⊥)

-- the first slot of an extent that lies beyond
of_passing : (extents : List (ℕ × ℕ × ℕ)) (slots last blocks : ℕ) → IsFileMap extents slots → SomePasses extents last blocks → SomeBeyond extents last blocks
of_passing extents slots last blocks map passing =
    let i = passing.0 in
    let within = passing.1 in
    let some = passing.2.0 in
    let up_to = passing.2.1 in
    let e = extent_at extents i in
    let s = e.0 + (blocks - e.2) in
    let at : HasSlot extents i s = record { within = within; from = omega arith; below = omega arith } in
    let is = block_of-slot extents slots i s map at in
    (s, Contains-range 0 (last + 1) s (omega arith) (omega arith), λ lt. omega arith)

-- a slot past the last extent lies where that extent would go on
past_last : (extents : List (ℕ × ℕ × ℕ)) (slots s : ℕ) → IsFileMap extents slots → slots ≤ s → let e = extent_at extents (length extents - 1) in (block_of extents s ≡ e.2 + (s - e.0)) × (e.0 ≤ s)
past_last extents slots s map past =
    let some = map.count.some in
    let n = length extents - 1 in
    let last : n < length extents = omega arith in
    let some_slots = (map.each n last).some in
    let below = slot_below extents slots n ((extent_at extents n).0) map (record { within = last; from = omega arith; below = omega arith }) in (
      block_of-extent extents n s last
          (λ j lt. elim (cases_lt (suc j) n) [
            | inl low ↦ let le = ends_before extents (suc j) n map.each low last in omega arith
            | inr ge ↦ let same : suc j ≡ n = omega arith in let start = ap (λ (k : ℕ). (extent_at extents k).0) same in omega arith
          ])
          (λ more. absurd (omega arith)),
      omega arith,
    )

beyond_from : (extents : List (ℕ × ℕ × ℕ)) (slots last blocks : ℕ) → IsFileMap extents slots → SomeBeyond extents last blocks → (blocks ≤ block_of extents last) ⊎ SomePasses extents last blocks
beyond_from extents slots last blocks map some =
    let s = some.0 in
    let bounds = range-bounds 0 (last + 1) s some.1 in
    let up_to = bounds.1 in
    let beyond : blocks ≤ block_of extents s = elim (cases_lt (block_of extents s) blocks) [ inl lt ↦ absurd (some.2 lt) | inr le ↦ le ] in
    elim (cases_lt s slots) [
      | inl lt ↦
          let at = extent_of_slot extents slots s map lt in
          let is = block_of-slot extents slots at.0 s map at.1 in
          let from = at.1.from in
          let below = at.1.below in
          inr (at.0, at.1.within, (omega arith, omega arith))
      | inr past ↦
          let here = past_last extents slots s map past in
          let there = past_last extents slots last map (omega arith) in
          let here_is = here.0 in
          let there_is = there.0 in
          let from = here.1 in
          inl (omega arith)
    ]

beyond_to : (extents : List (ℕ × ℕ × ℕ)) (slots last blocks : ℕ) → IsFileMap extents slots → (blocks ≤ block_of extents last) ⊎ SomePasses extents last blocks → SomeBeyond extents last blocks
beyond_to extents slots last blocks map (inl le) = (last, Contains-range 0 (last + 1) last (omega arith) (omega arith), λ lt. omega arith)
beyond_to extents slots last blocks map (inr passing) = of_passing extents slots last blocks map passing

-- some slot fails its test if and only if the last slot lies beyond the disk, or an extent does
pub decides_beyond : (extents : List (ℕ × ℕ × ℕ)) (slots last blocks : ℕ) → IsFileMap extents slots →
    Decides (list_any (λ s. not (nat_lt (block_of extents s) blocks)) (range_with_len 0 (last + 1))) ((blocks ≤ block_of extents last) ⊎ SomePasses extents last blocks)
decides_beyond extents slots last blocks map =
    let test = λ (s : ℕ). not (nat_lt (block_of extents s) blocks) in
    Decides-like (list_any test (range_with_len 0 (last + 1))) (beyond_from extents slots last blocks map) (beyond_to extents slots last blocks map)
    (Decides-any test (λ s. block_of extents s < blocks → ⊥) (range_with_len 0 (last + 1))
    (λ s. Decides-not (nat_lt (block_of extents s) blocks) (Decides-ltb (block_of extents s) blocks)))
