-- Slots past those that the extents cover: the last extent goes on.
use Rattle.std.proofs.Common.{◌≡◌, ℕ, ◌+◌, ◌-◌, ◌<◌, ◌≤◌, suc, List, length, sym, ap, ◌∙◌, inl, inr, arith}
use Rattle.std.proofs.lemmas.Bool.{cases_lt}
use Rattle.definitions.specs.Slots.{block_of, extent_at, extent_end, slots_before}
use Rattle.definitions.specs.FileMaps.{IsFileMap}
use Rattle.definitions.proofs.FileMaps.{block_of-extent, ends_before}

-- where such a slot lies
pub past_end : (extents : List (ℕ × ℕ × ℕ)) (slots s : ℕ) → IsFileMap extents slots → slots ≤ s → (block_of extents s ≡ (extent_at extents (length extents - 1)).2 + (s - (extent_at extents (length extents - 1)).0)) × ((extent_at extents (length extents - 1)).0 < s)
past_end extents slots s h le =
    let some = h.count.some in
    let n = length extents - 1 in
    let last : length extents ≡ suc n = omega arith in
    let covers : extent_end (extent_at extents n) ≡ slots = ap (slots_before extents) (sym last) ∙ h.covers in
    let wide = (h.each n (omega arith)).some in (
      block_of-extent extents n s (omega arith)
          (λ j lt. elim (cases_lt (suc j) n) [
            | inl low ↦
                let some_j = (h.each (suc j) (omega arith)).some in
                let before = ends_before extents (suc j) n h.each low (omega arith) in
                omega arith
            | inr ge ↦ let same : suc j ≡ n = omega arith in let start = ap (λ (k : ℕ). (extent_at extents k).0) same in omega arith
          ])
          (λ more. absurd (omega arith)),
      omega arith,
    )

-- two of them are as far apart as their blocks
pub past_apart : (extents : List (ℕ × ℕ × ℕ)) (slots s t : ℕ) → IsFileMap extents slots → slots ≤ s → s ≤ t → block_of extents t ≡ block_of extents s + (t - s)
past_apart extents slots s t h le up =
    let low = past_end extents slots s h le in
    let high = past_end extents slots t h (omega arith) in
    let low_is = low.0 in
    let high_is = high.0 in
    let above = low.1 in
    omega arith
