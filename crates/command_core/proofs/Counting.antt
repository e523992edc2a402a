-- How a count of faults rises over events after events.
use Rattle.std.proofs.Common.{◌⊎◌, inl, inr, ◌≤◌, ℕ, arith}
use Rattle.std.proofs.lemmas.Bool.{cases_lt}
use Rattle.definitions.specs.Disk as disk

pub risen_then : (earlier fault : Type 0) (first before now : ℕ) → first ≤ before → before ≤ now → (earlier → disk.HasRisen first before) → (fault → disk.HasRisen before now) → earlier ⊎ fault → disk.HasRisen first now
risen_then earlier fault first before now so_far later risen rises (inl is) = elim (risen is) [
  | inl lt ↦ inl (omega arith)
  | inr last ↦ elim (cases_lt before now) [
    | inl lt ↦ inl (omega arith)
    | inr le ↦ inr (omega arith)
  ]
]
risen_then earlier fault first before now so_far later risen rises (inr is) = elim (rises is) [
  | inl lt ↦ inl (omega arith)
  | inr last ↦ inr last
]
