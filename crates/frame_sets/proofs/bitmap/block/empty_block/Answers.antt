use Rattle.std.proofs.Common.{◌≡◌, ℕ, ◌/◌, ◌%◌, ◌≤◌, get_or, replicate, sym, subst, ap, ◌∙◌, inl, inr}
use Rattle.std.proofs.lemmas.Bool.{cases_lt}
use Rattle.std.proofs.lemmas.List.{get_or-replicate, get_or_past, length-replicate}
use Rattle.std.proofs.lemmas.Nat.Bits.{bit_at-zero}
use Rattle.std.specs.Int.{bit_at}
use Rattle.frame_sets.specs.Bits.{bit_of}
use Rattle.frame_sets.proofs.bitmap.block.empty_block.Goals as goal

bit_of-zeros : (n k : ℕ) → bit_of (replicate n 0) k ≡ 0
bit_of-zeros n k =
    let word : get_or (replicate n 0) (k / 64) 0 ≡ 0 = elim (cases_lt (k / 64) n) [
      | inl lt ↦ get_or-replicate n (k / 64) 0 0 lt
      | inr ge ↦ get_or_past (replicate n 0) (k / 64) 0 (subst (λ (m : ℕ). m ≤ k / 64) (sym (length-replicate {A = ℕ} n 0)) ge)
    ] in
    ap (λ w. bit_at w (k % 64)) word ∙ bit_at-zero (k % 64)

pub returns : goal.returns
returns c k = bit_of-zeros 512 k
