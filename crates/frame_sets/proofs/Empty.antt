-- A bitmap whose bits are all 0.
use Rattle.std.proofs.Common.{◌≡◌, ℕ, ◌-◌, ◌%◌, List, [], ◌∷◌, length, get_or, refl, sym, ap, ◌∙◌, inl, inr, arith}
use Rattle.std.proofs.lemmas.Bool.{cases_lt}
use Rattle.std.proofs.lemmas.List.{get_or_past}
use Rattle.std.proofs.lemmas.Nat.Bits.{bit_at-zero}
use Rattle.std.specs.List.{All, Contains}
use Rattle.definitions.specs.ZoneFacts.{AreZones, AreApart}
use Rattle.definitions.specs.FrameSets.{blocks}
use Rattle.definitions.proofs.Ascending.{Contains-head}
use Rattle.frame_sets.specs.declared.bitmap.Bitmap.TheInside.{Inside}
use Rattle.frame_sets.specs.Bits.{bit_of, IsEmptyBlock}
use Rattle.frame_sets.specs.KeptBitmap.{bits_at, members_of, IsKept}
use Rattle.frame_sets.proofs.Members.{block_of_member}

pub no_bit : (bits : List (List ℕ)) → All IsEmptyBlock bits → (j k : ℕ) → bit_of (bits_at bits j) k ≡ 0
no_bit bits h j k = elim (cases_lt j (length bits)) [
  | inl lt ↦ h j [] lt k
  | inr ge ↦ ap (λ ws. bit_of ws k) (get_or_past bits j [] ge) ∙ bit_at-zero (k % 64)
]

nil_without_members : (xs : List ℕ) → ((x : ℕ) → Contains xs x → ⊥) → xs ≡ []
nil_without_members [] none = refl
nil_without_members (x ∷ xs) none = absurd (none x (Contains-head x xs))

pub members_of-empty : (runs : List (ℕ × ℕ)) (bits : List (List ℕ)) → AreApart runs → All IsEmptyBlock bits → members_of runs bits ≡ []
members_of-empty runs bits apart h = nil_without_members (members_of runs bits) (λ p in'.
    let m = block_of_member runs bits p apart in' in
    let one = m.2 in
    let zero_is = no_bit bits h m.0 (p - (get_or runs m.0 (0, 0)).0) in
    omega arith)

pub IsKept-empty : (b : Inside) → AreZones b.zones → AreApart b.runs.items → b.runs.items ≡ blocks b.zones → length b.bits.items ≡ length b.runs.items → All IsEmptyBlock b.bits.items → b.len ≡ 0 → IsKept b
IsKept-empty b zones apart runs count empty len = record {
  zones = zones;
  runs = runs;
  bits = count;
  past = λ j k one. absurd (let none = no_bit b.bits.items empty j k in omega arith);
  len = len ∙ ap length (sym (members_of-empty b.runs.items b.bits.items apart empty));
}
