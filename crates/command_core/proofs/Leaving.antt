-- Over two changes a block is left, where each leaves it.
use Rattle.std.proofs.Common.{inl, inr, ◌<◌, ℕ, List, [], length, slice_index_or, Contains, subst, arith}
use Rattle.std.proofs.lemmas.Bool.{cases_lt}
use Rattle.std.proofs.lemmas.List.{get_or_past}
use Rattle.definitions.specs.Disk as disk
use Rattle.protocol_laws.specs.Rows.{LeavesBlock}
use Rattle.protocol_laws.proofs.Inside.{left_candidate}

none_in : (x : List ℕ) → Contains [] x → ⊥
none_in x (k, lt, e) = omega arith

pub inside_of : (s : ℕ) (d : disk.Content) (x : List ℕ) → Contains (disk.sector d s).candidates x → s < length d
inside_of s d x in' = elim (cases_lt s (length d)) [
  | inl lt ↦ lt
  | inr le ↦ absurd (none_in x (subst (λ (k : disk.Sector). Contains k.candidates x) (get_or_past d s disk.no_sector le) in'))
]

pub leaves_then : (blocks b : ℕ) (c d e : disk.Content) → disk.IsContent blocks d → LeavesBlock b c d → LeavesBlock b d e → LeavesBlock b c e
leaves_then blocks b c d e whole first then = record {
  leaves = λ v s in' lt low high.
      let x = slice_index_or v s [] in
      let within = then.leaves v s in' lt low high in
      left_candidate blocks b s c d x whole first low high (inside_of s d x within) within;
}
