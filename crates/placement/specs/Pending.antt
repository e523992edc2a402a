-- Pending moves: a list of moves with distinct targets is a map from page frames to sources.
use Rattle.std.specs.Prelude.{◌≡◌, ◌≢◌, ◌<◌, ℕ, List, [], ◌∷◌, Some, None}
use Rattle.definitions.specs.Moves.{Move, Pass, move_into}
use Rattle.placement.specs.Performing.{real_moves}

-- no two moves have the same target
abbrev pub TargetsOnce : List Move → Type 0
TargetsOnce [] = Unit {0}
TargetsOnce (m ∷ moves) = (move_into moves m.1 ≡ None) × TargetsOnce moves

-- Pending moves: the targets are distinct, and so are the sources.
pub record IsPending (moves : List Move) : Type 0 where
  pub targets : TargetsOnce moves
  pub sources : (p q : ℕ) (m n : Move) → move_into moves p ≡ Some m → move_into moves q ≡ Some n → m.0 ≡ n.0 → p ≡ q

-- Moves between page frames below `top`, with distinct sources and distinct targets. None uses the bounce frame.
pub record IsMovable (top bounce : ℕ) (moves : List Move) : Type 0 where
  pub pending : IsPending moves
  pub below : (p : ℕ) (m : Move) → move_into moves p ≡ Some m → (m.0 < top) × (m.1 < top)
  pub source : (p : ℕ) (m : Move) → move_into moves p ≡ Some m → m.0 ≢ bounce
  pub target : move_into moves bounce ≡ None

-- nothing is emitted yet
abbrev pub begun : List Move → Pass
begun moves = record { emitted = []; pending = real_moves moves }
