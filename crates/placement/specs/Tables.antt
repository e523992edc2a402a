-- How pending moves are kept: in tables over page frames.
use Rattle.std.specs.Prelude.{◌≡◌, ℕ, ◌+◌, ◌*◌, ◌<◌, ◌≤◌, false, length, take, Option, Some, None, slice_index_or}
use Rattle.definitions.specs.Moves.{Move, Pass, move_into, is_source}
use Rattle.placement.specs.Pending.{IsPending}
use Rattle.placement.specs.declared.relocation.order.Order.{Order}

abbrev pub source_of : Option Move → Option ℕ
source_of None = None
source_of (Some m) = Some m.0

-- The tables have the pending moves of this pass, and the moves in order are those that it emitted.
pub record IsAt (o : Order) (pass : Pass) : Type 0 where
  pub sources : (p : ℕ) → p < o.top → slice_index_or o.sources.items p None ≡ source_of (move_into pass.pending p)
  pub leaves : (p : ℕ) → p < o.top → slice_index_or o.leaves.items p false ≡ is_source pass.pending p
  pub count : o.pending ≡ length pass.pending
  pub emitted : take o.len o.moves.items ≡ pass.emitted
  pub len : o.len ≤ length o.moves.items
  pub pending : IsPending pass.pending
  pub below : (p : ℕ) (m : Move) → move_into pass.pending p ≡ Some m → (m.0 < o.top) × (m.1 < o.top)
  pub targets_size : length o.sources.items ≡ o.top
  pub sources_size : length o.leaves.items ≡ o.top

-- the tables have the pending moves of some pass
pub record HasPass (o : Order) : Type 0 where
  pub pass : Pass
  pub at : IsAt o pass

-- There is room for two moves in the order for each pending move.
abbrev pub HasRoom : Order → Type 0
HasRoom o = o.len + 2 * o.pending ≤ length o.moves.items

-- If the tables were at some pass, they are now at f of that pass.
pub record Follows (old new : Order) (f : Pass → Pass) : Type 0 where
  pub top : new.top ≡ old.top
  pub room : length new.moves.items ≡ length old.moves.items
  pub at : (pass : Pass) → IsAt old pass → IsAt new (f pass)

-- The tables have an entry for each page frame below the top, and there is room for two moves in the order for each.
pub record IsSized (o : Order) : Type 0 where
  pub sources : length o.sources.items ≡ o.top
  pub leaves : length o.leaves.items ≡ o.top
  pub moves : length o.moves.items ≡ 2 * o.top
