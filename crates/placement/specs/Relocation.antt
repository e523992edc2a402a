-- A restore list that is ready to be performed.
use Rattle.std.specs.Prelude.{◌≡◌, ◌≢◌, ◌<◌, ◌≤◌, ◌/◌, ℕ, ◌+◌, List, length, sum_by, All, Contains}
use Rattle.definitions.specs.Moves.{Entry, assigned, order_of_moves}
use Rattle.definitions.specs.Tables.{frame}
use Rattle.definitions.specs.Zones.{top}
use Rattle.placement.specs.Listed.{Listed, LiesIn}
use Rattle.placement.specs.Placed.{Placed, IsPlacement}
use Rattle.placement.specs.Joining.{LiesBelow}
use Rattle.placement.specs.Performing.{real_moves}

-- the restore list of a placement
abbrev pub order_of : Placed → List Entry
order_of p = order_of_moves (top p.zones) p.bounce p.moves

-- the entry writes none of these page frames
abbrev pub Spares : List ℕ → Entry → Type 0
Spares list e = (p : ℕ) → e.1 ≤ p → p < e.1 + e.2 → Contains list p → ⊥

-- Each entry moves a run among the page frames of memory, and writes no list frame.
pub record IsPerformable (size : ℕ) (list : List ℕ) (entries : List Entry) : Type 0 where
  pub below : All (LiesBelow size) entries
  pub spares : All (Spares list) entries

-- Memory holds a restore list that may be performed.
pub record IsReady (memory : List (List ℕ)) (listed : Listed) : Type 0 where
  pub entries : List Entry
  pub lies : LiesIn memory listed entries
  pub performable : IsPerformable (length memory) listed.frames entries

-- how many pages these entries copy
abbrev pub steps_of : List Entry → ℕ
steps_of entries = sum_by (λ e. e.2) entries

-- If memory held a placement's list, its moves had the effect of moves made at once, except on the bounce frame.
abbrev pub Relocates : List (List ℕ) → List (List ℕ) → Listed → Type 0
Relocates old new listed =
    (p : Placed) → IsPlacement p → top p.zones ≤ length old → LiesIn old listed (order_of p) →
    (q : ℕ) → q ≢ p.bounce → frame new q ≡ frame (assigned old p.moves) q

-- the most steps: one for each move, and one more for each cycle, which has at least two moves
abbrev pub most_steps : Placed → ℕ
most_steps p = length (real_moves p.moves) + length (real_moves p.moves) / 2
