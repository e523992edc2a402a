-- Where loaded pages wait until they are moved to their own page frames, and the page frames that the restore list may
-- use (get_safe_page and the list of struct pbe, kernel/power/snapshot.c).
use Rattle.std.specs.Prelude.{◌≤◌, ◌*◌, ℕ, Bool, true, List, length, map, nat_eq, All, Contains}
use Rattle.std.specs.List.{IsDistinct}
use Rattle.definitions.specs.Moves.{Move}
use Rattle.definitions.specs.Zones.{numbers}
use Rattle.definitions.specs.ZoneFacts.{AreZones}

-- A move takes the page that waits in its source to its target, an original. The other fields mean something once the
-- placement is ready.
pub record Placed : Type 0 where
  pub zones : List (ℕ × ℕ)
  pub ready : Bool
  pub moves : List Move
  pub list : List ℕ
  pub bounce : ℕ

abbrev pub sources : List Move → List ℕ
sources moves = map (λ m. m.0) moves

abbrev pub targets : List Move → List ℕ
targets moves = map (λ m. m.1) moves

-- the ready placement of these moves, list frames and bounce frame
abbrev pub placed : List (ℕ × ℕ) → List Move → List ℕ → ℕ → Placed
placed zones moves list bounce = record { zones = zones; ready = true; moves = moves; list = list; bounce = bounce }

-- a page frame that no move names
pub record IsUnnamed (moves : List Move) (p : ℕ) : Type 0 where
  pub no_source : Contains (sources moves) p → ⊥
  pub no_target : Contains (targets moves) p → ⊥

-- Every page frame is valid; no two moves share a source, and no two a target. The list frames are distinct, and no
-- move names them or the bounce frame. The list frames suffice: each has 170 entries, and 85 moves make at most 170.
pub record IsPlacement (p : Placed) : Type 0 where
  pub zones : AreZones p.zones
  pub sources_valid : All (Contains (numbers p.zones)) (sources p.moves)
  pub targets_valid : All (Contains (numbers p.zones)) (targets p.moves)
  pub list_valid : All (Contains (numbers p.zones)) p.list
  pub bounce_valid : Contains (numbers p.zones) p.bounce
  pub sources_distinct : IsDistinct nat_eq (sources p.moves)
  pub targets_distinct : IsDistinct nat_eq (targets p.moves)
  pub list_distinct : IsDistinct nat_eq p.list
  pub list_unnamed : All (IsUnnamed p.moves) p.list
  pub bounce_unnamed : IsUnnamed p.moves p.bounce
  pub bounce_apart : Contains p.list p.bounce → ⊥
  pub room : length p.moves ≤ 85 * length p.list

-- a placement that takes only page frames of this set, for the pages that wait, the restore list and the bounce frame
pub record TakesFrom (set : List ℕ) (p : Placed) : Type 0 where
  pub sources_in : All (Contains set) (sources p.moves)
  pub list_in : All (Contains set) p.list
  pub bounce_in : Contains set p.bounce
