-- Entries of a restore list performed one after another.
use Rattle.std.specs.Prelude.{ℕ, ◌==◌, not, filter, List, [], ◌∷◌}
use Rattle.definitions.specs.Moves.{Move, Entry}
use Rattle.definitions.specs.FrameRuns.{run_at, with_run}

-- memory after these entries: each moves its run of pages, all read before any is written
abbrev pub performed : List (List ℕ) → List Entry → List (List ℕ)
performed frames [] = frames
performed frames (e ∷ entries) = performed (with_run frames e.1 (run_at e.2 frames e.0)) entries

-- the moves whose source isn't their target
abbrev pub real_moves : List Move → List Move
real_moves moves = filter (λ m. not (m.0 == m.1)) moves
