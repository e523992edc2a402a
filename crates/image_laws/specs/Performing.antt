-- The entries of a restore list, performed one after another.
use Rattle.std.specs.Prelude.{◌≡◌, ◌≢◌, ℕ, ◌+◌, ◌<◌, ◌≤◌, List, [], ◌∷◌, length, map}
use Rattle.std.specs.List.{range_with_len}
use Rattle.definitions.specs.Moves.{Move, Entry, assigned, order_of_moves}
use Rattle.definitions.specs.Tables.{frame}
use Rattle.definitions.specs.FrameRuns.{run_at, with_run}

-- memory after these entries: each moves its run of pages, read before any of them is written
abbrev pub performed : List (List ℕ) → List Entry → List (List ℕ)
performed frames [] = frames
performed frames (e ∷ entries) = performed (with_run frames e.1 (run_at e.2 frames e.0)) entries

-- outside the bounce frame, these entries do one after another what the moves do at once
abbrev pub Realises : ℕ → List Entry → List Move → List (List ℕ) → Type 0
Realises bounce entries moves frames =
    (p : ℕ) → p ≢ bounce → frame (performed frames entries) p ≡ frame (assigned frames moves) p

-- so does the restore list of these moves, in any memory of at least the given number of page frames
abbrev pub RealisesMoves : ℕ → ℕ → ℕ → List Move → Type 0
RealisesMoves least top bounce moves =
    (frames : List (List ℕ)) → least ≤ length frames → Realises bounce (order_of_moves top bounce moves) moves frames

-- Two page frames a and b change places: a waits in the bounce frame.
abbrev pub RealisesSwap : ℕ → ℕ → ℕ → Type 0
RealisesSwap a b bounce =
    (frames : List (List ℕ)) → a < length frames → b < length frames → bounce < length frames → a ≢ b → bounce ≢ a →
    bounce ≢ b →
    Realises bounce ((a, bounce, 1) ∷ (b, a, 1) ∷ (bounce, b, 1) ∷ []) ((a, b) ∷ (b, a) ∷ []) frames

-- n page frames in a row move
abbrev pub run_of : ℕ → ℕ → ℕ → List Move
run_of from to n = map (λ i. (from + i, to + i)) (range_with_len 0 n)

-- One entry moves them, even if the places before and after overlap.
abbrev pub RealisesRun : ℕ → ℕ → ℕ → Type 0
RealisesRun from to n =
    (frames : List (List ℕ)) → from + n ≤ length frames → to + n ≤ length frames →
    (p : ℕ) → frame (performed frames ((from, to, n) ∷ [])) p ≡ frame (assigned frames (run_of from to n)) p

-- the worked examples: two page frames change places, and ten page frames move up by two
abbrev pub swap_of_two : List Move
swap_of_two = (20, 21) ∷ (21, 20) ∷ []

abbrev pub run_of_ten : List Move
run_of_ten = run_of 100 102 10
