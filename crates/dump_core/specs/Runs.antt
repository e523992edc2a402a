-- Runs of page frames, each (first page frame, how many).
use Rattle.std.specs.Prelude.{ℕ, List, sum_by}

-- how many page frames some runs have
abbrev pub frames_in : List (ℕ × ℕ) → ℕ
frames_in runs = sum_by (λ (run : ℕ × ℕ). run.1) runs
