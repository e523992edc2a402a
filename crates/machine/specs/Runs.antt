-- Runs of page frames, each given by its first page frame and its length.
use Rattle.std.specs.Prelude.{◌≤◌, ◌⊎◌, ℕ, ◌+◌}

-- one of two runs lies below the other
abbrev pub LieApart : ℕ × ℕ → ℕ × ℕ → Type 0
LieApart a b = (a.0 + a.1 ≤ b.0) ⊎ (b.0 + b.1 ≤ a.0)

-- the run of a region (first page frame, count, flags)
abbrev pub frames_of : ℕ × ℕ × ℕ → ℕ × ℕ
frames_of r = (r.0, r.1)
