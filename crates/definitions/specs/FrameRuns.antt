-- Runs of page frames.
use Rattle.std.specs.Prelude.{ℕ, ◌+◌, List, ◌++◌, length, take, drop}

-- the contents of n page frames in a row from p on
abbrev pub run_at : ℕ → List (List ℕ) → ℕ → List (List ℕ)
run_at n frames p = take n (drop p frames)

-- the frames with these pages in the page frames from p on
unfoldable pub with_run : List (List ℕ) → ℕ → List (List ℕ) → List (List ℕ)
with_run frames p pages = take p frames ++ pages ++ drop (p + length pages) frames
