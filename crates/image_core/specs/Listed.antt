-- Program headers of runs, written as the numbers come.
use Rattle.std.specs.Prelude.{◌≡◌, ℕ, ◌+◌, ◌*◌, ◌<◌, ◌^◌, List, ◌++◌, length, All, Option, sum_by}
use Rattle.definitions.specs.FreeRuns.{runs_of}
use Rattle.definitions.specs.Streams.{TakesAll, TakesFront}
use Rattle.elf_core.specs.Elf.{loads_bytes}
use Rattle.image_core.specs.Runs.{HasEnded}
use Rattle.image_core.specs.declared.loads.Loads.{Loads}

-- how many page frames some runs have
abbrev pub frames_in : List (ℕ × ℕ) → ℕ
frames_in runs = sum_by (λ (run : ℕ × ℕ). run.1) runs

-- the program headers of the runs that have ended were written; the pages lie from a place on
pub record AreListed (start : ℕ) (numbers : List ℕ) (loads : Loads) (old new : Option (List ℕ)) : Type 0 where
  pub ended : List (ℕ × ℕ)
  pub has : HasEnded numbers loads.counter ended
  pub offset : loads.offset ≡ start + 4096 * frames_in ended
  pub taken : TakesAll (loads_bytes start ended) old new

-- the numbers are those of page frames, and there aren't too many
pub record CanList (start : ℕ) (numbers : List ℕ) : Type 0 where
  pub place : start < 2 ^ 40
  pub few : length numbers < 4294967295
  pub small : All (λ (n : ℕ). n < 2 ^ 52) numbers

-- a prefix of the program headers was written, whatever numbers follow
abbrev pub IsListFront : ℕ → List ℕ → (old new : Option (List ℕ)) → Type 0
IsListFront start numbers old new =
    (more : List ℕ) → TakesFront (loads_bytes start (runs_of (numbers ++ more))) old new
