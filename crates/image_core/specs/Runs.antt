-- Runs of numbers that are counted.
use Rattle.std.specs.Prelude.{◌≡◌, ℕ, List, length}
use Rattle.image_show.specs.Runs.{IsUpTo}
use Rattle.image_core.specs.declared.counter.RunCounter.{RunCounter}

-- these runs of the numbers have ended; the last one may go on
pub record HasEnded (numbers : List ℕ) (counter : RunCounter) (ended : List (ℕ × ℕ)) : Type 0 where
  pub runs : IsUpTo numbers counter.runs.last ended
  pub count : counter.ended ≡ length ended
