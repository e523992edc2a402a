-- How many of the bytes that a sink took were flushed. `None` stands for what a sink doesn't tell.
use Rattle.std.specs.Prelude.{◌≡◌, ℕ, List, length, Option, Some, None, ⊤}

-- all that was taken was flushed
abbrev pub IsFlushed : Option (List ℕ) → Option ℕ → Type 0
IsFlushed None flushed = ⊤
IsFlushed (Some taken) None = ⊤
IsFlushed (Some taken) (Some flushed) = flushed ≡ length taken
