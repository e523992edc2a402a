-- What flushing a sink keeps.
use Rattle.std.specs.Prelude.{◌≤◌, ℕ, List, length, Option, Some, None, ⊤}

-- no more bytes were flushed than were taken
abbrev pub IsOfTaken : Option (List ℕ) → Option ℕ → Type 0
IsOfTaken None flushed = ⊤
IsOfTaken (Some taken) None = ⊤
IsOfTaken (Some taken) (Some flushed) = flushed ≤ length taken

-- What was flushed stays flushed. Whether that is told doesn't change.
abbrev pub StaysFlushed : Option ℕ → Option ℕ → Type 0
StaysFlushed None None = ⊤
StaysFlushed None (Some new) = ⊥
StaysFlushed (Some old) None = ⊥
StaysFlushed (Some old) (Some new) = old ≤ new
