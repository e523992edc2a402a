-- Runs that moves are joined to.
use Rattle.std.specs.Prelude.{ℕ, ◌+◌, ◌≤◌, ◌||◌, Option, Some, None, if◌then◌else◌}
use Rattle.definitions.specs.Moves.{Move, Entry, touches, goes_up, goes_down}

-- the run that a move makes of the run before it, if it continues that one
abbrev pub continued : ℕ → Entry → Move → Option Entry
continued bounce e m =
    if touches bounce e || touches bounce (m.0, m.1, 1) then None
    else (if goes_up e m then Some (e.0, e.1, e.2 + 1)
    else (if goes_down e m then Some (m.0, m.1, e.2 + 1) else None))

-- both runs of an entry lie among the first `size` page frames
abbrev pub LiesBelow : ℕ → Entry → Type 0
LiesBelow size e = (e.0 + e.2 ≤ size) × (e.1 + e.2 ≤ size)
