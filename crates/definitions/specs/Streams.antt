-- The ends of the program: a source gives bytes, a sink takes them. `None` stands for bytes that an end doesn't tell.
use Rattle.std.specs.Prelude.{◌≡◌, ℕ, ◌<◌, ◌≤◌, List, [], ◌++◌, length, take, Option, Some, None}

-- A source hands out the first k bytes of a piece: it had the bytes `old` left, and has `new` left.
abbrev pub HandsOut : ℕ → List ℕ → Option (List ℕ) → Option (List ℕ) → Type 0
HandsOut k piece None None = Unit {0}
HandsOut k piece None (Some new) = ⊥
HandsOut k piece (Some old) None = ⊥
HandsOut k piece (Some old) (Some new) = old ≡ take k piece ++ new

-- no byte is left
abbrev pub IsUsedUp : Option (List ℕ) → Type 0
IsUsedUp None = Unit {0}
IsUsedUp (Some left) = left ≡ []

-- A sink takes the first k bytes of a piece: it had taken `old`, and has taken `new`.
abbrev pub Takes : ℕ → List ℕ → Option (List ℕ) → Option (List ℕ) → Type 0
Takes k piece None None = Unit {0}
Takes k piece None (Some new) = ⊥
Takes k piece (Some old) None = ⊥
Takes k piece (Some old) (Some new) = new ≡ old ++ take k piece

-- a sink takes a whole text
abbrev pub TakesAll : List ℕ → Option (List ℕ) → Option (List ℕ) → Type 0
TakesAll text old new = Takes (length text) text old new

-- a sink takes a prefix of a text
abbrev pub TakesFront : List ℕ → Option (List ℕ) → Option (List ℕ) → Type 0
TakesFront text old new = (k : ℕ) × (k ≤ length text) × Takes k text old new
