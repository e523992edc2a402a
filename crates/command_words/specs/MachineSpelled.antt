-- Which words spell a command.
use Rattle.std.specs.Prelude.{◌≡◌, ◌≤◌, ℕ, true, Some, None, List, [], ◌∷◌, codes, decimal, ⊤}
use Rattle.plain_machine.specs.declared.event.IdentCheck.TheVariants.{Compare, Skip}
use Rattle.command_words.specs.Words.{is_path}
use Rattle.command_words.specs.MachineWords.{Asked, make, draw, loader, core, from_core, show, differ, check}

-- the values that a command can have
abbrev pub IsValid : Asked → Type 0
IsValid make = ⊤
IsValid draw = ⊤
IsValid loader = ⊤
IsValid core = ⊤
IsValid (from_core None) = ⊤
IsValid (from_core (Some slots)) = (2 ≤ slots) × (slots ≤ 131072)
IsValid show = ⊤
IsValid (differ first second) = (is_path first ≡ true) × (is_path second ≡ true)
IsValid (check ident swap) = is_path swap ≡ true

-- the words after the program's name spell this command
abbrev pub IsSpelled : Asked → List (List ℕ) → Type 0
IsSpelled make words = words ≡ codes "make" ∷ []
IsSpelled draw words = words ≡ codes "draw" ∷ []
IsSpelled loader words = words ≡ codes "loader" ∷ []
IsSpelled core words = words ≡ codes "core" ∷ []
IsSpelled (from_core None) words = words ≡ codes "from-core" ∷ []
IsSpelled (from_core (Some slots)) words = words ≡ codes "from-core" ∷ codes "--slots" ∷ decimal slots ∷ []
IsSpelled show words = words ≡ codes "show" ∷ []
IsSpelled (differ first second) words = words ≡ codes "differ" ∷ first ∷ second ∷ []
IsSpelled (check Compare swap) words = words ≡ codes "check" ∷ swap ∷ []
IsSpelled (check Skip swap) words = words ≡ codes "check" ∷ codes "--any-kernel" ∷ swap ∷ []

abbrev pub Spells : Asked → List (List ℕ) → Type 0
Spells asked words = IsValid asked × IsSpelled asked words
