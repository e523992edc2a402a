-- Which lists of words ask for help or the version.
use Rattle.std.specs.Prelude.{ℕ, List, [], ◌∷◌, Bool, false, ◌&&◌, ◌||◌, nat_eq, codes}
use Rattle.std.specs.List.{list_any}
use Rattle.std.specs.Cmp.Lexicographic.{pointwise}

-- whether a word is one of these texts
abbrev pub is_among : List (List ℕ) → List ℕ → Bool
is_among texts word = list_any (pointwise nat_eq word) texts

abbrev pub commands : List (List ℕ)
commands =
    codes "check" ∷ codes "show" ∷ codes "stream" ∷ codes "page" ∷ codes "core" ∷ codes "differ" ∷ codes "discard"
    ∷ codes "loader" ∷ codes "machine" ∷ []

abbrev pub help_flags : List (List ℕ)
help_flags = codes "--help" ∷ codes "-h" ∷ []

abbrev pub version_flags : List (List ℕ)
version_flags = codes "--version" ∷ codes "-V" ∷ []

-- a flag for help or the version, or a command and a flag for its help, follows the program's name
abbrev pub asks_help : List (List ℕ) → Bool
asks_help [] = false
asks_help (name ∷ []) = false
asks_help (name ∷ flag ∷ []) = is_among help_flags flag || is_among version_flags flag
asks_help (name ∷ command ∷ flag ∷ []) = is_among commands command && is_among help_flags flag
asks_help (name ∷ command ∷ flag ∷ more ∷ words) = false
