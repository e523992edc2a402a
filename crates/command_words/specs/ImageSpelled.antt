-- Which words spell a command.
use Rattle.std.specs.Prelude.{◌≡◌, ◌<◌, ◌^◌, ◌⊎◌, ℕ, Bool, true, false, List, [], ◌∷◌, codes, decimal}
use Rattle.command_words.specs.Words.{is_path}
use Rattle.command_words.specs.ImageWords.{Asked, SwapArea, check, show, stream, page, core, differ, discard}

-- an area that words can name
abbrev pub IsArea : SwapArea → Type 0
IsArea area = (area.offset < 2 ^ 32) × (is_path area.swap ≡ true)

-- the values that a command can have
abbrev pub IsValid : Asked → Type 0
IsValid (check json area) = IsArea area
IsValid (show json area) = IsArea area
IsValid (stream area) = IsArea area
IsValid (page area frame) = IsArea area × (frame < 2 ^ 64)
IsValid (core area) = IsArea area
IsValid (differ first_only area other) = IsArea area × (is_path other ≡ true)
IsValid (discard area) = IsArea area

-- the words are a command's name, the offset unless it is 0 and left out, the path, and the command's own words
abbrev pub IsSpelledOver : SwapArea → List ℕ → List (List ℕ) → List (List ℕ) → Type 0
IsSpelledOver area name own words =
    ((area.offset ≡ 0) × (words ≡ name ∷ area.swap ∷ own))
    ⊎ (words ≡ name ∷ codes "--offset" ∷ decimal area.offset ∷ area.swap ∷ own)

-- the same with a flag before or after the offset
abbrev pub IsSpelledFlagged : SwapArea → List ℕ → List ℕ → List (List ℕ) → List (List ℕ) → Type 0
IsSpelledFlagged area name flag own words =
    ((area.offset ≡ 0) × (words ≡ name ∷ flag ∷ area.swap ∷ own))
    ⊎ ((words ≡ name ∷ flag ∷ codes "--offset" ∷ decimal area.offset ∷ area.swap ∷ own)
    ⊎ (words ≡ name ∷ codes "--offset" ∷ decimal area.offset ∷ flag ∷ area.swap ∷ own))

-- the same with the flag, or without it
abbrev pub IsSpelledWith : Bool → SwapArea → List ℕ → List ℕ → List (List ℕ) → List (List ℕ) → Type 0
IsSpelledWith false area name flag own words = IsSpelledOver area name own words
IsSpelledWith true area name flag own words = IsSpelledFlagged area name flag own words

-- the words after the program's name spell this command
abbrev pub IsSpelled : Asked → List (List ℕ) → Type 0
IsSpelled (check json area) words = IsSpelledWith json area (codes "check") (codes "--json") [] words
IsSpelled (show json area) words = IsSpelledWith json area (codes "show") (codes "--json") [] words
IsSpelled (stream area) words = IsSpelledOver area (codes "stream") [] words
IsSpelled (page area frame) words = IsSpelledOver area (codes "page") (decimal frame ∷ []) words
IsSpelled (core area) words = IsSpelledOver area (codes "core") [] words
IsSpelled (differ first_only area other) words =
    IsSpelledWith first_only area (codes "differ") (codes "--first") (other ∷ []) words
IsSpelled (discard area) words = IsSpelledOver area (codes "discard") [] words

abbrev pub Spells : Asked → List (List ℕ) → Type 0
Spells asked words = IsValid asked × IsSpelled asked words
