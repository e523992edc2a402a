-- Which words spell a command.
use Rattle.std.specs.Prelude.{◌≡◌, ◌<◌, ◌≤◌, ◌^◌, ◌⊎◌, ℕ, true, Some, None, List, [], ◌∷◌, codes, decimal, ⊤}
use Rattle.page_core.specs.declared.format.Format.{Format}
use Rattle.page_core.specs.declared.format.Format.TheVariants.{Plain, SkipZeros}
use Rattle.plain_machine.specs.declared.event.IdentCheck.TheVariants.{Compare, Skip}
use Rattle.command_words.specs.Words.{Asked, inspect, hibernate, resume, replay, drill, export, import, is_path}

-- the values that a command can have
abbrev pub IsValid : Asked → Type 0
IsValid (inspect offset swap) = (offset < 2 ^ 32) × (is_path swap ≡ true)
IsValid (hibernate format None swap) = is_path swap ≡ true
IsValid (hibernate format (Some size) swap) = (size < 2 ^ 64) × (is_path swap ≡ true)
IsValid (resume check swap) = is_path swap ≡ true
IsValid replay = ⊤
IsValid (drill number) = (1 ≤ number) × (number ≤ 2000)
IsValid export = ⊤
IsValid (import swap) = is_path swap ≡ true

-- the words of a hibernation with this number as the image's size
abbrev pub IsSized : Format → List ℕ → List ℕ → List (List ℕ) → Type 0
IsSized Plain number swap words = words ≡ codes "hibernate" ∷ codes "--image-size" ∷ number ∷ swap ∷ []
IsSized SkipZeros number swap words =
    (words ≡ codes "hibernate" ∷ codes "--skip-zeros" ∷ codes "--image-size" ∷ number ∷ swap ∷ [])
    ⊎ (words ≡ codes "hibernate" ∷ codes "--image-size" ∷ number ∷ codes "--skip-zeros" ∷ swap ∷ [])

-- the words after the program's name spell this command
abbrev pub IsSpelled : Asked → List (List ℕ) → Type 0
IsSpelled (inspect offset swap) words =
    ((offset ≡ 0) × (words ≡ codes "inspect" ∷ swap ∷ []))
    ⊎ (words ≡ codes "inspect" ∷ codes "--offset" ∷ decimal offset ∷ swap ∷ [])
IsSpelled (hibernate Plain None swap) words = words ≡ codes "hibernate" ∷ swap ∷ []
IsSpelled (hibernate SkipZeros None swap) words = words ≡ codes "hibernate" ∷ codes "--skip-zeros" ∷ swap ∷ []
IsSpelled (hibernate format (Some size) swap) words = IsSized format (decimal size) swap words
IsSpelled (resume Compare swap) words = words ≡ codes "resume" ∷ swap ∷ []
IsSpelled (resume Skip swap) words = words ≡ codes "resume" ∷ codes "--any-kernel" ∷ swap ∷ []
IsSpelled replay words = words ≡ codes "replay" ∷ []
IsSpelled (drill number) words = words ≡ codes "drill" ∷ decimal number ∷ []
IsSpelled export words = words ≡ codes "export" ∷ []
IsSpelled (import swap) words = words ≡ codes "import" ∷ swap ∷ []

abbrev pub Spells : Asked → List (List ℕ) → Type 0
Spells asked words = IsValid asked × IsSpelled asked words
