-- What an answer says that isn't a command.
use Rattle.std.specs.Prelude.{◌≡◌, ◌≢◌, ◌⊎◌, List, Option, None, true, string_bytes, ⊤}
use Rattle.clap.specs.Words.{App, Text, takes}
use Rattle.clap.specs.declared.error.kind.ErrorKind.{ErrorKind}
use Rattle.clap.specs.declared.error.kind.ErrorKind.TheVariants as kind
use Rattle.command_words.specs.declared.answer.Unparsed.{Unparsed}
use Rattle.command_words.specs.declared.answer.Unparsed.TheVariants as answer

-- a text is given only for a list that isn't plain, which asks for nothing
abbrev pub IsRefusedBy : {A : Type 0} → (List Text → Option A) → List Text → Unparsed → Type 0
IsRefusedBy command_of words (answer.Help text) = command_of words ≡ None
IsRefusedBy command_of words (answer.Words text) = command_of words ≡ None
IsRefusedBy command_of words answer.NoMemory = ⊤

-- the text is this line
abbrev pub IsLine : Text → Unparsed → Type 0
IsLine line (answer.Help text) = ⊥
IsLine line (answer.Words text) = string_bytes text ≡ line
IsLine line answer.NoMemory = ⊤

-- if clap takes a list that isn't plain, the text is this line
abbrev pub SaysWords : App → Text → List Text → Unparsed → Type 0
SaysWords app line words why = takes app words ≡ true → IsLine line why

-- clap's errors for help and the version become Help, and all others become Words
abbrev pub Tells : ErrorKind → Unparsed → Type 0
Tells error (answer.Help text) = (error ≡ kind.DisplayHelp) ⊎ (error ≡ kind.DisplayVersion)
Tells error (answer.Words text) = (error ≢ kind.DisplayHelp) × (error ≢ kind.DisplayVersion)
Tells error answer.NoMemory = ⊤
