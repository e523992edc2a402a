-- What an answer says that isn't a command.
use Rattle.std.specs.Prelude.{◌≡◌, ◌⊎◌, List, ℕ, false, codes, ⊤}
use Rattle.clap.specs.Faults.{fault_of}
use Rattle.clap.specs.Kinds.{IsAmong}
use Rattle.clap.specs.declared.error.kind.ErrorKind.TheVariants as kind
use Rattle.command_words.specs.ImageApp.{image_app}
use Rattle.command_words.specs.ImageHelp.{asks_help}
use Rattle.command_words.specs.declared.answer.Unparsed.{Unparsed}
use Rattle.command_words.specs.declared.answer.Unparsed.TheVariants as answer

-- the line for a list that clap takes but that isn't plain
abbrev pub not_plain : List ℕ
not_plain =
    codes "words: options go before SWAP, SWAP isn't empty nor begins with -, numbers have no sign or leading zero\n"

-- clap may answer the list with help or the version
abbrev pub MayAskHelp : List (List ℕ) → Type 0
MayAskHelp words =
    IsAmong kind.DisplayHelp (fault_of image_app words) ⊎ IsAmong kind.DisplayVersion (fault_of image_app words)

-- a list that asks for help or the version gets it, and only a list that clap may answer with one of them does
abbrev pub GivesHelp : List (List ℕ) → Unparsed → Type 0
GivesHelp words (answer.Help text) = MayAskHelp words
GivesHelp words (answer.Words text) = asks_help words ≡ false
GivesHelp words answer.NoMemory = ⊤
