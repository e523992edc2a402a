-- What an answer says that isn't a command.
use Rattle.std.specs.Prelude.{◌≡◌, List, ℕ, None, true, codes, string_bytes, ⊤}
use Rattle.clap.specs.Words.{takes}
use Rattle.command_words.specs.App.{swsusp_app}
use Rattle.command_words.specs.Words.{command_of}
use Rattle.command_words.specs.declared.answer.Unparsed.{Unparsed as Answer}
use Rattle.command_words.specs.declared.answer.Unparsed.TheVariants as answer
use Rattle.command_words.specs.declared.swsusp.unparsed.Unparsed.{Unparsed}
use Rattle.command_words.specs.declared.swsusp.unparsed.Unparsed.TheVariants as unparsed

-- a text is given only for a list that isn't plain
abbrev pub IsRefusedBy : List (List ℕ) → Unparsed → Type 0
IsRefusedBy words (unparsed.Words text) = command_of words ≡ None
IsRefusedBy words unparsed.NoMemory = ⊤

-- if clap takes such a list, the text is the line `words`
abbrev pub SaysWords : List (List ℕ) → Unparsed → Type 0
SaysWords words (unparsed.Words text) = takes swsusp_app words ≡ true → string_bytes text ≡ codes "words\n"
SaysWords words unparsed.NoMemory = ⊤

-- help and the version are texts like any other
abbrev pub without_help : Answer → Unparsed
without_help (answer.Help text) = unparsed.Words text
without_help (answer.Words text) = unparsed.Words text
without_help answer.NoMemory = unparsed.NoMemory
