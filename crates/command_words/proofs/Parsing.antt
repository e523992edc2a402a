-- What a parse returns, over plain variables.
use Rattle.std.proofs.Common.{◌≡◌, true, refl, Some, None, List, codes}
use Rattle.clap.proofs.OnLiterals.{clap_on_literals}
use Rattle.clap.specs.Words.{Text, is_simple, subcommand_of, takes}
use Rattle.command_words.specs.App.{swsusp_app}
use Rattle.command_words.specs.Asked.{HasNumber, asked_by}
use Rattle.command_words.specs.Matched.{asked_in}
use Rattle.command_words.specs.Answer.{IsLine}
use Rattle.command_words.specs.Refused.{IsRefusedBy, SaysWords, without_help}
use Rattle.command_words.specs.Words.{Asked, command_of, drill}
use Rattle.command_words.specs.declared.swsusp.command.Command.{Command}
use Rattle.command_words.specs.declared.swsusp.command.Command.TheVariants as command
use Rattle.command_words.specs.declared.answer.Unparsed.{Unparsed as Answer}
use Rattle.command_words.specs.declared.answer.Unparsed.TheVariants as answer
use Rattle.command_words.specs.declared.swsusp.unparsed.Unparsed.{Unparsed}
use Rattle.command_words.specs.declared.swsusp.unparsed.Unparsed.TheVariants as unparsed
use Rattle.command_words.proofs.Forms.{spells}
use Rattle.command_words.proofs.Refusals.{nothing}
use Rattle.command_words.proofs.Taken.{taken_as_asked}

-- what clap says of words that it doesn't take
pub said_refused : (words : List Text) (why : Unparsed) → (takes swsusp_app words ≡ true → why ≡ unparsed.NoMemory) → IsRefusedBy words why
said_refused words (unparsed.Words text) h =
    nothing (command_of words) (λ x e. let no_memory = h (taken_as_asked words x e).taken in cc)
said_refused words unparsed.NoMemory h = tt

pub said_words : (words : List Text) (why : Unparsed) → (takes swsusp_app words ≡ true → why ≡ unparsed.NoMemory) → SaysWords words why
said_words words (unparsed.Words text) h = λ t. let no_memory = h t in cc
said_words words unparsed.NoMemory h = tt

-- no answer to a list that asks for nothing is wrong
pub none_refused : (words : List Text) (why : Unparsed) → command_of words ≡ None → IsRefusedBy words why
none_refused words (unparsed.Words text) none = none
none_refused words unparsed.NoMemory none = tt

-- the line of a list that clap takes
pub said_line : (words : List Text) (said : Answer) → IsLine (codes "words\n") said → SaysWords words (without_help said)
said_line words (answer.Words text) is = λ t. is
said_line words (answer.Help text) is = absurd is
said_line words answer.NoMemory is = tt

-- no plain words fail where the command of the matches is found
pub unfound : (words : List Text) → ((x : Asked) → asked_in (subcommand_of swsusp_app words) ≡ Some x → command_of words ≡ Some x → ⊥) → command_of words ≡ None
unfound words h = nothing (command_of words) (λ x e. h x (taken_as_asked words x e).matched e)

pub numbered : (words : List Text) (c : Command) → command_of words ≡ Some (asked_by c) → HasNumber c
numbered words (command.Drill n) e = (spells words (drill n) e).3.0
numbered words (command.Inspect offset swap) e = tt
numbered words (command.Hibernate format size swap) e = tt
numbered words (command.Resume check swap) e = tt
numbered words command.Replay e = tt
numbered words command.Export e = tt
numbered words (command.Import swap) e = tt

pub simple : is_simple swsusp_app ≡ true
unfolding clap_on_literals
simple = refl
