use Rattle.std.proofs.Common.{◌∙◌, ap, map, string_bytes, subst, sym}
use Rattle.clap.specs.Words.{App, is_simple, subcommand_of, takes}
use Rattle.command_words.specs.Matched.{asked_in}
use Rattle.command_words.specs.Refused.{SaysWords, without_help}
use Rattle.command_words.proofs.Parsing.{none_refused, numbered, said_line, said_refused, said_words, simple, unfound}
use Rattle.command_words.proofs.swsusp.command.Command.parse.Goals as goal

pub returns-in-Err-clause-refused : goal.returns-in-Err-clause-refused
returns-in-Err-clause-refused c =
    let words = map string_bytes c.args.words.now in
    said_refused words c.from.result
    (λ t. c.from.ensures ∙ ap without_help (c.said.ensures.no_memory (c.in-Err.ensures.passes (ap (λ (a : App). takes a words) c.in_ok-command_line.ensures.0 ∙ t))))

pub returns-in-Err-clause-words : goal.returns-in-Err-clause-words
returns-in-Err-clause-words c =
    let words = map string_bytes c.args.words.now in
    said_words words c.from.result
    (λ t. c.from.ensures ∙ ap without_help (c.said.ensures.no_memory (c.in-Err.ensures.passes (ap (λ (a : App). takes a words) c.in_ok-command_line.ensures.0 ∙ t))))

pub returns-clause-words : goal.returns-clause-words
returns-clause-words c =
    let words = map string_bytes c.args.words.now in
    subst (SaysWords words) (sym c.from-in-None.ensures) (said_line words c.not_plain.result c.not_plain.ensures)

pub returns-in-Some-clause-number : goal.returns-in-Some-clause-number
returns-in-Some-clause-number c = numbered (map string_bytes c.args.words.now) c.in-Some.command c.in-Some.ensures.asks

pub returns-clause-refused : goal.returns-clause-refused
returns-clause-refused c =
    let words = map string_bytes c.args.words.now in
    let app = c.in_ok-command_line.ensures.0 in
    let rows = (c.in-Ok.ensures.matches (ap is_simple app ∙ simple)).1 ∙ ap (λ (a : App). subcommand_of a words) app in
    none_refused words c.from-in-None.result (unfound words (λ x matched e. let some = c.in-None.ensures.found x (ap asked_in rows ∙ matched) e in cc))
