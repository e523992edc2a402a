use Rattle.std.proofs.Common.{◌∙◌, ap, map, string_bytes}
use Rattle.clap.specs.Words.{App, is_simple, subcommand_of, takes}
use Rattle.command_words.specs.MachineMatched.{asked_in}
use Rattle.command_words.proofs.Refusals.{none_refused, said_refused, said_words}
use Rattle.command_words.specs.MachineApp.{machine_app}
use Rattle.command_words.specs.MachineRefused.{not_plain}
use Rattle.command_words.specs.MachineWords.{command_of}
use Rattle.command_words.proofs.MachineParsing.{simple, unfound}
use Rattle.command_words.proofs.MachineTaken.{taken_as_asked}
use Rattle.command_words.proofs.swsusp_machine.command.Command.parse.Goals as goal

pub returns-in-Err-clause-refused : goal.returns-in-Err-clause-refused
returns-in-Err-clause-refused c =
    let words = map string_bytes c.args.words.now in
    said_refused machine_app words command_of c.said.result
    (λ t. c.said.ensures.no_memory (c.in-Err.ensures.passes (ap (λ (a : App). takes a words) c.in_ok-command_line.ensures.0 ∙ t)))
    (λ x e. (taken_as_asked words x e).taken)

pub returns-in-Err-clause-words : goal.returns-in-Err-clause-words
returns-in-Err-clause-words c =
    let words = map string_bytes c.args.words.now in
    said_words machine_app words not_plain c.said.result
    (λ t. c.said.ensures.no_memory (c.in-Err.ensures.passes (ap (λ (a : App). takes a words) c.in_ok-command_line.ensures.0 ∙ t)))

pub returns-clause-refused : goal.returns-clause-refused
returns-clause-refused c =
    let words = map string_bytes c.args.words.now in
    let app = c.in_ok-command_line.ensures.0 in
    let rows = (c.in-Ok.ensures.matches (ap is_simple app ∙ simple)).1 ∙ ap (λ (a : App). subcommand_of a words) app in
    none_refused command_of words c.not_plain.result (unfound words (λ x matched e. let some = c.in-None.ensures.found x (ap asked_in rows ∙ matched) e in cc))
