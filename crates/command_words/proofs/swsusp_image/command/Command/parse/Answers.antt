use Rattle.std.proofs.Common.{◌∙◌, ap, map, string_bytes, subst, sym}
use Rattle.clap.specs.Words.{App, is_simple, subcommand_of, takes}
use Rattle.clap.specs.Faults.{fault_of, is_simple_and_free}
use Rattle.clap.specs.Kinds.{HasKind}
use Rattle.command_words.specs.ImageMatched.{asked_in}
use Rattle.command_words.proofs.Refusals.{none_refused, said_refused, said_words}
use Rattle.command_words.specs.ImageApp.{image_app}
use Rattle.command_words.specs.ImageRefused.{not_plain}
use Rattle.command_words.specs.ImageWords.{command_of}
use Rattle.command_words.proofs.ImageParsing.{unfound}
use Rattle.command_words.proofs.ImageShown.{line_gives_help, said_help, simple_and_free, taken_asks_no_help}
use Rattle.command_words.proofs.ImageTaken.{simple, taken_as_asked}
use Rattle.command_words.proofs.swsusp_image.command.Command.parse.Goals as goal

pub returns-in-Err-clause-refused : goal.returns-in-Err-clause-refused
returns-in-Err-clause-refused c =
    let words = map string_bytes c.args.words.now in
    said_refused image_app words command_of c.said.result
    (λ t. c.said.ensures.no_memory (c.in-Err.ensures.passes (ap (λ (a : App). takes a words) c.in_ok-command_line.ensures.0 ∙ t)))
    (λ x e. (taken_as_asked words x e).taken)

pub returns-in-Err-clause-words : goal.returns-in-Err-clause-words
returns-in-Err-clause-words c =
    let words = map string_bytes c.args.words.now in
    said_words image_app words not_plain c.said.result
    (λ t. c.said.ensures.no_memory (c.in-Err.ensures.passes (ap (λ (a : App). takes a words) c.in_ok-command_line.ensures.0 ∙ t)))

pub returns-in-Err-clause-help : goal.returns-in-Err-clause-help
returns-in-Err-clause-help c =
    let words = map string_bytes c.args.words.now in
    let app = c.in_ok-command_line.ensures.0 in
    let kinds = c.in-Err.ensures.kinds (ap is_simple_and_free app ∙ simple_and_free) in
    said_help words c.in-Err.error c.said.result (subst (λ (a : App). HasKind (fault_of a words) c.in-Err.error) app kinds)
    c.said.ensures.no_memory c.said.ensures.tells

pub returns-clause-help : goal.returns-clause-help
returns-clause-help c =
    let words = map string_bytes c.args.words.now in
    let app = c.in_ok-command_line.ensures.0 in
    line_gives_help words not_plain c.not_plain.result c.not_plain.ensures
    (taken_asks_no_help words (ap (λ (a : App). fault_of a words) (sym app) ∙ c.in-Ok.ensures.kinds (ap is_simple_and_free app ∙ simple_and_free)))

pub returns-clause-refused : goal.returns-clause-refused
returns-clause-refused c =
    let words = map string_bytes c.args.words.now in
    let app = c.in_ok-command_line.ensures.0 in
    let rows = (c.in-Ok.ensures.matches (ap is_simple app ∙ simple)).1 ∙ ap (λ (a : App). subcommand_of a words) app in
    none_refused command_of words c.not_plain.result (unfound words (λ x matched e. let some = c.in-None.ensures.found x (ap asked_in rows ∙ matched) e in cc))
