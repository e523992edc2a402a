use Rattle.std.proofs.Common.{codes}
use Rattle.clap.specs.Words.{with_subcommand}
use Rattle.command_words.specs.ImageApp.{formed_app}
use Rattle.command_words.proofs.swsusp_image.command_line.with_tellers.Goals as goal

pub returns : goal.returns
returns c = λ app is.
    let one = c.with_command-program.ensures app (formed_app (codes "check")) is c.in_form.ensures in
    c.with_command.ensures (with_subcommand app (formed_app (codes "check")).top) (formed_app (codes "show")) one c.in_form-2.ensures
