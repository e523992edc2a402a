use Rattle.std.proofs.Common.{codes}
use Rattle.clap.specs.Words.{with_subcommand}
use Rattle.command_words.specs.ImageApp.{area_app, differ_app}
use Rattle.command_words.proofs.swsusp_image.command_line.with_enders.Goals as goal

pub returns : goal.returns
returns c = λ app is.
    let one = c.with_command-program.ensures app differ_app is c.comparison.ensures in
    c.with_command.ensures (with_subcommand app differ_app.top) (area_app (codes "discard")) one c.over_area.ensures
