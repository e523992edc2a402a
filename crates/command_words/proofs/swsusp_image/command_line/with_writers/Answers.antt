use Rattle.std.proofs.Common.{codes}
use Rattle.clap.specs.Words.{with_subcommand}
use Rattle.command_words.specs.ImageApp.{area_app, page_app}
use Rattle.command_words.proofs.swsusp_image.command_line.with_writers.Goals as goal

pub returns : goal.returns
returns c = λ app is.
    let one = c.with_command-program.ensures app (area_app (codes "stream")) is c.over_area.ensures in
    let two = c.with_command-program-2.ensures (with_subcommand app (area_app (codes "stream")).top) page_app one c.page.ensures in
    c.with_command.ensures (with_subcommand (with_subcommand app (area_app (codes "stream")).top) page_app.top) (area_app (codes "core")) two c.over_area-2.ensures
