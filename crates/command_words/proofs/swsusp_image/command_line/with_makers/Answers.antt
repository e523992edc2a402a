use Rattle.clap.specs.Words.{with_subcommand}
use Rattle.command_words.specs.ImageApp.{loader_app, machine_app}
use Rattle.command_words.proofs.swsusp_image.command_line.with_makers.Goals as goal

pub returns : goal.returns
returns c = λ app is.
    let one = c.with_command-program.ensures app loader_app is c.loader.ensures in
    c.with_command.ensures (with_subcommand app loader_app.top) machine_app one c.machine.ensures
