use Rattle.clap.specs.Words.{with_subcommand}
use Rattle.command_words.specs.MachineApp.{core_app, from_core_app, loader_app}
use Rattle.command_words.proofs.swsusp_machine.command_line.with_writers.Goals as goal

pub returns : goal.returns
returns c = λ app is.
    let one = c.with_command-program.ensures app loader_app is c.loading.ensures in
    let two = c.with_command-program-2.ensures (with_subcommand app loader_app.top) core_app one c.coring.ensures in
    c.with_command.ensures (with_subcommand (with_subcommand app loader_app.top) core_app.top) from_core_app two c.reading.ensures
