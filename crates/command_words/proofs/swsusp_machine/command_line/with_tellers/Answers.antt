use Rattle.clap.specs.Words.{with_subcommand}
use Rattle.command_words.specs.MachineApp.{check_app, differ_app, show_app}
use Rattle.command_words.proofs.swsusp_machine.command_line.with_tellers.Goals as goal

pub returns : goal.returns
returns c = λ app is.
    let one = c.with_command-program.ensures app show_app is c.showing.ensures in
    let two = c.with_command-program-2.ensures (with_subcommand app show_app.top) differ_app one c.comparison.ensures in
    c.with_command.ensures (with_subcommand (with_subcommand app show_app.top) differ_app.top) check_app two c.trial.ensures
