use Rattle.clap.specs.Words.{with_subcommand}
use Rattle.command_words.specs.MachineApp.{draw_app, make_app}
use Rattle.command_words.proofs.swsusp_machine.command_line.with_players.Goals as goal

pub returns : goal.returns
returns c = λ app is.
    let one = c.with_command-program.ensures app make_app is c.making.ensures in
    c.with_command.ensures (with_subcommand app make_app.top) draw_app one c.drawing.ensures
