use Rattle.clap.specs.Words.{with_subcommand}
use Rattle.command_words.specs.App.{drill_app, replay_app}
use Rattle.command_words.proofs.swsusp.command_line.with_players.Goals as goal

pub returns : goal.returns
returns c = λ app is.
    let one = c.with_command-program.ensures app replay_app is c.replay.ensures in
    c.with_command.ensures (with_subcommand app replay_app.top) drill_app one c.drill.ensures
