use Rattle.clap.specs.Words.{with_subcommand}
use Rattle.command_words.specs.App.{export_app, import_app}
use Rattle.command_words.proofs.swsusp.command_line.with_streams.Goals as goal

pub returns : goal.returns
returns c = λ app is.
    let one = c.with_command-program.ensures app export_app is c.export.ensures in
    c.with_command.ensures (with_subcommand app export_app.top) import_app one c.importation.ensures
