use Rattle.clap.specs.Words.{with_subcommand}
use Rattle.command_words.specs.App.{hibernate_app, inspect_app, resume_app}
use Rattle.command_words.proofs.swsusp.command_line.with_areas.Goals as goal

pub returns : goal.returns
returns c = λ app is.
    let one = c.with_command-program.ensures app inspect_app is c.inspection.ensures in
    let two = c.with_command-program-2.ensures (with_subcommand app inspect_app.top) hibernate_app one c.hibernation.ensures in
    c.with_command.ensures (with_subcommand (with_subcommand app inspect_app.top) hibernate_app.top) resume_app two c.resumption.ensures
