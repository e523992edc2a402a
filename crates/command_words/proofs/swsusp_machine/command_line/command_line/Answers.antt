use Rattle.std.proofs.Common.{codes}
use Rattle.command_words.specs.App.{program_app}
use Rattle.command_words.specs.MachineApp.{with_players, with_writers}
use Rattle.command_words.proofs.swsusp_machine.command_line.command_line.Goals as goal

pub returns : goal.returns
returns c =
    let playing = c.with_players-playing.ensures (program_app (codes "swsusp_machine")) c.program-bare.ensures in
    let writing = c.with_writers-writing.ensures (with_players (program_app (codes "swsusp_machine"))) playing in
    c.with_tellers.ensures (with_writers (with_players (program_app (codes "swsusp_machine")))) writing
