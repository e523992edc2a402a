use Rattle.std.proofs.Common.{codes}
use Rattle.command_words.specs.App.{program_app, with_areas, with_players}
use Rattle.command_words.proofs.swsusp.command_line.command_line.Goals as goal

pub returns : goal.returns
returns c =
    let areas = c.with_areas-areas.ensures (program_app (codes "swsusp")) c.program-bare.ensures in
    let playing = c.with_players-playing.ensures (with_areas (program_app (codes "swsusp"))) areas in
    c.with_streams.ensures (with_players (with_areas (program_app (codes "swsusp")))) playing
