use Rattle.clap.specs.Words.{with_rule}
use Rattle.command_words.specs.ImageApp.{area_app, extent_rule, zone_rule}
use Rattle.command_words.proofs.swsusp_image.command_line.over_layout.Goals as goal

pub returns : goal.returns
returns c =
    let one = c.with_argument-command.ensures (area_app c.args.name.now) zone_rule c.over_area-command.ensures c.numbers-zone.ensures.rule c.numbers-zone.ensures.own in
    c.with_argument.ensures (with_rule (area_app c.args.name.now) zone_rule) extent_rule one c.numbers-extent.ensures.rule c.numbers-extent.ensures.own
