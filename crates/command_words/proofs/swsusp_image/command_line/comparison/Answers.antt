use Rattle.std.proofs.Common.{codes}
use Rattle.clap.specs.Words.{with_rule}
use Rattle.command_words.specs.ImageApp.{area_app, first_rule, other_rule}
use Rattle.command_words.proofs.swsusp_image.command_line.comparison.Goals as goal

pub returns : goal.returns
returns c =
    let one = c.with_argument.ensures (area_app (codes "differ")) first_rule c.over_area-command.ensures c.flag-first.ensures.rule c.flag-first.ensures.own in
    c.with_argument-2.ensures (with_rule (area_app (codes "differ")) first_rule) other_rule one c.path-other.ensures.rule c.path-other.ensures.own
