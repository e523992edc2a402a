use Rattle.clap.specs.Words.{new_app, with_rule}
use Rattle.command_words.specs.App.{offset_rule, swap_rule}
use Rattle.command_words.proofs.Builders.{if_arg_added}
use Rattle.command_words.proofs.swsusp_image.command_line.over_area.Goals as goal

pub returns : goal.returns
returns c =
    let one = if_arg_added c.arg-command.result c.named.result c.offset_argument.result (new_app c.args.name.now) offset_rule c.named.ensures c.offset_argument.ensures.rule c.offset_argument.ensures.own c.arg-command.ensures in
    c.with_argument.ensures (with_rule (new_app c.args.name.now) offset_rule) swap_rule one c.swap_argument.ensures.rule c.swap_argument.ensures.own
