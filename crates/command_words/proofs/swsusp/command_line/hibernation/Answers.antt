use Rattle.std.proofs.Common.{codes}
use Rattle.clap.specs.Words.{new_app, with_rule}
use Rattle.command_words.specs.App.{image_size_rule, skip_zeros_rule, swap_rule}
use Rattle.command_words.proofs.Builders.{if_arg_added}
use Rattle.command_words.proofs.swsusp.command_line.hibernation.Goals as goal

pub returns : goal.returns
returns c =
    let one = if_arg_added c.arg-command.result c.named.result c.flag.result (new_app (codes "hibernate")) skip_zeros_rule c.named.ensures c.flag.ensures.rule c.flag.ensures.own c.arg-command.ensures in
    let two = c.with_argument-command.ensures (with_rule (new_app (codes "hibernate")) skip_zeros_rule) image_size_rule one c.image_size_argument.ensures.rule c.image_size_argument.ensures.own in
    c.with_argument.ensures (with_rule (with_rule (new_app (codes "hibernate")) skip_zeros_rule) image_size_rule) swap_rule two c.swap_argument.ensures.rule c.swap_argument.ensures.own
