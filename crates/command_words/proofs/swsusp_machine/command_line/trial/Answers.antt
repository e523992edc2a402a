use Rattle.std.proofs.Common.{codes}
use Rattle.clap.specs.Words.{new_app, with_rule}
use Rattle.command_words.specs.App.{any_kernel_rule, swap_rule}
use Rattle.command_words.proofs.Builders.{if_arg_added}
use Rattle.command_words.proofs.swsusp_machine.command_line.trial.Goals as goal

pub returns : goal.returns
returns c =
    let one = if_arg_added c.arg-command.result c.named.result c.any_kernel_argument.result (new_app (codes "check")) any_kernel_rule c.named.ensures c.any_kernel_argument.ensures.rule c.any_kernel_argument.ensures.own c.arg-command.ensures in
    c.with_argument.ensures (with_rule (new_app (codes "check")) any_kernel_rule) swap_rule one c.path-swap.ensures.rule c.path-swap.ensures.own
