use Rattle.std.proofs.Common.{codes}
use Rattle.clap.specs.Words.{new_app, with_rule}
use Rattle.command_words.proofs.Builders.{if_arg_added}
use Rattle.command_words.specs.MachineApp.{first_rule, second_rule}
use Rattle.command_words.proofs.swsusp_machine.command_line.comparison.Goals as goal

pub returns : goal.returns
returns c =
    let one = if_arg_added c.arg-command.result c.named.result c.path.result (new_app (codes "differ")) first_rule c.named.ensures c.path.ensures.rule c.path.ensures.own c.arg-command.ensures in
    c.with_argument.ensures (with_rule (new_app (codes "differ")) first_rule) second_rule one c.path-2.ensures.rule c.path-2.ensures.own
