use Rattle.std.proofs.Common.{codes}
use Rattle.command_words.specs.ImageApp.{dump_app, tables_rule}
use Rattle.command_words.proofs.swsusp_image.command_line.machine.Goals as goal

pub returns : goal.returns
returns c = c.with_argument.ensures (dump_app (codes "machine")) tables_rule c.over_layout-command.ensures c.numbers.ensures.rule c.numbers.ensures.own
