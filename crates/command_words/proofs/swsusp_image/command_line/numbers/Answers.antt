use Rattle.std.proofs.Common.{rules, length}
use Rattle.command_words.proofs.ImageRanges.{ranged}
use Rattle.command_words.proofs.swsusp_image.command_line.numbers.Goals as goal

pub returns-clause-rule : goal.returns-clause-rule
returns-clause-rule c =
    let range = ranged c.num_args.result.num_vals (length c.args.values.now) c.num_args.ensures.1 in
    search (rules, range)
