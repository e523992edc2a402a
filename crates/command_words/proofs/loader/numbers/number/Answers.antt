use Rattle.std.proofs.Common.{rules, ◌∙◌, arith}
use Rattle.command_words.proofs.LoaderDecimals.{large, leading, small, unread}
use Rattle.command_words.proofs.loader.numbers.number.Goals as goal

pub returns-then-has_leading_zero : goal.returns-then-has_leading_zero
returns-then-has_leading_zero c = leading c.args.word.now (search rules)

pub returns-in_err-number : goal.returns-in_err-number
returns-in_err-number c = c.from_residual.ensures ∙ unread c.args.word.now (search rules) (search rules)

pub returns-then-number-from : goal.returns-then-number-from
returns-then-number-from c =
    let from = c.from.ensures in
    let test = c.if-number-from.true in
    large c.args.word.now c.in_ok-number.number (search rules) (search rules) (omega arith)

pub returns : goal.returns
returns c =
    let from = c.from.ensures in
    let test = c.if-number-from.false in
    small c.args.word.now c.in_ok-number.number (search rules) (search rules) (omega arith)
