use Rattle.std.proofs.Common.{arith}
use Rattle.image_pages.proofs.Numbering.{begun_numbered}
use Rattle.image_pages.proofs.frames.numbers.Numbers.of.Goals as goal

pub returns-clause-numbered : goal.returns-clause-numbered
returns-clause-numbered c = λ content blocks header has.
    begun_numbered content blocks header c.args.pages c.args.info c.zero.result c.args.counts has (omega arith)
