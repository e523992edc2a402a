use Rattle.std.proofs.Common.{arith}
use Rattle.frame_sets.proofs.Filled.{first_bits}
use Rattle.frame_sets.proofs.bitmap.block.fill_first.Goals as goal

pub returns : goal.returns
returns c =
    let all = c.loop-word-test.false in
    first_bits c.args.count c.loop-word.block c.requires c.loop-word.invariant.0 (λ j lt. c.loop-word.invariant.1 j (omega arith))
