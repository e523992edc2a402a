use Rattle.std.proofs.Common.{◌/◌, ◌<◌, length, arith, refl}
use Rattle.image_walk.proofs.Bits.{adds_block}
use Rattle.image_walk.proofs.block_set.add_block.Goals as goal

pub returns-clause-added : goal.returns-clause-added
returns-clause-added c =
    let words = c.args.words.now in
    let k = c.args.block in
    let l : k / 64 < length words = omega arith in
    adds_block words k _ l refl
