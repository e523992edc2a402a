use Rattle.std.proofs.Common.{◌/◌, ◌%◌, get_or, arith}
use Rattle.image_walk.proofs.Bits.{is_set}
use Rattle.image_walk.proofs.block_set.has_block.Goals as goal

pub returns : goal.returns
returns c = is_set (get_or c.args.words.now (c.args.block / 64) 0) (c.args.block % 64) (omega arith)
