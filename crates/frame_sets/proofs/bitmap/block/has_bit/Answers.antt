use Rattle.std.proofs.Common.{get_or, ◌/◌, ◌%◌, arith}
use Rattle.frame_sets.proofs.Words.{is_set}
use Rattle.frame_sets.proofs.bitmap.block.has_bit.Goals as goal

pub returns : goal.returns
returns c = is_set (get_or c.args.block.now (c.args.k / 64) 0) (c.args.k % 64) (omega arith)
