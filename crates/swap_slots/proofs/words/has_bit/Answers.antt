use Rattle.std.proofs.Common.{get_or, ◌/◌, ◌%◌, arith}
use Rattle.swap_slots.proofs.OneBit.{is_set}
use Rattle.swap_slots.proofs.words.has_bit.Goals as goal

pub returns : goal.returns
returns c = is_set (get_or c.args.words.now (c.args.k / 64) 0) (c.args.k % 64) (omega arith)
