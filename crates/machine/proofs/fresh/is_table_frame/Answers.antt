use Rattle.std.proofs.Common.{arith}
use Rattle.machine.proofs.Rows.{table_below}
use Rattle.machine.proofs.fresh.is_table_frame.Goals as goal

pub is_of_table-requires-clause-first : goal.is_of_table-requires-clause-first
is_of_table-requires-clause-first c = let low = (table_below c.args.hw.now c.frame_table.ensures.hardware).0 in let e = c.frame_table.ensures.frame in omega arith

pub is_of_table-requires-else-is_of_table-clause-first : goal.is_of_table-requires-else-is_of_table-clause-first
is_of_table-requires-else-is_of_table-clause-first c = let low = (table_below c.args.hw.now c.frame_table.ensures.hardware).1 in let e = c.slot_table.ensures.frame in omega arith
