use Rattle.std.proofs.Common.{◌+◌, ◌/◌, ◌<◌, length, arith}
use Rattle.plain_machine.proofs.SameMemory.{table_frame_valid}
use Rattle.machine.proofs.Rows.{entry_within}
use Rattle.machine.proofs.tables.is_used.Goals as goal

pub entry-owner-requires : goal.entry-owner-requires
entry-owner-requires c =
    let h = c.args.hw.now in
    let hw = c.frame_table.ensures.hardware in
    let within : h.frame_table + c.args.f / 1024 < length c.args.frames.now = entry_within h c.args.frames.now c.args.f hw c.requires.size (table_frame_valid h c.args.f hw c.requires.table) in
    let table = c.frame_table.ensures.frame in
    omega arith
