use Rattle.std.proofs.Common.{◌+◌, ◌/◌, ◌<◌, length, arith}
use Rattle.machine.proofs.Rows.{entry_within}
use Rattle.machine.proofs.tasks.is_free.Goals as goal

pub entry-requires : goal.entry-requires
entry-requires c =
    let h = c.args.hw.now in
    let within : h.frame_table + c.args.p / 1024 < length c.args.frames.now = entry_within h c.args.frames.now c.args.p c.frame_table.ensures.hardware c.requires.frames c.requires.valid in
    let table = c.frame_table.ensures.frame in
    omega arith
