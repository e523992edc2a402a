use Rattle.std.proofs.Common.{◌+◌, ◌/◌, ◌<◌, length, arith}
use Rattle.machine.proofs.Rows.{entry_within}
use Rattle.machine.proofs.tables.entry_fits.Goals as goal

pub entry-owner-requires : goal.entry-owner-requires
entry-owner-requires c =
    let h = c.args.hw.now in
    let within : h.frame_table + c.args.p / 1024 < length c.args.frames.now = entry_within h c.args.frames.now c.args.p c.is_valid.ensures.hardware c.requires (c.is_valid.ensures.valid c.if-not-is_valid.false) in
    let table = c.frame_table.ensures.frame in
    omega arith
