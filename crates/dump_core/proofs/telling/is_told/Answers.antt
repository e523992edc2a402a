use Rattle.std.proofs.Common.{arith}
use Rattle.definitions.specs.Zones.{top}
use Rattle.definitions.proofs.ZoneNumbers.{below_top}
use Rattle.machine.proofs.Rows.{frame_table_fits}
use Rattle.dump_core.proofs.telling.is_told.Goals as goal

pub is_zero-requires : goal.is_zero-requires
is_zero-requires c =
    let low = below_top c.args.dump.now.hw.zones c.args.p c.is_hardware.ensures.hardware.zones.apart c.requires.valid in
    omega (arith, low, c.requires.size)

pub entry-requires : goal.entry-requires
entry-requires c =
    let h = c.args.dump.now.hw in
    let low = below_top h.zones c.args.p c.is_hardware.ensures.hardware.zones.apart c.requires.valid in
    let table = frame_table_fits h (top h.zones) c.is_hardware.ensures.hardware (omega arith) in
    omega (arith, low, table, c.requires.size, c.frame_table.ensures.frame)
