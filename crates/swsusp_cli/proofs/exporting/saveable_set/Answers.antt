use Rattle.std.proofs.Common.{ap, arith}
use Rattle.definitions.specs.Zones.{top}
use Rattle.machine.proofs.Rows.{frame_table_fits}
use Rattle.swsusp_cli.proofs.exporting.saveable_set.Goals as goal

pub mark_all-requires-clause-table : goal.mark_all-requires-clause-table
mark_all-requires-clause-table c =
    let h = c.args.dump.now.hw in
    let size = c.requires.size in
    let first = c.frame_table.ensures.frame in
    let zones = ap top c.zones-zones.ensures.zones in
    let table = frame_table_fits h (top h.zones) c.zones-zones.ensures.hardware (omega arith) in
    omega arith
