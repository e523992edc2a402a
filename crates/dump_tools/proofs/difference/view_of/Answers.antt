use Rattle.std.proofs.Common.{ap, arith}
use Rattle.definitions.specs.Zones.{top}
use Rattle.machine.proofs.Rows.{frame_table_fits}
use Rattle.dump_tools.proofs.difference.view_of.Goals as goal

pub returns-clause-has_table : goal.returns-clause-has_table
returns-clause-has_table c =
    let h = c.args.dump.now.hw in
    let size = c.requires in
    let first = c.frame_table.ensures.frame in
    let zones = ap top c.zones.ensures.zones in
    let table = frame_table_fits h (top h.zones) c.zones.ensures.hardware (omega arith) in
    omega arith
