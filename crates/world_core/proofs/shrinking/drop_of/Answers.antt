use Rattle.std.proofs.Common.{ap, arith}
use Rattle.definitions.specs.Zones.{top}
use Rattle.machine.proofs.Rows.{frame_table_fits}
use Rattle.world_core.proofs.shrinking.drop_of.Goals as goal

pub shrink-requires : goal.shrink-requires
shrink-requires c =
    let h = c.args.hw.now in
    let fits = frame_table_fits h (top h.zones) c.frame_table.ensures.hardware (omega arith) in
    let size = c.requires.size in
    let table = c.frame_table-2.ensures.frame in
    let zones = ap top c.zones-zones.ensures.zones in
    omega arith
