use Rattle.script.proofs.DrillLaws.{drill_fits}
use Rattle.script.proofs.drill.hardware.Goals as goal

pub unreachable-requires : goal.unreachable-requires
unreachable-requires c = let refused = c.in-Err.ensures.refused in drill_fits c.scripted_ident.result c.in-Err.field-0 refused
