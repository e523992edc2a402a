use Rattle.std.proofs.Common.{sym, subst}
use Rattle.hib_core.proofs.BeginTables.{slot_table_lies}
use Rattle.swap_slots.specs.Table.{LiesIn}
use Rattle.world_core.proofs.world.World.into_dump.Goals as goal

pub give_image-requires-clause-table : goal.give_image-requires-clause-table
give_image-requires-clause-table c =
    subst (LiesIn c.self.inside.frames) (sym c.slot_table.ensures.table)
    (slot_table_lies c.self.inside.machine.hw c.self.inside.frames c.slot_table.ensures.hardware c.self.invariant.size)
