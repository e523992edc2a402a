use Rattle.std.proofs.Common.{sym, subst, arith}
use Rattle.definitions.specs.Tables.{HasTable}
use Rattle.swap_slots.specs.declared.table.SlotTable.{SlotTable}
use Rattle.machine.proofs.Rows.{slot_table_fits}
use Rattle.stream_out.proofs.slots.first_task_slot.Goals as goal

pub entry-requires-clause-table : goal.entry-requires-clause-table
entry-requires-clause-table c =
    let h = c.args.hw.now in
    let fits = slot_table_fits h c.slot_table-table.ensures.hardware in
    let size = c.requires in
    let table : HasTable c.args.frames.now h.slot_table h.slots = omega arith in
    subst (λ (t : SlotTable). HasTable c.args.frames.now t.first t.slots) (sym c.slot_table-table.ensures.table) table
