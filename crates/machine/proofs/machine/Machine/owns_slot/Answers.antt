use Rattle.std.proofs.Common.{sym, subst, arith}
use Rattle.definitions.specs.Tables.{HasTable}
use Rattle.swap_slots.specs.declared.table.SlotTable.{SlotTable}
use Rattle.machine.proofs.Rows.{slot_table_fits}
use Rattle.machine.proofs.machine.Machine.owns_slot.Goals as goal

pub entry-requires-clause-table : goal.entry-requires-clause-table
entry-requires-clause-table c =
    let h = c.args.self.now.hw in
    let fits = slot_table_fits h c.slot_table-table.ensures.hardware in
    let size = c.requires.size in
    let table : HasTable c.args.frames.now h.slot_table h.slots = omega arith in
    subst (λ (t : SlotTable). HasTable c.args.frames.now t.first t.slots) (sym c.slot_table-table.ensures.table) table
