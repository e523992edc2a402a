use Rattle.std.proofs.Common.{ap, sym, subst, arith}
use Rattle.definitions.specs.Tables.{HasTable}
use Rattle.definitions.proofs.ZoneNumbers.{below_top}
use Rattle.swap_slots.specs.declared.table.SlotTable.{SlotTable}
use Rattle.machine.proofs.Rows.{slot_table_fits}
use Rattle.machine.proofs.machine.Machine.end_out.Goals as goal

pub block-requires : goal.block-requires
block-requires g c = (c.requires.ready.flights.outs c.requires.flies.0 c.args.slot c.args.p c.requires.flies.1).below

pub page-requires : goal.page-requires
page-requires g c =
    let h = c.args.self.now.hw in
    let valid = (c.requires.ready.flights.outs c.requires.flies.0 c.args.slot c.args.p c.requires.flies.1).valid in
    let low = below_top h.zones c.args.p c.block.ensures.hardware.zones.apart valid in
    let size = c.requires.ready.size in
    omega arith

pub write-requires : goal.write-requires
write-requires g c =
    let below = (c.requires.ready.flights.outs c.requires.flies.0 c.args.slot c.args.p c.requires.flies.1).below in
    let block = c.block.ensures.block in
    let blocks = c.requires.blocks in
    omega arith

pub give-requires-clause-slot : goal.give-requires-clause-slot
give-requires-clause-slot g c =
    let slot = (c.requires.ready.flights.outs c.requires.flies.0 c.args.slot c.args.p c.requires.flies.1).slot in
    let slots = ap (λ (t : SlotTable). t.slots) c.slot_table-table.ensures.table in
    omega arith

pub give-requires-clause-table : goal.give-requires-clause-table
give-requires-clause-table g c =
    let h = c.args.self.now.hw in
    let fits = slot_table_fits h c.block.ensures.hardware in
    let size = c.requires.ready.size in
    let table : HasTable c.args.frames.now h.slot_table h.slots = omega arith in
    subst (λ (t : SlotTable). HasTable c.args.frames.now t.first t.slots) (sym c.slot_table-table.ensures.table) table
