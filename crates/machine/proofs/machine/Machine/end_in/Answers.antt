use Rattle.std.proofs.Common.{ap, set, inr, sym, subst, arith}
use Rattle.definitions.specs.Tables.{HasTable}
use Rattle.definitions.proofs.ZoneNumbers.{below_top}
use Rattle.plain_machine.proofs.SameMemory.{slot_entry-set_other}
use Rattle.plain_machine.specs.Machine.{Memory, IsOfTable}
use Rattle.swap_slots.specs.Table.{Matches}
use Rattle.swap_slots.specs.declared.table.SlotTable.{SlotTable}
use Rattle.machine.specs.Running.{slot_table_of}
use Rattle.machine.proofs.Requests.{owned_apart}
use Rattle.machine.proofs.Rows.{slot_table_fits}
use Rattle.machine.proofs.SlotWrites.{matches-same}
use Rattle.machine.proofs.machine.Machine.end_in.Goals as goal

pub block-requires : goal.block-requires
block-requires g c = (c.requires.ready.flights.ins c.requires.flies.0 c.args.slot c.args.p c.requires.flies.1).below

pub read-requires : goal.read-requires
read-requires g c =
    let below = (c.requires.ready.flights.ins c.requires.flies.0 c.args.slot c.args.p c.requires.flies.1).below in
    let block = c.block.ensures.block in
    let blocks = c.requires.blocks in
    omega arith

pub give-requires-clause-slot : goal.give-requires-clause-slot
give-requires-clause-slot g c =
    let slot = (c.requires.ready.flights.ins c.requires.flies.0 c.args.slot c.args.p c.requires.flies.1).slot in
    let slots = ap (λ (t : SlotTable). t.slots) c.slot_table-slots.ensures.table in
    omega arith

pub give-requires-clause-table : goal.give-requires-clause-table
give-requires-clause-table g c =
    let h = c.args.self.now.hw in
    let fits = slot_table_fits h c.slot_table-slots.ensures.hardware in
    let size = c.requires.ready.size in
    let table : HasTable c.args.frames.now h.slot_table h.slots = omega arith in
    subst (λ (t : SlotTable). HasTable c.args.frames.now t.first t.slots) (sym c.slot_table-slots.ensures.table) table

pub write_bytes-requires : goal.write_bytes-requires
write_bytes-requires g c =
    let h = c.args.self.now.hw in
    let flies = c.requires.ready.flights.ins c.requires.flies.0 c.args.slot c.args.p c.requires.flies.1 in
    let low = below_top h.zones c.args.p c.slot_table-slots.ensures.hardware.zones.apart flies.valid in
    let size = c.requires.ready.size in
    let len = c.give.ensures.len in
    omega arith

pub returns-in-Ok-clause-matches : goal.returns-in-Ok-clause-matches
returns-in-Ok-clause-matches g c =
    let h = c.args.self.now.hw in
    let flies = c.requires.ready.flights.ins c.requires.flies.0 c.args.slot c.args.p c.requires.flies.1 in
    let apart : IsOfTable h.slot_table h.slots c.args.p → ⊥ = λ of. owned_apart h c.args.frames.now c.requires.flies.0 c.args.p c.requires.ready.reserved flies.owner flies.task.some (inr of) in
    let given = subst (λ (t : SlotTable). Matches c.give.new.frames t c.give.new.runs) c.slot_table-slots.ensures.table c.give.ensures.matches in
    subst (λ (n : Memory). Matches n (slot_table_of h) c.give.new.runs) (sym {b = set c.give.new.frames c.args.p c.as_bytes.result.now} c.write_bytes.ensures)
    (matches-same h c.give.new.frames (set c.give.new.frames c.args.p c.as_bytes.result.now) c.give.new.runs (λ s lt. slot_entry-set_other h c.give.new.frames c.args.p s c.as_bytes.result.now apart lt) given)
