use Rattle.std.proofs.Common.{◌≡◌, ℕ, List, length, sym, ap, ◌∙◌, subst, arith}
use Rattle.std.specs.List.{range_with_len}
use Rattle.definitions.specs.Tables.{HasTable, with_entry}
use Rattle.plain_machine.specs.FreshMemory.{with_each_entry}
use Rattle.plain_machine.proofs.EachEntry.{each-none, each-range_more, length-each}
use Rattle.swap_slots.specs.Entries.{word_of}
use Rattle.swap_slots.specs.declared.table.SlotTable.{SlotTable}
use Rattle.machine.proofs.Rows.{slot_table_fits}
use Rattle.machine.specs.FreshSlots.{slot_of_area}
use Rattle.machine.proofs.fresh.set_slots.Goals as goal

pub loop-slot-init : goal.loop-slot-init
loop-slot-init c = sym (each-none (slot_of_area c.args.area.now) c.args.hw.now.slot_table c.args.frames.now)

pub set-requires-clause-table : goal.set-requires-clause-table
set-requires-clause-table c =
    let h = c.args.hw.now in
    let size : length c.loop-slot.frames ≡ length c.args.frames.now =
    ap length c.loop-slot.invariant ∙ length-each (slot_of_area c.args.area.now) (range_with_len 0 c.loop-slot.slot) h.slot_table c.args.frames.now in
    let fits = slot_table_fits h c.slot_table-table.ensures.hardware in
    let all = c.requires in
    let table : HasTable c.loop-slot.frames h.slot_table h.slots = omega arith in
    subst (λ (t : SlotTable). HasTable c.loop-slot.frames t.first t.slots) (sym c.slot_table-table.ensures.table) table

pub loop-slot-preserved : goal.loop-slot-preserved
loop-slot-preserved c =
    let e = slot_of_area c.args.area.now in
    let table = c.args.hw.now.slot_table in
    let slot = c.loop-slot.slot in
    let so_far = with_each_entry e (range_with_len 0 slot) table c.args.frames.now in
    let word = word_of c.fresh_slot.result in
    c.set.ensures.entry
    ∙ ap (λ (m : List (List ℕ)). with_entry m c.slot_table-table.result.first slot word) c.loop-slot.invariant
    ∙ ap (λ (t : SlotTable). with_entry so_far t.first slot word) c.slot_table-table.ensures.table
    ∙ ap (with_entry so_far table slot) c.fresh_slot.ensures
    ∙ each-range_more e 0 slot slot table c.args.frames.now (omega arith)

pub returns-clause-len : goal.returns-clause-len
returns-clause-len c = ap length c.loop-slot.invariant ∙ length-each (slot_of_area c.args.area.now) (range_with_len 0 c.loop-slot.slot) c.args.hw.now.slot_table c.args.frames.now
