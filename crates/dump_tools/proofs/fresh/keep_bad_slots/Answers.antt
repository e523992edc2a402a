use Rattle.std.proofs.Common.{◌≡◌, ℕ, List, length, sym, ap, ◌∙◌, subst, arith}
use Rattle.std.specs.List.{range_with_len}
use Rattle.definitions.specs.Tables.{HasTable, entry_at, with_entry}
use Rattle.plain_machine.specs.FreshMemory.{with_each_entry}
use Rattle.plain_machine.proofs.EachEntry.{each-none, each-range_more, length-each}
use Rattle.swap_slots.specs.Entries.{word_of}
use Rattle.swap_slots.specs.declared.table.SlotTable.{SlotTable}
use Rattle.machine.proofs.Rows.{slot_table_fits}
use Rattle.dump_tools.specs.KeptSlots.{kept_entry, kept_slot}
use Rattle.dump_tools.proofs.fresh.keep_bad_slots.Goals as goal

pub loop-slot-init : goal.loop-slot-init
loop-slot-init c = sym (each-none (kept_slot c.args.hw.now c.args.before.now) c.args.hw.now.slot_table c.args.frames.now)

pub kept_entry-entry-requires-clause-table : goal.kept_entry-entry-requires-clause-table
kept_entry-entry-requires-clause-table c =
    let h = c.args.hw.now in
    let fits = slot_table_fits h c.slot_table-table.ensures.hardware in
    let size = c.requires.before in
    let table : HasTable c.args.before.now h.slot_table h.slots = omega arith in
    subst (λ (t : SlotTable). HasTable c.args.before.now t.first t.slots) (sym c.slot_table-table.ensures.table) table

pub set-requires-clause-table : goal.set-requires-clause-table
set-requires-clause-table c =
    let h = c.args.hw.now in
    let kept : length c.loop-slot.frames ≡ length c.args.frames.now =
    ap length c.loop-slot.invariant ∙ length-each (kept_slot h c.args.before.now) (range_with_len 0 c.loop-slot.slot) h.slot_table c.args.frames.now in
    let fits = slot_table_fits h c.slot_table-table.ensures.hardware in
    let size = c.requires.size in
    let table : HasTable c.loop-slot.frames h.slot_table h.slots = omega arith in
    subst (λ (t : SlotTable). HasTable c.loop-slot.frames t.first t.slots) (sym c.slot_table-table.ensures.table) table

pub loop-slot-preserved : goal.loop-slot-preserved
loop-slot-preserved c =
    let e = kept_slot c.args.hw.now c.args.before.now in
    let table = c.args.hw.now.slot_table in
    let slot = c.loop-slot.slot in
    let so_far = with_each_entry e (range_with_len 0 slot) table c.args.frames.now in
    let word = word_of c.kept_entry-entry.result in
    let entry : word ≡ e slot =
    c.kept_entry-entry.ensures ∙ ap (λ (t : SlotTable). kept_entry slot (entry_at c.args.before.now t.first slot)) c.slot_table-table.ensures.table in
    c.set.ensures.entry
    ∙ ap (λ (m : List (List ℕ)). with_entry m c.slot_table-table.result.first slot word) c.loop-slot.invariant
    ∙ ap (λ (t : SlotTable). with_entry so_far t.first slot word) c.slot_table-table.ensures.table
    ∙ ap (with_entry so_far table slot) entry
    ∙ each-range_more e 0 slot slot table c.args.frames.now (omega arith)
