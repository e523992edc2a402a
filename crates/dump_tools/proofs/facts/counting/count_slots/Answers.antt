use Rattle.std.proofs.Common.{◌==◌, ℕ, Bool, sym, ap, ◌∙◌, subst, arith}
use Rattle.std.proofs.lemmas.Bool.{eq-eqb, ne_eqb, both_ways}
use Rattle.definitions.specs.Tables.{HasTable, entry_at}
use Rattle.plain_machine.specs.Machine.{slot_entry}
use Rattle.swap_slots.specs.Entries.{entry_of_word, word_of}
use Rattle.swap_slots.specs.declared.table.SlotTable.{SlotTable}
use Rattle.machine.proofs.Rows.{slot_table_fits}
use Rattle.dump_tools.proofs.Owners.{counted_one, counted_none}
use Rattle.dump_tools.proofs.Seen.{seen_as}
use Rattle.dump_tools.proofs.facts.counting.count_slots.Goals as goal
use Rattle.dump_tools.proofs.facts.counting.count_slots.Goals.{then-is_seen_as, else-is_seen_as}

pub entry-requires-clause-table : goal.entry-requires-clause-table
entry-requires-clause-table c =
    let h = c.args.dump.now.hw in
    let fits = slot_table_fits h c.slot_table-table.ensures.hardware in
    let size = c.requires.size in
    let table : HasTable c.args.dump.now.frames h.slot_table h.slots = omega arith in
    subst (λ (t : SlotTable). HasTable c.args.dump.now.frames t.first t.slots) (sym c.slot_table-table.ensures.table) table

pub loop-slot-preserved : goal.loop-slot-preserved
loop-slot-preserved c =
    let h = c.args.dump.now.hw in
    let m = c.args.dump.now.frames in
    let slot = c.loop-slot.slot in
    let word = word_of c.args.entry in
    let test : ℕ → Bool = λ s. slot_entry h m s == word in
    let total = c.loop-slot.invariant.0 in
    let few = c.loop-slot.invariant.1 in
    let is = c.entry.ensures.entry ∙ ap (λ (t : SlotTable). entry_of_word (entry_at m t.first slot)) c.slot_table-table.ensures.table in
    let told = seen_as h m slot c.entry.result c.args.entry is c.requires.entry in
    elim c.if-is_seen_as.branch [
      | then-is_seen_as w ↦
          let more = counted_one test slot (eq-eqb (slot_entry h m slot) word (told.0 (c.is_seen_as.ensures.0 w.if-is_seen_as.true))) in
          (omega (arith, total, more, w.total-is), omega (arith, few, w.total-is))
      | else-is_seen_as w ↦
          let same = counted_none test slot (ne_eqb (slot_entry h m slot) word (λ e. both_ways c.is_seen_as.result w.if-is_seen_as.false (c.is_seen_as.ensures.1 (told.1 e)))) in
          (omega (arith, total, same, w.total-is), omega (arith, few, w.total-is))
    ]
