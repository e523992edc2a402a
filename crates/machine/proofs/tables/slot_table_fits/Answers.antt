use Rattle.std.proofs.Common.{◌≡◌, ◌+◌, ℕ, true, Some, sym, ap, ◌∙◌, arith}
use Rattle.std.proofs.lemmas.Bool.{not-false}
use Rattle.plain_machine.specs.Machine.{is_table_at_fault, table_len}
use Rattle.machine.proofs.Rows.{table_below}
use Rattle.machine.proofs.TableFaults.{find-first, find-none}
use Rattle.machine.proofs.tables.slot_table_fits.Goals as goal

pub overflow_add-result : goal.overflow_add-result
overflow_add-result c =
    let hw = c.slot_table.ensures.hardware in
    let low = (table_below c.args.hw.now hw).1 in
    let e = c.slot_table.ensures.frame in
    let few = hw.few_slots in
    let slots = c.slots.ensures in
    let len = c.table_len-i-end.ensures in
    let below = c.loop-i-test.true in
    omega arith

pub returns-then-not-slot_table_frame_fits : goal.returns-then-not-slot_table_frame_fits
returns-then-not-slot_table_frame_fits c =
    let h = c.args.hw.now in
    let fault = is_table_at_fault h c.args.frames.now in
    let slots = c.slots.ensures in
    let len = c.table_len-i-end.ensures in
    let below = c.loop-i-test.true in
    let here : fault (h.slot_table + c.loop-i.i) ≡ true = not-false (fault (h.slot_table + c.loop-i.i)) (sym c.slot_table_frame_fits.ensures ∙ c.if-not-slot_table_frame_fits.true) in
    find-first fault h.slot_table (table_len h.slots) c.loop-i.i (omega arith) c.loop-i.invariant here
    ∙ ap (λ (first : ℕ). Some (first + c.loop-i.i)) (sym c.slot_table.ensures.frame)

pub returns : goal.returns
returns c =
    let h = c.args.hw.now in
    let slots = c.slots.ensures in
    let len = c.table_len-i-end.ensures in
    let over = c.loop-i-test.false in
    find-none (is_table_at_fault h c.args.frames.now) h.slot_table (table_len h.slots) (λ i lt. c.loop-i.invariant i (omega arith))
