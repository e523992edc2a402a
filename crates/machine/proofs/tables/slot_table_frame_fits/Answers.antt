use Rattle.std.proofs.Common.{◌+◌, ℕ, arith, subst}
use Rattle.machine.proofs.Rows.{table_below}
use Rattle.machine.proofs.TableFaults.{IsUsed, decides_slot_table_frame}
use Rattle.machine.proofs.tables.slot_table_frame_fits.Goals as goal

pub overflow_add-slot_table : goal.overflow_add-slot_table
overflow_add-slot_table c =
    let hw = c.slot_table.ensures.hardware in
    let low = (table_below c.args.hw.now hw).1 in
    let e = c.slot_table.ensures.frame in
    let few = hw.few_slots in
    let within = c.requires.within in
    omega arith

pub returns-then-is_used : goal.returns-then-is_used
returns-then-is_used c =
    let h = c.args.hw.now in
    let m = c.args.frames.now in
    let P : ℕ → Type 0 = λ first. IsUsed h m (first + c.args.i) in
    let used : P h.slot_table = subst P c.slot_table.ensures.frame (c.is_used.ensures.0 c.if-is_used.true) in
    decides_slot_table_frame h m c.args.i c.slots_fit.result c.slot_table.ensures.hardware c.requires.within (λ e. (used, c.slots_fit.ensures.0 e)) (λ u right. c.slots_fit.ensures.1 right)
