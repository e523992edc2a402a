use Rattle.std.proofs.Common.{◌+◌, ℕ, arith, subst}
use Rattle.definitions.proofs.ZoneNumbers.{top_at_most}
use Rattle.machine.proofs.Rows.{table_below}
use Rattle.machine.proofs.TableFaults.{IsUsed, decides_frame_table_frame}
use Rattle.machine.proofs.tables.frame_table_frame_fits.Goals as goal

pub overflow_add-frame_table : goal.overflow_add-frame_table
overflow_add-frame_table c =
    let hw = c.frame_table.ensures.hardware in
    let low = (table_below c.args.hw.now hw).0 in
    let e = c.frame_table.ensures.frame in
    let high = top_at_most c.args.hw.now.zones hw.zones in
    let within = c.requires.within in
    omega arith

pub returns-then-is_used : goal.returns-then-is_used
returns-then-is_used c =
    let h = c.args.hw.now in
    let m = c.args.frames.now in
    let P : ℕ → Type 0 = λ first. IsUsed h m (first + c.args.i) in
    let used : P h.frame_table = subst P c.frame_table.ensures.frame (c.is_used.ensures.0 c.if-is_used.true) in
    decides_frame_table_frame h m c.args.i c.entries_fit.result c.frame_table.ensures.hardware c.requires.within (λ e. (used, c.entries_fit.ensures.0 e)) (λ u right. c.entries_fit.ensures.1 right)
