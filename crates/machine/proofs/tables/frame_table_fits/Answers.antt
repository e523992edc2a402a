use Rattle.std.proofs.Common.{◌≡◌, ◌+◌, ℕ, true, Some, sym, ap, ◌∙◌, arith}
use Rattle.std.proofs.lemmas.Bool.{not-false}
use Rattle.definitions.specs.Zones.{top}
use Rattle.definitions.proofs.ZoneNumbers.{top_at_most}
use Rattle.plain_machine.specs.Machine.{is_table_at_fault, table_len}
use Rattle.machine.proofs.Rows.{table_below}
use Rattle.machine.proofs.TableFaults.{find-first, find-none}
use Rattle.machine.proofs.tables.frame_table_fits.Goals as goal

pub overflow_add-result : goal.overflow_add-result
overflow_add-result c =
    let h = c.args.hw.now in
    let low = (table_below h c.zones.ensures.hardware).0 in
    let e = c.frame_table.ensures.frame in
    let high = top_at_most h.zones c.zones.ensures.hardware.zones in
    let top_is : c.top.result ≡ top h.zones = c.top.ensures.top ∙ ap top c.zones.ensures.zones in
    let len = c.table_len-i-end.ensures in
    let below = c.loop-i-test.true in
    omega arith

pub returns-then-not-frame_table_frame_fits : goal.returns-then-not-frame_table_frame_fits
returns-then-not-frame_table_frame_fits c =
    let h = c.args.hw.now in
    let fault = is_table_at_fault h c.args.frames.now in
    let top_is : c.top.result ≡ top h.zones = c.top.ensures.top ∙ ap top c.zones.ensures.zones in
    let len = c.table_len-i-end.ensures in
    let below = c.loop-i-test.true in
    let here : fault (h.frame_table + c.loop-i.i) ≡ true = not-false (fault (h.frame_table + c.loop-i.i)) (sym c.frame_table_frame_fits.ensures ∙ c.if-not-frame_table_frame_fits.true) in
    find-first fault h.frame_table (table_len (top h.zones)) c.loop-i.i (omega arith) c.loop-i.invariant here
    ∙ ap (λ (first : ℕ). Some (first + c.loop-i.i)) (sym c.frame_table.ensures.frame)

pub returns : goal.returns
returns c =
    let h = c.args.hw.now in
    let top_is : c.top.result ≡ top h.zones = c.top.ensures.top ∙ ap top c.zones.ensures.zones in
    let len = c.table_len-i-end.ensures in
    let over = c.loop-i-test.false in
    find-none (is_table_at_fault h c.args.frames.now) h.frame_table (table_len (top h.zones)) (λ i lt. c.loop-i.invariant i (omega arith))
