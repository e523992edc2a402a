use Rattle.std.proofs.Common.{◌≡◌, ℕ, List, length, sym, ap, ◌∙◌, arith}
use Rattle.std.specs.List.{range_with_len}
use Rattle.definitions.specs.Tables.{entry_of, with_entry}
use Rattle.definitions.specs.Zones.{top}
use Rattle.machine.proofs.Rows.{frame_table_fits}
use Rattle.plain_machine.specs.FreshMemory.{with_each_entry}
use Rattle.plain_machine.proofs.EachEntry.{each-none, each-range_more, length-each}
use Rattle.image_machine.specs.Machines.{entry_with}
use Rattle.image_machine.proofs.in_use.set_in_use.Goals as goal

pub loop-p-init : goal.loop-p-init
loop-p-init c = sym (each-none (entry_with c.args.hw.now c.args.saved.now.members) c.args.hw.now.frame_table c.args.frames.now)

pub set_entry-requires : goal.set_entry-requires
set_entry-requires c =
    let h = c.args.hw.now in
    let size : length c.loop-p.frames ≡ top h.zones =
    ap length c.loop-p.invariant ∙ length-each (entry_with h c.args.saved.now.members) (range_with_len 0 c.loop-p.p) h.frame_table c.args.frames.now ∙ c.requires in
    let fits = frame_table_fits h (top h.zones) c.frame_table.ensures.hardware (omega arith) in
    let first = c.frame_table.ensures.frame in
    let below = c.loop-p-test.true in
    let end = c.top-p-end.ensures.top in
    let zones = ap top c.zones.ensures.zones in
    omega arith

pub loop-p-preserved : goal.loop-p-preserved
loop-p-preserved c =
    let h = c.args.hw.now in
    let e = entry_with h c.args.saved.now.members in
    let p = c.loop-p.p in
    let before = with_each_entry e (range_with_len 0 p) h.frame_table c.args.frames.now in
    let kept : c.from_bits_retain-flags.result.0 ≡ e p = c.from_bits_retain-flags.ensures tt ∙ c.flags_with.ensures in
    let value : entry_of c.from_bits_retain-flags.result.0 0 ≡ e p = omega arith in
    c.set_entry.ensures.entry
    ∙ ap (λ (m : List (List ℕ)). with_entry m c.frame_table.result p (entry_of c.from_bits_retain-flags.result.0 0)) c.loop-p.invariant
    ∙ ap (λ (t : ℕ). with_entry before t p (entry_of c.from_bits_retain-flags.result.0 0)) c.frame_table.ensures.frame
    ∙ ap (with_entry before h.frame_table p) value
    ∙ each-range_more e 0 p p h.frame_table c.args.frames.now (omega arith)

pub returns-clause-len : goal.returns-clause-len
returns-clause-len c = ap length c.loop-p.invariant ∙ length-each (entry_with c.args.hw.now c.args.saved.now.members) (range_with_len 0 c.loop-p.p) c.args.hw.now.frame_table c.args.frames.now

pub returns-clause-set : goal.returns-clause-set
returns-clause-set c =
    let h = c.args.hw.now in
    let past = c.loop-p-test.false in
    let end = c.top-p-end.ensures.top in
    let zones = ap top c.zones.ensures.zones in
    let low = c.loop-p.auto.p-end in
    let at : c.loop-p.p ≡ top h.zones = omega arith in
    c.loop-p.invariant
    ∙ ap (λ (n : ℕ). with_each_entry (entry_with h c.args.saved.now.members) (range_with_len 0 n) h.frame_table c.args.frames.now) at
