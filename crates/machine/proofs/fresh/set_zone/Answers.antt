use Rattle.std.proofs.Common.{◌≡◌, ◌+◌, ◌-◌, ℕ, List, length, sym, ap, ◌∙◌, arith}
use Rattle.std.specs.List.{range_with_len}
use Rattle.definitions.specs.Tables.{with_entry, entry_of}
use Rattle.plain_machine.specs.FreshMemory.{with_each_entry, fresh_entry}
use Rattle.plain_machine.proofs.EachEntry.{each-none, each-range_more, length-each}
use Rattle.machine.proofs.fresh.set_zone.Goals as goal

pub loop-p-init : goal.loop-p-init
loop-p-init c =
    let none : 0 ≡ c.args.start - c.args.start = omega arith in
    sym (each-none (fresh_entry c.args.hw.now) c.args.hw.now.frame_table c.args.frames.now)
    ∙ ap (λ (n : ℕ). with_each_entry (fresh_entry c.args.hw.now) (range_with_len c.args.start n) c.args.hw.now.frame_table c.args.frames.now) none

pub set_entry-requires : goal.set_entry-requires
set_entry-requires c =
    let size : length c.loop-p.frames ≡ length c.args.frames.now = ap length c.loop-p.invariant ∙ length-each (fresh_entry c.args.hw.now) (range_with_len c.args.start (c.loop-p.p - c.args.start)) c.args.hw.now.frame_table c.args.frames.now in
    let table = c.requires.table in
    let first = c.frame_table.ensures.frame in
    let below = c.loop-p-test.true in
    omega arith

pub loop-p-preserved : goal.loop-p-preserved
loop-p-preserved c =
    let h = c.args.hw.now in
    let e = fresh_entry h in
    let p = c.loop-p.p in
    let from = c.loop-p.auto.p in
    let n = p - c.args.start in
    let before = with_each_entry e (range_with_len c.args.start n) h.frame_table c.args.frames.now in
    let more : n + 1 ≡ p + 1 - c.args.start = omega arith in
    let kept : c.from_bits_retain-flags.result.0 ≡ e p = c.from_bits_retain-flags.ensures tt ∙ c.fresh_flags.ensures in
    let value : entry_of c.from_bits_retain-flags.result.0 0 ≡ e p = omega arith in
    c.set_entry.ensures.entry
    ∙ ap (λ (m : List (List ℕ)). with_entry m c.frame_table.result p (entry_of c.from_bits_retain-flags.result.0 0)) c.loop-p.invariant
    ∙ ap (λ (t : ℕ). with_entry before t p (entry_of c.from_bits_retain-flags.result.0 0)) c.frame_table.ensures.frame
    ∙ ap (with_entry before h.frame_table p) value
    ∙ each-range_more e c.args.start n p h.frame_table c.args.frames.now (omega arith)
    ∙ ap (λ (k : ℕ). with_each_entry e (range_with_len c.args.start k) h.frame_table c.args.frames.now) more

pub returns-clause-len : goal.returns-clause-len
returns-clause-len c = ap length c.loop-p.invariant ∙ length-each (fresh_entry c.args.hw.now) (range_with_len c.args.start (c.loop-p.p - c.args.start)) c.args.hw.now.frame_table c.args.frames.now
