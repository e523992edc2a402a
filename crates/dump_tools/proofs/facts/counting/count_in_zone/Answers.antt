use Rattle.std.proofs.Common.{◌-◌, [], ◌∷◌, filter, length, length-append, ap, sym, ◌∙◌, arith}
use Rattle.std.specs.List.{range_with_len}
use Rattle.definitions.proofs.Picks.{picks_one, picks_none}
use Rattle.dump_tools.specs.Counts.{is_of}
use Rattle.dump_tools.proofs.facts.counting.count_in_zone.Goals as goal
use Rattle.dump_tools.proofs.facts.counting.count_in_zone.Goals.{then-is_of, else-is_of}

pub is_of-requires-clause-valid : goal.is_of-requires-clause-valid
is_of-requires-clause-valid c = c.requires.valid c.loop-p.p c.loop-p.auto.p (omega (arith, c.loop-p-test.true))

pub loop-p-preserved : goal.loop-p-preserved
loop-p-preserved c =
    let d = c.args.dump.now in
    let test = is_of d.hw d.frames c.args.kind in
    let p = c.loop-p.p in
    let start = c.args.zone.0 in
    let total = c.loop-p.invariant.0 in
    let few = c.loop-p.invariant.1 in
    let from = c.loop-p.auto.p in
    elim c.if-is_of.branch [
      | then-is_of w ↦
          let total_is = w.total-is in
          let more = ap length (picks_one test start p from (sym c.is_of.ensures ∙ w.if-is_of.true)) in
          let sum = length-append (filter test (range_with_len start (p - start))) (p ∷ []) in
          (omega (arith, total, total_is, more, sum), omega (arith, few, total_is, from))
      | else-is_of w ↦
          let total_is = w.total-is in
          let same = ap length (picks_none test start p from (sym c.is_of.ensures ∙ w.if-is_of.false)) in
          (omega (arith, total, total_is, same), omega (arith, few, total_is, from))
    ]
