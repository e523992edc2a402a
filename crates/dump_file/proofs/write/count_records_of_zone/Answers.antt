use Rattle.std.proofs.Common.{sym, ◌∙◌, arith}
use Rattle.dump_file.proofs.ZoneRecords.{count-range_more, count-range_skip}
use Rattle.dump_file.proofs.write.count_records_of_zone.Goals as goal
use Rattle.dump_file.proofs.write.count_records_of_zone.Goals.{then-not-is_zero, else-not-is_zero}

pub loop-i-preserved : goal.loop-i-preserved
loop-i-preserved c =
    let m = c.args.frames.now in
    elim c.if-not-is_zero.branch [
      | then-not-is_zero w ↦ let more = count-range_more m c.args.start c.loop-i.i (sym c.is_zero.ensures ∙ w.if-not-is_zero.true) in record { counted = omega (arith, more, w.total-is, c.loop-i.invariant.counted); few = omega (arith, w.total-is, c.loop-i.invariant.few) }
      | else-not-is_zero w ↦ let same = count-range_skip m c.args.start c.loop-i.i (sym c.is_zero.ensures ∙ w.if-not-is_zero.false) in record { counted = omega (arith, same, w.total-is, c.loop-i.invariant.counted); few = omega (arith, w.total-is, c.loop-i.invariant.few) }
    ]
