use Rattle.std.proofs.Common.{ℕ, ◌+◌, ◌≤◌, List, sym, ◌∙◌, subst, arith}
use Rattle.dump_file.specs.Written.{records_bytes}
use Rattle.std.specs.List.{range_with_len}
use Rattle.definitions.specs.Streams.{TakesAll}
use Rattle.dump_file.proofs.ZoneRecords.{front_of_range, all_of_range_more, records-range_skip}
use Rattle.dump_file.proofs.write.put_records_of_zone.Goals as goal
use Rattle.dump_file.proofs.write.put_records_of_zone.Goals.{then-not-is_zero+in_ok-put_record, else-not-is_zero}

pub returns-in_err-put_record-clause-front : goal.returns-in_err-put_record-clause-front
returns-in_err-put_record-clause-front g c =
    let taken = g.K.Sink.taken in
    front_of_range c.args.frames.now c.args.start c.loop-i.i c.args.count (taken c.args.sink.now) (taken c.loop-i.sink) (taken c.put_record.new.sink)
    (omega arith) (sym c.is_zero.ensures ∙ c.if-not-is_zero.true) c.loop-i.invariant.so_far c.put_record.ensures.front

pub loop-i-preserved : goal.loop-i-preserved
loop-i-preserved g c =
    let m = c.args.frames.now in
    let taken = g.K.Sink.taken in
    elim c.if-not-is_zero.branch [
      | then-not-is_zero+in_ok-put_record w ↦
          record {
            so_far =
                subst (λ sink. TakesAll (records_bytes m (range_with_len c.args.start (c.loop-i.i + 1))) (taken c.args.sink.now) (taken sink)) (sym w.sink-is)
                (all_of_range_more m c.args.start c.loop-i.i (taken c.args.sink.now) (taken c.loop-i.sink) (taken w.put_record.new.sink) (sym c.is_zero.ensures ∙ w.if-not-is_zero.true) c.loop-i.invariant.so_far w.in_ok-put_record.ensures.whole);
            counted =
                subst (λ sink. g.K.Sink.faults c.args.sink.now ≤ g.K.Sink.faults sink) (sym w.sink-is)
                (omega (arith, c.loop-i.invariant.counted, w.put_record.ensures.counted));
          }
      | else-not-is_zero w ↦
          record {
            so_far =
                subst (λ sink. TakesAll (records_bytes m (range_with_len c.args.start (c.loop-i.i + 1))) (taken c.args.sink.now) (taken sink)) (sym w.sink-is)
                (subst (λ (text : List ℕ). TakesAll text (taken c.args.sink.now) (taken c.loop-i.sink)) (sym (records-range_skip m c.args.start c.loop-i.i (sym c.is_zero.ensures ∙ w.if-not-is_zero.false))) c.loop-i.invariant.so_far);
            counted =
                subst (λ sink. g.K.Sink.faults c.args.sink.now ≤ g.K.Sink.faults sink) (sym w.sink-is) c.loop-i.invariant.counted;
          }
    ]
