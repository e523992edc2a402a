use Rattle.std.proofs.Common.{List, subst}
use Rattle.std.specs.List.{fold}
use Rattle.std.proofs.lemmas.List.{take_all}
use Rattle.sector_disk.specs.Recorded.{AreKept, after}
use Rattle.sector_disk.specs.declared.recorded.Recorded.{Recorded}
use Rattle.sector_disk.proofs.Recordings.{kept_more}
use Rattle.sector_disk.proofs.recorded.redo_all.Goals as goal

pub loop-call-preserved : goal.loop-call-preserved
loop-call-preserved c = λ blocks held whole sizes kept.
    kept_more blocks held c.args.log.now c.loop-call.call-index c.call-item.result c.loop-call.durable c.loop-call.live c.redo.new.durable c.redo.new.live c.loop-call-test.true c.call-item.is
    whole sizes (c.loop-call.invariant blocks held whole sizes kept) c.redo.ensures

pub returns : goal.returns
returns c = λ blocks held whole sizes kept.
    subst (λ (xs : List Recorded). AreKept (fold after held xs) c.loop-call.durable c.loop-call.live) (take_all c.loop-call.call-index c.args.log.now c.loop-call-test.false) (c.loop-call.invariant blocks held whole sizes kept)
