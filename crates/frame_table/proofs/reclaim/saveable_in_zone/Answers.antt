use Rattle.std.proofs.Common.{◌-◌, [], ◌∷◌, filter, length, length-append, ap, arith}
use Rattle.std.specs.List.{range_with_len}
use Rattle.definitions.proofs.Picks.{picks_one, picks_none}
use Rattle.frame_table.specs.Tests.{saveable_by_entry}
use Rattle.frame_table.proofs.DropLaws.{saveable-true, saveable-false}
use Rattle.frame_table.proofs.reclaim.saveable_in_zone.Goals as goal
use Rattle.frame_table.proofs.reclaim.saveable_in_zone.Goals.{then-saveable, else-saveable}

pub loop-p-preserved : goal.loop-p-preserved
loop-p-preserved c =
    let view = c.args.view.now in
    let test = saveable_by_entry view.table view.frames.now in
    let p = c.loop-p.p in
    let start = c.args.zone.0 in
    let count = c.loop-p.invariant.0 in
    let few = c.loop-p.invariant.1 in
    let from = c.loop-p.auto.p in
    let end = c.loop-p.auto.p-end in
    let in' = c.requires.valid p from (omega arith) in
    elim c.if-saveable.branch [
      | then-saveable w ↦
          let saved_is = w.saved-is in
          let more = ap length (picks_one test start p from (saveable-true view.zones.now view.table view.frames.now p (c.saveable.ensures.0 w.if-saveable.true))) in
          let sum = length-append (filter test (range_with_len start (p - start))) (p ∷ []) in
          (omega arith, omega arith)
      | else-saveable w ↦
          let saved_is = w.saved-is in
          let same = ap length (picks_none test start p from (saveable-false view.zones.now view.table view.frames.now p in' c.saveable.result c.saveable.ensures.1 w.if-saveable.false)) in
          (omega arith, omega arith)
    ]
