use Rattle.std.proofs.Common.{◌-◌, [], ◌∷◌, filter, length, length-append, ap, sym, ◌∙◌, arith}
use Rattle.std.specs.List.{range_with_len}
use Rattle.frame_table.specs.Tests.{free_by_entry}
use Rattle.definitions.proofs.Picks.{picks_one, picks_none}
use Rattle.frame_table.proofs.view.free_in_zone.Goals as goal
use Rattle.frame_table.proofs.view.free_in_zone.Goals.{then-is_free, else-is_free}

pub loop-p-preserved : goal.loop-p-preserved
loop-p-preserved c =
    let view = c.args.view.now in
    let test = free_by_entry view.table view.frames.now in
    let p = c.loop-p.p in
    let start = c.args.zone.0 in
    let count = c.loop-p.invariant.0 in
    let few = c.loop-p.invariant.1 in
    let from = c.loop-p.auto.p in
    elim c.if-is_free.branch [
      | then-is_free w ↦
          let free_is = w.free-is in
          let more = ap length (picks_one test start p from (sym c.is_free.ensures ∙ w.if-is_free.true)) in
          let sum = length-append (filter test (range_with_len start (p - start))) (p ∷ []) in
          (omega arith, omega arith)
      | else-is_free w ↦
          let free_is = w.free-is in
          let same = ap length (picks_none test start p from (sym c.is_free.ensures ∙ w.if-is_free.false)) in
          (omega arith, omega arith)
    ]
