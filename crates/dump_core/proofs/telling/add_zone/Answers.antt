use Rattle.std.proofs.Common.{◌-◌, [], ◌∷◌, ◌++◌, ◌∙◌, List, ℕ, filter, sym, ap, append_assoc}
use Rattle.std.specs.List.{range_with_len}
use Rattle.std.specs.Prelude.{vec_items}
use Rattle.definitions.specs.FreeRuns.{runs_of}
use Rattle.definitions.proofs.Picks.{picks_one, picks_none}
use Rattle.dump_core.specs.Cores.{is_told}
use Rattle.dump_core.proofs.telling.add_zone.Goals as goal
use Rattle.dump_core.proofs.telling.add_zone.Goals.{then-is_told+in_ok-add_number, else-is_told}

pub loop-p-preserved : goal.loop-p-preserved
loop-p-preserved c = λ below e.
    let d = c.args.dump.now in
    let test = is_told d.hw d.frames in
    let p = c.loop-p.p in
    let start = c.args.zone.0 in
    let so_far = filter test (range_with_len start (p - start)) in
    elim c.if-is_told.branch [
      | then-is_told+in_ok-add_number w ↦
          ap vec_items w.runs-is ∙ w.in_ok-add_number.ensures (below ++ so_far) (c.loop-p.invariant below e)
          ∙ ap runs_of (append_assoc below so_far (p ∷ []))
          ∙ ap (λ (ns : List ℕ). runs_of (below ++ ns)) (sym (picks_one test start p c.loop-p.auto.p (sym c.is_told.ensures ∙ w.if-is_told.true)))
      | else-is_told w ↦
          ap vec_items w.runs-is ∙ c.loop-p.invariant below e
          ∙ ap (λ (ns : List ℕ). runs_of (below ++ ns)) (sym (picks_none test start p c.loop-p.auto.p (sym c.is_told.ensures ∙ w.if-is_told.false)))
    ]
