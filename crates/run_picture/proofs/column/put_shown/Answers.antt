use Rattle.std.proofs.Common.{◌++◌, ◌∙◌, Bool, ap}
use Rattle.run_picture.specs.Lanes.{after, begins}
use Rattle.run_picture.specs.Picture.{shown_by}
use Rattle.run_picture.specs.declared.calls.Drawn.{Drawn}
use Rattle.run_picture.specs.declared.lanes.Lanes.{Lanes}
use Rattle.run_picture.proofs.column.put_shown.Goals as goal

pub returns-clause-added : goal.returns-clause-added
returns-clause-added c =
    let old = c.args.piece.now in
    let e = c.args.event.now in
    let image = c.args.lanes.image in
    let new = after c.args.lanes e c.args.told in
    c.put_shown_by.ensures.added
    ∙ ap (λ (x : Lanes). old ++ shown_by image x c.begins.result c.call_of-call.result e) c.after-after.ensures
    ∙ ap (λ (x : Bool). old ++ shown_by image new x c.call_of-call.result e) c.begins.ensures
    ∙ ap (λ (x : Drawn). old ++ shown_by image new (begins e c.args.told) x e) c.call_of-call.ensures
