use Rattle.std.proofs.Common.{List, [], ◌∷◌, map, subst}
use Rattle.image_show.specs.Runs.{list_of}
use Rattle.image_show.specs.Told.{block_run}
use Rattle.image_show.specs.declared.facts.fact.Fact.{Fact}
use Rattle.image_show.specs.declared.facts.fact.Fact.TheVariants.{Maps}
use Rattle.image_show.specs.Forms.{Puts, PutsFront}
use Rattle.image_show.proofs.Putting.{front_first, front_then, on_ok_then, whole_then}
use Rattle.image_show.proofs.blocks.print_end.Goals as goal

pub returns-in_err-print_any-clause-front : goal.returns-in_err-print_any-clause-front
returns-in_err-print_any-clause-front g c =
    let old = g.F.Form.written c.args.form.now in
    let new = g.F.Form.written c.print_any.new.form in
    front_first g.F.Form.style (map block_run (list_of c.args.last)) (Maps c.args.maps ∷ []) old new
    (subst (λ (fs : List Fact). PutsFront g.F.Form.style fs old new) c.block_run.ensures c.print_any.ensures.front)

pub returns-clause-whole : goal.returns-clause-whole
returns-clause-whole g c =
    let old = g.F.Form.written c.args.form.now in
    let mid = g.F.Form.written c.print_any.new.form in
    let new = g.F.Form.written c.print.new.form in
    on_ok_then c.print.result
    (whole_then g.F.Form.style (map block_run (list_of c.args.last)) (Maps c.args.maps ∷ []) old mid new
    (subst (λ (fs : List Fact). Puts g.F.Form.style fs old mid) c.block_run.ensures c.in_ok-print_any.ensures.whole)) c.print.ensures.whole

pub returns-clause-front : goal.returns-clause-front
returns-clause-front g c =
    let old = g.F.Form.written c.args.form.now in
    let mid = g.F.Form.written c.print_any.new.form in
    let new = g.F.Form.written c.print.new.form in
    front_then g.F.Form.style (map block_run (list_of c.args.last)) (Maps c.args.maps ∷ []) old mid new
    (subst (λ (fs : List Fact). Puts g.F.Form.style fs old mid) c.block_run.ensures c.in_ok-print_any.ensures.whole) c.print.ensures.front
