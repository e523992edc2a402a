use Rattle.std.proofs.Common.{List, map, subst}
use Rattle.image_show.specs.Runs.{list_of}
use Rattle.image_show.specs.Told.{block_run}
use Rattle.image_show.specs.declared.facts.fact.Fact.{Fact}
use Rattle.image_show.specs.Parts.{facts_of_info}
use Rattle.image_show.specs.Forms.{Puts, PutsFront}
use Rattle.std.proofs.Common.{OnOk}
use Rattle.image_show.proofs.Putting.{front_first, front_then, on_ok_then, whole_then}
use Rattle.image_show.proofs.blocks.print_part.Goals as goal

pub returns-in_err-print_info-clause-front : goal.returns-in_err-print_info-clause-front
returns-in_err-print_info-clause-front g c =
    front_first g.F.Form.style (facts_of_info c.args.part c.args.page.now) (map block_run (list_of c.args.ended))
    (g.F.Form.written c.args.form.now) (g.F.Form.written c.print_info.new.form) c.print_info.ensures.front

pub returns-clause-whole : goal.returns-clause-whole
returns-clause-whole g c =
    let old = g.F.Form.written c.args.form.now in
    let mid = g.F.Form.written c.print_info.new.form in
    let new = g.F.Form.written c.print_any.new.form in
    on_ok_then c.print_any.result
    (whole_then g.F.Form.style (facts_of_info c.args.part c.args.page.now) (map block_run (list_of c.args.ended)) old mid new c.in_ok-print_info.ensures.whole)
    (subst (λ (fs : List Fact). OnOk c.print_any.result (Puts g.F.Form.style fs mid new)) c.block_run.ensures c.print_any.ensures.whole)

pub returns-clause-front : goal.returns-clause-front
returns-clause-front g c =
    let old = g.F.Form.written c.args.form.now in
    let mid = g.F.Form.written c.print_info.new.form in
    let new = g.F.Form.written c.print_any.new.form in
    front_then g.F.Form.style (facts_of_info c.args.part c.args.page.now) (map block_run (list_of c.args.ended)) old mid new c.in_ok-print_info.ensures.whole
    (subst (λ (fs : List Fact). PutsFront g.F.Form.style fs mid new) c.block_run.ensures c.print_any.ensures.front)
