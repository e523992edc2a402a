use Rattle.std.proofs.lemmas.Result.{IfOk-weaker}
use Rattle.expanded_show.specs.Standing.{standing}
use Rattle.expanded_show.proofs.Standing.{puts_all, puts_front}
use Rattle.expanded_show.proofs.showing.show_facts.Goals as goal

pub returns-clause-shown : goal.returns-clause-shown
returns-clause-shown g c =
    let each = standing g.A.AreaFacts.header g.A.AreaFacts.blocks in
    let old = g.F.Form.written c.args.lent.form.now in
    let new = g.F.Form.written c.show-shown.new.form.form.now in
    IfOk-weaker c.show-shown.result _ _ (λ shown s. (s.0, (s.1.0, puts_all each g.F.Form.style s.0 old new s.1.1))) c.show-shown.ensures.shown

pub returns-clause-front : goal.returns-clause-front
returns-clause-front g c = λ e.
    let each = standing g.A.AreaFacts.header g.A.AreaFacts.blocks in
    let old = g.F.Form.written c.args.lent.form.now in
    let new = g.F.Form.written c.show-shown.new.form.form.now in
    let s = c.show-shown.ensures.front e in
    (s.0, (s.1.0, puts_front each g.F.Form.style s.0 old new s.1.1))
