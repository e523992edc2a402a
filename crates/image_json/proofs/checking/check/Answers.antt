use Rattle.std.proofs.Common.{sym, ap, ◌∙◌}
use Rattle.std.proofs.lemmas.Result.{IfOk-weaker}
use Rattle.image_json.specs.Findings.{found_line, found_whole}
use Rattle.image_json.proofs.Keeping.{some_told}
use Rattle.image_json.proofs.checking.check.Goals as goal

pub returns-clause-told : goal.returns-clause-told
returns-clause-told g c =
    let all = c.in_ok-check.ensures.checked in
    let some = some_told all.0 _ _ c.in_ok-check.field-0 c.in-Checked.is c.new-findings.ensures all.1.1 in
    IfOk-weaker c.sum_up.result _ _
    (λ checked h. (all.0, (all.1.0, (h.0 ∙ ap found_line (sym some.1.0), h.1 ∙ ap found_whole (sym some.1.0)))))
    (c.sum_up.ensures some.0 some.1.1)
