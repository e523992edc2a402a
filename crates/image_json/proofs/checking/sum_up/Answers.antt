use Rattle.std.proofs.Common.{◌∙◌, true, List, refl, ap}
use Rattle.image_check.specs.declared.finding.Finding.{Finding}
use Rattle.image_json.specs.Findings.{check_line, is_whole}
use Rattle.image_json.proofs.Keeping.{all_kept, both_ok}
use Rattle.image_json.proofs.checking.sum_up.Goals as goal

pub returns : goal.returns
returns c = λ found tells.
    let kept : List Finding = c.args.findings.now.kept.items in
    let same = all_kept found kept _ tells refl c.if-findings.false in
    let slice = c.as_slice.ensures.value in
    both_ok c.ended.result _ _ _
    (λ checked line whole. (line ∙ ap (check_line true) slice ∙ same.0, whole ∙ ap (is_whole true) slice ∙ same.1))
    c.ended.ensures.line c.ended.ensures.whole
