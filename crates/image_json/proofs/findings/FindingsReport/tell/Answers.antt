use Rattle.std.proofs.Common.{◌∙◌, Bool, not, cond, List, [], ◌∷◌, ◌++◌, ap}
use Rattle.image_check.specs.declared.finding.Finding.{Finding}
use Rattle.image_json.proofs.Keeping.{one_kept}
use Rattle.image_json.proofs.findings.FindingsReport.tell.Goals as goal

pub returns-then-not-self : goal.returns-then-not-self
returns-then-not-self c =
    let self = c.args.self.now in
    let all : List Finding = self.kept.items ++ c.args.finding ∷ [] in
    one_kept c.args.finding self.kept.items c.push.new.self.items self.count c.saturating_add-self.result self.refused c.is_err-self.result
    c.if-not-self.true (λ le. c.saturating_add-self.ensures)
    (λ e. c.push.ensures.items ∙ ap (λ (b : Bool). cond b all self.kept.items) (c.is_err-self.ensures.negation ∙ ap not e))
    (λ e. c.push.ensures.items ∙ ap (λ (b : Bool). cond b all self.kept.items) (c.is_err-self.ensures.negation ∙ ap not e))
