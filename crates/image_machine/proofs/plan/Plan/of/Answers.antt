use Rattle.std.proofs.Common.{Result, Err, sym, ap, ◌∙◌, subst}
use Rattle.std.proofs.lemmas.Result.{err_from_is_err_and}
use Rattle.std.specs.Prelude.{IfErr}
use Rattle.image_machine.specs.Limits.{StopsAtOnce}
use Rattle.image_machine.specs.declared.limit.Stop.{Stop}
use Rattle.image_machine.specs.declared.plan.Plan.{Plan}
use Rattle.image_machine.proofs.plan.Plan.of.Goals as goal

pub returns-in_err-is_small-clause-stopped : goal.returns-in_err-is_small-clause-stopped
returns-in_err-is_small-clause-stopped c =
    let p = err_from_is_err_and c.from_residual.result c.from_residual.ensures.1 in
    subst (λ (r : Result Plan Stop). IfErr r (StopsAtOnce c.args.heading.now c.args.layout)) (sym (p.1 ∙ ap Err p.2))
    (c.in_err-is_small.ensures.passed c.args.layout)

pub returns-in_err-begins_at_header-clause-stopped : goal.returns-in_err-begins_at_header-clause-stopped
returns-in_err-begins_at_header-clause-stopped c =
    let p = err_from_is_err_and c.from_residual-in_err-begins_at_header.result c.from_residual-in_err-begins_at_header.ensures.1 in
    subst (λ (r : Result Plan Stop). IfErr r (StopsAtOnce c.args.heading.now c.args.layout)) (sym (p.1 ∙ ap Err p.2))
    (c.in_err-begins_at_header.ensures.passed c.args.heading.now)
