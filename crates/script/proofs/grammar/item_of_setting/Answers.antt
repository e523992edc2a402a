use Rattle.std.proofs.Common.{◌≡◌, Bool, true, false, cond, Result, Err, refl, sym, ap, ◌∙◌}
use Rattle.std.proofs.lemmas.Bool.{false≢true}
use Rattle.std.proofs.lemmas.Result.{err_from_is_err_and}
use Rattle.script.specs.declared.fault.FaultKind.{FaultKind}
use Rattle.script.specs.declared.fault.FaultKind.TheVariants.{Late}
use Rattle.script.specs.declared.grammar.Item.{Item}
use Rattle.script.specs.Shapes.{texts}
use Rattle.script.proofs.Shapes.{setting_item-setting, setting_item-fault, setting_item-word}
use Rattle.script.proofs.grammar.item_of_setting.Goals as goal

late : (begun : Bool) (k : FaultKind) (r : Result Item FaultKind) → (begun ≡ false → false ≡ true) → k ≡ Late → ◌≡◌ {A = Result Item FaultKind} (Err k) (cond begun (Err Late) r)
late true k r isn't is = ap (λ x. Err x) is
late false k r isn't is = absurd (false≢true (isn't refl))

early : (begun : Bool) (r : Result Item FaultKind) → begun ≡ false → r ≡ cond begun (Err Late) r
early begun r e = sym (ap (λ b. cond b (Err Late) r) e)

pub returns-in_err-before_events-in-Ok-Some-clause-says : goal.returns-in_err-before_events-in-Ok-Some-clause-says
returns-in_err-before_events-in-Ok-Some-clause-says c =
    let p = err_from_is_err_and c.from_residual.result c.from_residual.ensures.1 in
    let says = rw c.in-Ok-Some.field-0-is at c.in-Ok-Some.ensures.says in
    rw (p.1, p.2)
    (late c.args.begun _ _ c.in_err-before_events-in-Ok-Some.ensures.ok.1 c.in_err-before_events-in-Ok-Some.ensures.late
    ∙ sym (setting_item-setting c.args.begun c.args.first.now (texts c.args.rest.now) c.in-Ok-Some.setting (sym says)))

pub returns-in_err-before_events-in-Err-clause-says : goal.returns-in_err-before_events-in-Err-clause-says
returns-in_err-before_events-in-Err-clause-says c =
    let p = err_from_is_err_and c.from_residual-in_err-before_events-in-Err.result c.from_residual-in_err-before_events-in-Err.ensures.1 in
    rw (p.1, p.2)
    (late c.args.begun _ _ c.in_err-before_events-in-Err.ensures.ok.1 c.in_err-before_events-in-Err.ensures.late
    ∙ sym (setting_item-fault c.args.begun c.args.first.now (texts c.args.rest.now) c.in-Err.kind (sym c.in-Err.ensures.says)))

pub returns-in_ok-before_events-in-Ok-Some-clause-says : goal.returns-in_ok-before_events-in-Ok-Some-clause-says
returns-in_ok-before_events-in-Ok-Some-clause-says c =
    let says = rw c.in-Ok-Some.field-0-is at c.in-Ok-Some.ensures.says in
    early c.args.begun _ (c.in_ok-before_events-in-Ok-Some.ensures.ok.0 refl)
    ∙ sym (setting_item-setting c.args.begun c.args.first.now (texts c.args.rest.now) c.in-Ok-Some.setting (sym says))

pub returns-in_ok-before_events-in-Err-clause-says : goal.returns-in_ok-before_events-in-Err-clause-says
returns-in_ok-before_events-in-Err-clause-says c =
    early c.args.begun _ (c.in_ok-before_events-in-Err.ensures.ok.0 refl)
    ∙ sym (setting_item-fault c.args.begun c.args.first.now (texts c.args.rest.now) c.in-Err.kind (sym c.in-Err.ensures.says))

pub returns-in-Ok-None-clause-says : goal.returns-in-Ok-None-clause-says
returns-in-Ok-None-clause-says c =
    let says = rw c.in-Ok-None.field-0-is at c.in-Ok-None.ensures.says in
    sym (setting_item-word c.args.begun c.args.first.now (texts c.args.rest.now) (sym says))
