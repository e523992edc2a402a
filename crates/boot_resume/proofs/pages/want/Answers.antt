use Rattle.std.proofs.Common.{◌≡◌, ◌≢◌, ◌%◌, Result, Err, Bool, true, false, sym, ap, ◌∙◌, subst, inl, inr}
use Rattle.std.proofs.lemmas.Result.{err_from_is_err_and}
use Rattle.boot_resume.specs.Calls.{page_then}
use Rattle.boot_resume.specs.Wanted.{Wants}
use Rattle.boot_resume.specs.declared.cause.Cause.{Cause}
use Rattle.boot_resume.specs.declared.stage.Move.{Move}
use Rattle.boot_resume.proofs.Wanting.{refuses_map, wants_map, wants_page}
use Rattle.boot_resume.proofs.pages.want.Goals as goal

never : (b : Bool) → b ≡ false → b ≡ true → ⊥
never b is_false is_true = cc

pub returns-then-not-begins_map-clause-wants : goal.returns-then-not-begins_map-clause-wants
returns-then-not-begins_map-clause-wants c = λ v rest is before.
    let not : c.args.page % 511 ≢ 0 = λ e. never c.begins_map.result c.if-not-begins_map.true (c.begins_map.ensures.1 e) in
    inr (wants_page c.args.machine.now v c.args.mark.now c.args.map.now c.args.page c.args.stages rest is before c.in_ok-block.block not c.in_ok-block.ensures)

pub returns-in_err-block-2-clause-wants : goal.returns-in_err-block-2-clause-wants
returns-in_err-block-2-clause-wants c = λ v rest is before.
    let p = err_from_is_err_and c.from_residual-in_err-block-2.result c.from_residual-in_err-block-2.ensures.1 in
    let first : c.args.page % 511 ≡ 0 = c.begins_map.ensures.0 c.if-not-begins_map.false in
    subst (λ (result : Result Move Cause). Wants c.args.machine.now v c.args.map.now c.args.page c.args.stages rest (page_then c.args.machine.now v c.args.page rest) result)
    (sym (p.1 ∙ ap Err p.2))
    (refuses_map c.args.machine.now v c.args.mark.now c.args.map.now c.args.page c.args.stages rest is before c.map_of.result c.begun_map-named.result c.in_err-block-2.field-0.0 c.map_of.ensures c.begun_map-named.ensures first c.in_err-block-2.ensures)

pub returns-clause-wants : goal.returns-clause-wants
returns-clause-wants c = λ v rest is before.
    let first : c.args.page % 511 ≡ 0 = c.begins_map.ensures.0 c.if-not-begins_map.false in
    inl (wants_map c.args.machine.now v c.args.mark.now c.args.map.now c.args.page c.args.stages rest is before c.map_of.result c.begun_map-named.result c.in_ok-block-2.block c.map_of.ensures c.begun_map-named.ensures first c.in_ok-block-2.ensures)
