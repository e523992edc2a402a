use Rattle.std.proofs.Common.{◌≡◌, ◌+◌, ◌/◌, Err, Some, None, ap, ◌∙◌, subst}
use Rattle.std.proofs.lemmas.Result.{err_from_is_err_and}
use Rattle.boot_resume.specs.OnDisk.{map_fault}
use Rattle.boot_resume.proofs.Handed.{number_map_goes, number_map_refused}
use Rattle.boot_resume.proofs.Going.{leads_refused}
use Rattle.boot_resume.proofs.reading.Reading.want_numbers.Goals as goal

pub returns-in_err-block-clause-leads : goal.returns-in_err-block-clause-leads
returns-in_err-block-clause-leads c = λ v page h map more first again.
    let p = err_from_is_err_and c.from_residual.result c.from_residual.ensures.1 in
    let place : c.map_of-map.result ≡ (1 + c.args.self.now.given / 512) / 511 = c.map_of-map.ensures ∙ ap (λ x. x / 511) c.number_page.ensures in
    leads_refused c.args.machine.now v c.args.self.now page _ c.from_residual.result c.in_err-block.field-0.0 (p.1 ∙ ap Err p.2)
    (number_map_refused c.args.machine.now v c.args.self.now c.in_err-block.field-0.0 h more first again
    (subst (λ j. map_fault c.args.machine.now c.args.self.now.mark.last j c.args.self.now.again ≡ Some c.in_err-block.field-0.0) place c.in_err-block.ensures))

pub returns-clause-leads : goal.returns-clause-leads
returns-clause-leads c = λ v page h map more first again.
    let place : c.map_of-map.result ≡ (1 + c.args.self.now.given / 512) / 511 = c.map_of-map.ensures ∙ ap (λ x. x / 511) c.number_page.ensures in
    number_map_goes c.args.machine.now v c.args.self.now page c.in_ok-block.block h map more first again
    (subst (λ j. map_fault c.args.machine.now c.args.self.now.mark.last j c.args.self.now.again ≡ None) place c.in_ok-block.ensures.0) c.in_ok-block.ensures.1
