use Rattle.std.proofs.Common.{Err, refl, ap, ◌∙◌}
use Rattle.std.proofs.lemmas.Result.{err_from_is_err_and}
use Rattle.dump_file.proofs.Pieces.{names_in}
use Rattle.dump_file.proofs.Refused.{goes_on, stops}
use Rattle.dump_file.proofs.front.read_names.Goals as goal

pub returns-in_err-take_exact-clause-read : goal.returns-in_err-take_exact-clause-read
returns-in_err-take_exact-clause-read g c bytes h =
    let p = err_from_is_err_and c.from_residual.result c.from_residual.ensures.1 in
    stops _ _ _ (c.in_err-take_exact.ensures.read bytes h) (p.1 ∙ ap Err p.2) (λ f e. e)

pub returns-clause-read : goal.returns-clause-read
returns-clause-read g c bytes h =
    let whole = (c.in_ok-take_exact.ensures.read bytes h).right refl in
    goes_on _ _ _ _ _ whole.0 whole.1

pub returns-clause-names : goal.returns-clause-names
returns-clause-names g c bytes h =
    c.names_of.ensures ∙ names_in bytes c.take_exact.new.piece (c.in_ok-take_exact.ensures.piece bytes h refl)
