use Rattle.std.proofs.Common.{Err, refl, sym, ap, ◌∙◌}
use Rattle.std.proofs.lemmas.Result.{err_from_is_err_and}
use Rattle.byteorder.specs.Endian.{little_number}
use Rattle.definitions.proofs.PageBytes.{number_at-bytes_at}
use Rattle.dump_file.proofs.Refused.{goes_on, stops}
use Rattle.dump_file.proofs.fill.read_number.Goals as goal

pub returns-in_err-take_exact-clause-read : goal.returns-in_err-take_exact-clause-read
returns-in_err-take_exact-clause-read g c bytes h =
    let p = err_from_is_err_and c.from_residual.result c.from_residual.ensures.1 in
    stops _ _ _ (c.in_err-take_exact.ensures.read bytes h) (p.1 ∙ ap Err p.2) (λ f e. e)

pub returns-clause-read : goal.returns-clause-read
returns-clause-read g c bytes h =
    let whole = (c.in_ok-take_exact.ensures.read bytes h).right refl in
    goes_on _ _ _ _ _ whole.0 whole.1

pub returns-clause-number : goal.returns-clause-number
returns-clause-number g c bytes h =
    c.read_u32.ensures ∙ ap (little_number 4) (c.in_ok-take_exact.ensures.piece bytes h refl) ∙ sym (number_at-bytes_at 4 bytes c.args.at)
