use Rattle.std.proofs.Common.{◌≡◌, ℕ, ◌+◌, Err, refl, ap, ap₂, ◌∙◌, arith}
use Rattle.std.proofs.lemmas.Result.{err_from_is_err_and}
use Rattle.dump_file.specs.Fields.{number}
use Rattle.dump_file.proofs.Pieces.{number_first, number_in}
use Rattle.dump_file.proofs.Refused.{goes_on, stops}
use Rattle.dump_file.proofs.fill.read_pair.Goals as goal

pub returns-in_err-take_exact-clause-read : goal.returns-in_err-take_exact-clause-read
returns-in_err-take_exact-clause-read g c bytes h =
    let p = err_from_is_err_and c.from_residual.result c.from_residual.ensures.1 in
    stops _ _ _ (c.in_err-take_exact.ensures.read bytes h) (p.1 ∙ ap Err p.2) (λ f e. e)

pub returns-clause-read : goal.returns-clause-read
returns-clause-read g c bytes h =
    let whole = (c.in_ok-take_exact.ensures.read bytes h).right refl in
    goes_on _ _ _ _ _ whole.0 whole.1

pub returns-clause-pair : goal.returns-clause-pair
returns-clause-pair g c bytes h =
    let at = c.args.at in
    let piece = c.in_ok-take_exact.ensures.piece bytes h refl in
    let first : c.number.result ≡ number bytes at = c.number.ensures ∙ number_first 8 at bytes c.take_exact.new.piece piece (omega arith) in
    let second : c.number-2.result ≡ number bytes (at + 4) = c.number-2.ensures ∙ number_in 8 at 4 bytes c.take_exact.new.piece piece (omega arith) in
    ap₂ (λ (a b : ℕ). (a, b)) first second
