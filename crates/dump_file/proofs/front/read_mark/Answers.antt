use Rattle.std.proofs.Common.{Err, refl, sym, ap, ◌∙◌}
use Rattle.std.proofs.lemmas.Result.{err_from_is_err_and}
use Rattle.dump_file.specs.Dump.{wanted}
use Rattle.dump_file.specs.declared.dump.DumpKind.TheVariants.{Magic}
use Rattle.dump_file.proofs.Chains.{or_else-none, or_else-some, unless-false, unless-true}
use Rattle.dump_file.proofs.Pieces.{mark_in, second_in}
use Rattle.dump_file.proofs.Refused.{goes_on, refuses, stops}
use Rattle.dump_file.proofs.front.read_mark.Goals as goal

pub returns-in_err-take_exact-clause-read : goal.returns-in_err-take_exact-clause-read
returns-in_err-take_exact-clause-read g c bytes h =
    let p = err_from_is_err_and c.from_residual.result c.from_residual.ensures.1 in
    stops _ _ _ (c.in_err-take_exact.ensures.read bytes h) (p.1 ∙ ap Err p.2) (λ f e. or_else-some (wanted bytes 8) _ f e)

pub returns-then-not-is_mark-clause-read : goal.returns-then-not-is_mark-clause-read
returns-then-not-is_mark-clause-read g c bytes h =
    let whole = (c.in_ok-take_exact.ensures.read bytes h).right refl in
    let mark = mark_in bytes c.take_exact.new.piece (c.in_ok-take_exact.ensures.piece bytes h refl) in
    refuses bytes _ _ 8 (record { kind = Magic; at = 0 }) c.fault.result _ c.fault.ensures
    (or_else-none (wanted bytes 8) _ whole.0 ∙ unless-false _ Magic 0 (sym mark ∙ sym c.is_mark.ensures ∙ c.if-not-is_mark.true))
    refl whole.1

pub returns-clause-read : goal.returns-clause-read
returns-clause-read g c bytes h =
    let whole = (c.in_ok-take_exact.ensures.read bytes h).right refl in
    let mark = mark_in bytes c.take_exact.new.piece (c.in_ok-take_exact.ensures.piece bytes h refl) in
    goes_on _ _ _ _ _ (or_else-none (wanted bytes 8) _ whole.0 ∙ unless-true _ Magic 0 (sym mark ∙ sym c.is_mark.ensures ∙ c.if-not-is_mark.false)) whole.1

pub returns-clause-second : goal.returns-clause-second
returns-clause-second g c bytes h =
    c.is_second.ensures ∙ second_in bytes c.take_exact.new.piece (c.in_ok-take_exact.ensures.piece bytes h refl)
