use Rattle.std.proofs.Common.{◌++◌, Err, sym, ap, subst, ◌∙◌}
use Rattle.std.proofs.lemmas.Result.{err_from_is_err_and}
use Rattle.stream_in.specs.Grammar.{first_fault}
use Rattle.stream_in.specs.Taken.{HasTaken}
use Rattle.stream_in.proofs.Told.{refused, refused_ok, some_from}
use Rattle.stream_in.proofs.checking.checker.Checker.take.Goals as goal

pub returns-in_err-self-inside-clause-ok : goal.returns-in_err-self-inside-clause-ok
returns-in_err-self-inside-clause-ok c = λ bs has.
    let p = err_from_is_err_and c.from_residual.result c.from_residual.ensures.1 in
    let e = c.in_err-self-inside.field-0.0 in
    refused_ok c.from_residual.result (first_fault (bs ++ c.args.piece.now)) e (p.1 ∙ ap Err p.2)
    (some_from c.with_piece.result (first_fault (bs ++ c.args.piece.now)) e c.in_err-self-inside.was (c.with_piece.ensures.fault bs (subst (HasTaken bs) (sym c.self.view_is) has)))

pub returns-in_err-self-inside-clause-fault : goal.returns-in_err-self-inside-clause-fault
returns-in_err-self-inside-clause-fault c = λ bs has.
    let p = err_from_is_err_and c.from_residual.result c.from_residual.ensures.1 in
    let e = c.in_err-self-inside.field-0.0 in
    refused c.from_residual.result (first_fault (bs ++ c.args.piece.now)) e (p.1 ∙ ap Err p.2)
    (some_from c.with_piece.result (first_fault (bs ++ c.args.piece.now)) e c.in_err-self-inside.was (c.with_piece.ensures.fault bs (subst (HasTaken bs) (sym c.self.view_is) has)))
