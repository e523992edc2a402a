use Rattle.run_picture.proofs.Joined.{joined}
use Rattle.run_picture.proofs.column.put_shown_by.Goals as goal

pub returns-clause-added : goal.returns-clause-added
returns-clause-added c =
    let two = joined c.args.piece.now _ _ _ _ c.put_bands.ensures.added c.put_labels.ensures.added in
    let three = joined c.args.piece.now _ _ _ _ two c.put_call.ensures.added in
    joined c.args.piece.now _ _ _ _ three c.put_cut.ensures.added
