use Rattle.run_picture.proofs.Joined.{joined}
use Rattle.run_picture.proofs.column.put_label_of.Goals as goal

pub returns-clause-added : goal.returns-clause-added
returns-clause-added c =
    let two = joined c.args.piece.now _ _ _ _ c.put_use.ensures.added c.put.ensures.added in
    let three = joined c.args.piece.now _ _ _ _ two c.put_escaped.ensures.added in
    joined c.args.piece.now _ _ _ _ three c.put-2.ensures.added
