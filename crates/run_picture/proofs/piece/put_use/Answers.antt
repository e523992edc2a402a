use Rattle.run_picture.proofs.Joined.{joined}
use Rattle.run_picture.proofs.piece.put_use.Goals as goal

pub returns-clause-added : goal.returns-clause-added
returns-clause-added c =
    let two = joined c.args.piece.now _ _ _ _ c.put.ensures.added c.put-2.ensures.added in
    let three = joined c.args.piece.now _ _ _ _ two c.put-3.ensures.added in
    joined c.args.piece.now _ _ _ _ three c.put-4.ensures.added
