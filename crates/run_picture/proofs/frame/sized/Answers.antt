use Rattle.run_picture.proofs.Joined.{from_empty, joined}
use Rattle.run_picture.proofs.frame.sized.Goals as goal

pub returns : goal.returns
returns c =
    let two = joined c.new-piece.result _ _ _ _ c.put_named.ensures.added c.put_named-2.ensures.added in
    let three = joined c.new-piece.result _ _ _ _ two c.put.ensures.added in
    from_empty _ _ _ c.new-piece.ensures three
