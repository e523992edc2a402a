use Rattle.run_picture.specs.Picture.{column_by}
use Rattle.run_picture.proofs.Joined.{from_empty, joined}
use Rattle.run_picture.proofs.column.column_by.Goals as goal

pub returns : goal.returns
unfolding column_by
returns c =
    let two = joined c.new-piece.result _ _ _ _ c.put_open.ensures.added c.put_title.ensures.added in
    let three = joined c.new-piece.result _ _ _ _ two c.put_shown.ensures.added in
    let four = joined c.new-piece.result _ _ _ _ three c.put_above.ensures.added in
    let five = joined c.new-piece.result _ _ _ _ four c.put_below.ensures.added in
    let six = joined c.new-piece.result _ _ _ _ five c.put.ensures.added in
    from_empty _ _ _ c.new-piece.ensures six
