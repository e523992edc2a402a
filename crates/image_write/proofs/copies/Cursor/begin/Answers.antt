use Rattle.image_write.proofs.Cursors.{none_passed}
use Rattle.image_write.proofs.copies.Cursor.begin.Goals as goal

pub returns : goal.returns
returns c = none_passed
