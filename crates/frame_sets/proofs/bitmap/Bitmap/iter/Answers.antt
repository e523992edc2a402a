use Rattle.std.proofs.Common.{◌∙◌}
use Rattle.frame_sets.proofs.Left.{all_left}
use Rattle.frame_sets.proofs.bitmap.Bitmap.iter.Goals as goal

pub returns-clause-members : goal.returns-clause-members
returns-clause-members c = c.iter_from.ensures.members ∙ all_left c.args.self.now.members
