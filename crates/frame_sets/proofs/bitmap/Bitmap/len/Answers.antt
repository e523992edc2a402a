use Rattle.std.proofs.Common.{subst}
use Rattle.frame_sets.specs.FrameSet.{IsFrameSet}
use Rattle.frame_sets.proofs.Keeping.{IsFrameSet-kept_set}
use Rattle.frame_sets.proofs.bitmap.Bitmap.len.Goals as goal

pub returns-clause-set : goal.returns-clause-set
returns-clause-set c = subst IsFrameSet c.self.view_is (IsFrameSet-kept_set c.self.inside c.self.invariant)
