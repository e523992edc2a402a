use Rattle.std.proofs.Common.{refl}
use Rattle.hib_core.proofs.WakingRows.{begun_row}
use Rattle.hib_core.proofs.waking.waker.Waker.begin.Goals as goal

pub returns-clause-row : goal.returns-clause-row
returns-clause-row c = begun_row _ _ refl c.begin.ensures
