use Rattle.std.proofs.Common.{ap}
use Rattle.boot_resume.specs.Standing.{first_turn}
use Rattle.boot_resume.proofs.resume.Resume.next.Goals as goal

pub returns-clause-turn : goal.returns-clause-turn
returns-clause-turn c = λ m v page k at. record { turn = at.turn; here = ap first_turn at.left; call = at.call; fits = at.fits }

pub returns-clause-safe : goal.returns-clause-safe
returns-clause-safe c = λ m made asked. asked.1
