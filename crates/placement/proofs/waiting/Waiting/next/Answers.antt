use Rattle.std.proofs.Common.{◌<◌, ℕ, subst}
use Rattle.placement.proofs.Keeping.{waits_next}
use Rattle.placement.proofs.waiting.Waiting.next.Goals as goal

pub returns-then-self-len-clause-waits : goal.returns-then-self-len-clause-waits
returns-then-self-len-clause-waits c = waits_next c.self.inside c.args.self.now c.frame_for.result c.self.view_is c.self.invariant c.requires (subst (λ (n : ℕ). c.self.inside.loaded < n) c.len.ensures.len c.if-self-len.true) c.frame_for.ensures.frame
