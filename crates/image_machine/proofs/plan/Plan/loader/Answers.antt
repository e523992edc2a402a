use Rattle.std.proofs.Common.{◌≤◌, ℕ, length, subst}
use Rattle.plain_machine.specs.Loader.{need}
use Rattle.plain_machine.specs.Machine.{unused}
use Rattle.image_machine.proofs.PlanMade.{made}
use Rattle.image_machine.proofs.plan.Plan.loader.Goals as goal

pub returns-clause-loader : goal.returns-clause-loader
returns-clause-loader c =
    let plan = c.args.self.now in
    made plan c.in_ok-hw.hw c.in_ok-frames.frames c.requires c.in_ok-hw.ensures.hardware c.in_ok-hw.ensures.tables c.in_ok-hw.ensures.is
    c.in_ok-frames.ensures.fresh c.in_ok-frames.ensures.fits
    (subst (λ (n : ℕ). need n ≤ length (unused c.in_ok-hw.hw c.in_ok-frames.frames)) c.len.ensures.len c.in_ok-has_room.ensures.room)
