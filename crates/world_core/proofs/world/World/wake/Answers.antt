use Rattle.std.proofs.Common.{ap, ◌∙◌}
use Rattle.plain_machine.specs.declared.event.Event.TheVariants as event
use Rattle.plain_machine.specs.declared.reply.Reply.TheVariants as reply
use Rattle.world_core.specs.World.{World}
use Rattle.world_core.proofs.Rows.{row_refused, not_asleep, busy_in}
use Rattle.world_core.proofs.world.World.wake.Goals as goal

pub returns-in_default-clause-row : goal.returns-in_default-clause-row
returns-in_default-clause-row c = λ k.
    row_refused event.Wake c.args.self.now reply.NotAsleep k
    (λ a stands. not_asleep c.args.self.now k a (busy_in c.self.inside c.args.self.now c.self.view_is c.self.invariant) (λ core. c.in_default.not-Asleep (ap (λ (w : World). w.core) c.self.view_is ∙ core)) stands)
