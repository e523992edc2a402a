use Rattle.std.proofs.Common.{refl, sym, ap, ◌∙◌, subst}
use Rattle.plain_machine.specs.declared.event.Event.TheVariants as event
use Rattle.plain_machine.specs.declared.reply.Reply.TheVariants as reply
use Rattle.world_core.specs.StandsFor.{is_off}
use Rattle.world_core.specs.World.{World}
use Rattle.world_core.proofs.Rows.{row_refused, shrink_not_on, frozen_shrink, sleeping_shrink, is_taken, busy_in, IsTaken}
use Rattle.world_core.proofs.world.World.shrink.Goals as goal

pub returns-in-Off-clause-row : goal.returns-in-Off-clause-row
returns-in-Off-clause-row c = λ k.
    row_refused (event.Shrink c.args.want) c.args.self.now reply.NotOn k
    (λ a stands. shrink_not_on c.args.self.now k a c.args.want (ap is_off (sym (ap (λ (w : World). w.core) c.self.view_is) ∙ c.in-Off.is)) stands)

pub returns-in-BootBegun : goal.returns-in-BootBegun
returns-in-BootBegun c =
    let core = ap (λ (w : World). w.core) c.self.view_is in
    let taken = is_taken c.self.inside.core c.in-BootBegun.is in
    let busy = busy_in c.self.inside c.args.self.now c.self.view_is c.self.invariant in
    record {
      row = λ k. row_refused (event.Shrink c.args.want) c.args.self.now reply.Frozen k
          (λ a stands. frozen_shrink c.args.self.now k a c.args.want busy (subst IsTaken core taken) stands);
      cause = λ e. e;
      hardware = refl;
      blocks = refl;
      core = refl;
      refused = λ r. record { machine = refl; frames = refl; core = refl };
      memory = tt;
    }

pub returns-in-Asleep-clause-row : goal.returns-in-Asleep-clause-row
returns-in-Asleep-clause-row c = λ k. row_refused (event.Shrink c.args.want) c.args.self.now reply.Sleeping k (λ a stands. sleeping_shrink c.args.self.now k a c.args.want (sym (ap (λ (w : World). w.core) c.self.view_is) ∙ c.in-Asleep.is) stands)
