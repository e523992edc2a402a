use Rattle.std.proofs.Common.{refl, sym, ap, ◌∙◌, subst}
use Rattle.plain_machine.specs.declared.event.Event.TheVariants as event
use Rattle.plain_machine.specs.declared.reply.Reply.TheVariants as reply
use Rattle.world_core.specs.declared.world.Core.TheVariants.{Waking}
use Rattle.world_core.specs.Kept.{kept_world, IsDown, IsUp}
use Rattle.world_core.specs.Row.{Simulates}
use Rattle.world_core.specs.World.{World}
use Rattle.world_core.proofs.Wakes.{row_of_wake, woken_loads_not, woken_not_busy}
use Rattle.world_core.proofs.world.World.begin_wake.Goals as goal

pub invariant_of-self : goal.invariant_of-self
invariant_of-self c =
    let kept = c.self.invariant in
    let core = ap (λ (w : World). w.core) c.self.view_is ∙ c.requires.asleep in
    record {
      size = kept.size;
      zones = kept.zones;
      origs = kept.origs;
      zeros = kept.zeros;
      waiting = kept.waiting;
      room = kept.room;
      tables = λ has. absurd has;
      run = λ up. kept.run (subst IsUp (sym core) tt);
      header = λ up. kept.header (subst IsUp (sym core) tt);
      place = λ down. kept.place (subst IsDown (sym core) tt);
      busy = λ e. woken_not_busy (reply.More 0 3) e;
      wakes = λ e. c.begin-self-inside.ensures.begun;
      loads = λ e. woken_loads_not (reply.More 0 3) e;
    }

pub returns-clause-row : goal.returns-clause-row
returns-clause-row c = λ k.
    let old = kept_world c.self.inside in
    let new : World = record old { waker = c.begin-self-inside.result; core = Waking } in
    subst (λ (w : World). Simulates event.Wake w new (reply.More 0 3) k k) c.self.view_is
    (row_of_wake old new k (ap (λ (w : World). w.core) c.self.view_is ∙ c.requires.asleep) refl refl refl c.begin-self-inside.ensures.row)
