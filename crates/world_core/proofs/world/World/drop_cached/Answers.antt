use Rattle.std.proofs.Common.{◌≡◌, ◌∙◌, None, ap, refl, sym, subst}
use Rattle.plain_machine.specs.declared.event.Event.TheVariants as event
use Rattle.plain_machine.specs.declared.reply.Reply.TheVariants as reply
use Rattle.plain_machine.specs.Machine.{Memory}
use Rattle.machine.specs.Running.{CanRun}
use Rattle.hib_core.specs.Begin.{busy_of}
use Rattle.world_core.specs.Kept.{kept_world, IsUp}
use Rattle.world_core.specs.Row.{Simulates}
use Rattle.world_core.specs.World.{World}
use Rattle.world_core.proofs.CacheDrops.{can_run_freed, row_busy, row_shrunk, runs_alone}
use Rattle.world_core.proofs.world.World.drop_cached.Goals as goal

pub returns-in-Some-clause-row : goal.returns-in-Some-clause-row
returns-in-Some-clause-row c = λ k.
    row_busy c.args.self.now c.args.want c.in-Some.task k c.requires.running
    (ap (λ (w : World). busy_of w.machine) (sym c.self.view_is) ∙ sym c.busy.ensures ∙ c.in-Some.is)

pub invariant_of-self : goal.invariant_of-self
invariant_of-self c =
    let core = ap (λ (w : World). w.core) c.self.view_is ∙ c.requires.running in
    let up : IsUp c.self.inside.core = subst IsUp (sym core) tt in
    let drop = c.drop_of-dropped.ensures in
    let idle : busy_of c.self.inside.machine ≡ None = sym c.busy.ensures ∙ c.in_default.is in
    let can : CanRun c.self.inside.machine c.drop_of-dropped.new.frames c.self.inside.runs =
    subst (λ (frames : Memory). CanRun c.self.inside.machine frames c.self.inside.runs) (sym drop.frames)
    (can_run_freed c.self.inside.machine c.self.inside.frames c.self.inside.runs c.args.want drop.hardware drop.pages idle (c.self.invariant.run up)) in
    record {
      size = drop.len ∙ c.self.invariant.size;
      zones = c.self.invariant.zones;
      origs = c.self.invariant.origs;
      zeros = c.self.invariant.zeros;
      waiting = c.self.invariant.waiting;
      room = c.self.invariant.room;
      tables = λ has. can.reserved;
      run = λ now. can;
      header = c.self.invariant.header;
      place = c.self.invariant.place;
      wakes = c.self.invariant.wakes;
      busy = λ e. absurd ((runs_alone c.self.inside.core core).0 e);
      loads = λ e. absurd ((runs_alone c.self.inside.core core).1 e);
    }

pub returns-clause-row : goal.returns-clause-row
returns-clause-row c = λ k.
    let old = kept_world c.self.inside in
    let new : World = record old { frames = c.drop_of-dropped.new.frames } in
    let core = ap (λ (w : World). w.core) c.self.view_is ∙ c.requires.running in
    let drop = c.drop_of-dropped.ensures in
    subst (λ (w : World). Simulates (event.Shrink c.args.want) w new (reply.Shrunk c.drop_of-dropped.result.0 c.drop_of-dropped.result.1) k k) c.self.view_is
    (row_shrunk old new c.args.want c.drop_of-dropped.result.0 c.drop_of-dropped.result.1 k drop.hardware c.self.invariant.size core (sym c.busy.ensures ∙ c.in_default.is)
    (record { core = core; hw = refl; held = refl; area = refl }) refl (record { frames_are = drop.frames; dropped_are = drop.dropped; rest = drop.rest }))

pub returns-clause-refused : goal.returns-clause-refused
returns-clause-refused c = λ none. absurd (none c.drop_of-dropped.result.0 c.drop_of-dropped.result.1 refl)
