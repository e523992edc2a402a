use Rattle.std.proofs.Common.{arith, refl, sym, ap, ◌∙◌, subst}
use Rattle.plain_machine.specs.declared.event.Event.TheVariants as event
use Rattle.world_core.specs.World.{World}
use Rattle.world_core.specs.Kept.{IsDown, kept_world}
use Rattle.world_core.specs.Row.{Simulates}
use Rattle.world_core.specs.StandsFor.{core_loading, is_off, keeps_dump}
use Rattle.machine.specs.declared.machine.Machine.{Machine}
use Rattle.world_core.proofs.Readiness.{can_run-resumed, no_tables_after}
use Rattle.world_core.proofs.Resuming.{IsAfter, row_of_begin, awake_after, busy_after, idle_after, runs_after}
use Rattle.resume_core.proofs.StepsLeft.{loading_few}
use Rattle.world_core.proofs.StepsLeft.{loading_left}
use Rattle.world_core.proofs.world.World.begin_resume.Goals as goal

pub invariant_of-self : goal.invariant_of-self
invariant_of-self c =
    let after : IsAfter c.begin-reply.new.self c.begin-reply.result c.core_in-self-inside.result = record { loader = c.args.loader; core_is = c.core_in-self-inside.ensures ∙ ap core_loading c.phase-phase.ensures; told = c.begin-reply.ensures.activity } in
    let can = c.begin-reply.ensures.ready c.self.inside.runs c.self.invariant.room in
    let machine : Machine = record c.self.inside.machine { blocks = c.args.blocks } in
    record {
      size = can.over.size;
      zones = c.self.invariant.zones;
      origs = can.over.origs;
      zeros = can.over.zeros;
      waiting = can.over.waiting;
      room = c.self.invariant.room;
      tables = λ has. no_tables_after c.begin-reply.new.self c.begin-reply.result c.core_in-self-inside.result after has;
      run = λ up. can_run-resumed machine c.begin-reply.new.frames c.self.inside.runs c.begin-reply.new.self can (runs_after machine c.begin-reply.new.frames c.self.inside.runs c.begin-reply.new.self c.begin-reply.result c.core_in-self-inside.result after can up);
      header = λ up some. absurd (some (runs_after machine c.begin-reply.new.frames c.self.inside.runs c.begin-reply.new.self c.begin-reply.result c.core_in-self-inside.result after can up).unheld);
      place = λ down. awake_after c.begin-reply.new.self c.begin-reply.result c.core_in-self-inside.result after down;
      wakes = λ e. awake_after c.begin-reply.new.self c.begin-reply.result c.core_in-self-inside.result after (subst IsDown (sym e) tt);
      busy = λ e. idle_after c.begin-reply.new.self c.begin-reply.result c.core_in-self-inside.result after e;
      loads = λ e. (can, busy_after c.begin-reply.new.self c.begin-reply.result c.core_in-self-inside.result after e);
    }

pub returns-clause-row : goal.returns-clause-row
returns-clause-row c = λ k.
    let new = kept_world (record { machine = record c.self.inside.machine { blocks = c.args.blocks }; frames = c.begin-reply.new.frames; runs = c.self.inside.runs; hib = c.self.inside.hib; load = c.begin-reply.new.self; waker = c.self.inside.waker; core = c.core_in-self-inside.result }) in
    subst (λ (old : World). Simulates (event.Resume c.args.loader c.args.check) old new c.begin-reply.result k k) c.self.view_is
    (row_of_begin (kept_world c.self.inside) new c.self.inside.frames c.args.loader c.args.check c.begin-reply.result k (ap (λ (w : World). is_off w.core) c.self.view_is ∙ c.requires.off)
    (record { loader = c.args.loader; core_is = c.core_in-self-inside.ensures ∙ ap core_loading c.phase-phase.ensures; told = c.begin-reply.ensures.activity }) refl refl (λ asks. ap (λ (w : World). keeps_dump w.core) c.self.view_is ∙ c.requires.dump asks) c.begin-reply.ensures.row)

pub returns-clause-few : goal.returns-clause-few
returns-clause-few c =
    let load = c.begin-reply.new.self in
    let after : IsAfter load c.begin-reply.result c.core_in-self-inside.result = record { loader = c.args.loader; core_is = c.core_in-self-inside.ensures ∙ ap core_loading c.phase-phase.ensures; told = c.begin-reply.ensures.activity } in
    let left = loading_left c.begin-reply.result c.core_in-self-inside.result c.self.inside.hib load c.self.inside.waker after in
    let few = loading_few load.stage in
    omega arith
