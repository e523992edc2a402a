use Rattle.std.proofs.Common.{ap, sym, ◌∙◌, subst}
use Rattle.std.specs.Option.{IsSome}
use Rattle.plain_machine.specs.declared.event.Event.TheVariants as event
use Rattle.plain_machine.specs.declared.event.Actor.TheVariants as actor
use Rattle.machine.specs.Flights.{flights_in}
use Rattle.machine.specs.declared.machine.Machine.{Machine}
use Rattle.world_core.specs.World.{World}
use Rattle.world_core.specs.Kept.{kept_world}
use Rattle.world_core.specs.Row.{SimulatesWhereTold}
use Rattle.protocol_laws.proofs.Told.{whole_content}
use Rattle.world_core.proofs.TaskRows.{row_of_end, some_flight}
use Rattle.world_core.proofs.world.World.finish.Goals as goal

pub returns-clause-row : goal.returns-clause-row
returns-clause-row g c =
    let old = kept_world c.self.inside in
    let new = record old { machine = c.finish.new.self; frames = c.finish.new.frames } in
    let core = ap (λ (w : World). w.core) c.self.view_is ∙ c.requires.running in
    let flies = some_flight (flights_in c.self.inside.machine.flights c.args.t) (subst (λ (w : World). IsSome (flights_in w.machine.flights c.args.t)) (sym c.self.view_is) c.requires.flies) in
    subst (λ (w : World). SimulatesWhereTold (event.Step (actor.Task c.args.t)) w new c.finish.result (g.D.Disk.content c.args.disk.now) (g.D.Disk.content c.finish.new.disk)) c.self.view_is
    (row_of_end old new c.args.t c.finish.result (g.D.Disk.block_count c.args.disk.now) (g.D.Disk.content c.args.disk.now) (g.D.Disk.content c.finish.new.disk) flies.0
    (record {
      hardware = c.is_hardware.ensures.hardware;
      size = c.self.invariant.size;
      task = c.requires.task;
      core = core;
      same = record {
        core = core;
        hw = ap (λ (m : Machine). m.hw) c.finish.ensures.machine;
        held = ap (λ (m : Machine). m.held) c.finish.ensures.machine;
        area = ap (λ (m : Machine). m.area) c.finish.ensures.machine;
      };
      row = c.finish.ensures.row;
      calls = c.finish.ensures.disk;
      answers = c.finish.ensures.answer;
      whole = λ k told. whole_content (g.D.Disk.block_count c.args.disk.now) (g.D.Disk.content c.args.disk.now) k told (g.met.D.Disk.well_formed c.args.disk.now);
    }) flies.1)
