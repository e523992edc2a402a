use Rattle.std.proofs.Common.{ap, ◌∙◌, subst}
use Rattle.plain_machine.specs.declared.event.Event.TheVariants as event
use Rattle.machine.specs.declared.machine.Machine.{Machine}
use Rattle.world_core.specs.World.{World}
use Rattle.world_core.specs.Kept.{kept_world}
use Rattle.world_core.specs.Row.{Simulates}
use Rattle.world_core.proofs.TaskRows.{row_of_task}
use Rattle.world_core.proofs.world.World.ask.Goals as goal

pub returns-clause-row : goal.returns-clause-row
returns-clause-row c = λ k.
    let old = kept_world c.self.inside in
    let new = record old { machine = c.task.new.self; frames = c.task.new.frames } in
    let core = ap (λ (w : World). w.core) c.self.view_is ∙ c.requires.running in
    subst (λ (w : World). Simulates (event.Task c.args.t c.args.op) w new c.task.result k k) c.self.view_is
    (row_of_task old new k c.args.t c.args.op c.task.result c.is_hardware.ensures.hardware c.requires.task core
    (record {
      core = core;
      hw = ap (λ (m : Machine). m.hw) c.task.ensures.machine;
      held = ap (λ (m : Machine). m.held) c.task.ensures.machine;
      area = ap (λ (m : Machine). m.area) c.task.ensures.machine;
    }) c.task.ensures.row)
