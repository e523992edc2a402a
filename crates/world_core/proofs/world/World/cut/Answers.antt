use Rattle.std.proofs.Common.{refl, sym, ap, ◌∙◌, subst}
use Rattle.definitions.specs.Disk as disk
use Rattle.plain_machine.specs.declared.event.Event.TheVariants as event
use Rattle.plain_machine.specs.declared.reply.Reply.TheVariants as reply
use Rattle.world_core.specs.declared.world.Core.TheVariants.{Off}
use Rattle.world_core.specs.World.{World}
use Rattle.world_core.specs.Kept.{kept_world}
use Rattle.world_core.specs.Row.{Simulates}
use Rattle.world_core.specs.StandsFor.{keeps_dump}
use Rattle.world_core.proofs.Cutting.{row_of_cut}
use Rattle.protocol_laws.proofs.Told.{whole_content, changed}
use Rattle.world_core.proofs.world.World.cut.Goals as goal

pub returns-clause-row : goal.returns-clause-row
returns-clause-row g c = λ k told.
    let whole = whole_content (g.D.Disk.block_count c.args.disk.now) (g.D.Disk.content c.args.disk.now) k told (g.met.D.Disk.well_formed c.args.disk.now) in
    let restarted = changed disk.Restarts (g.D.Disk.content c.args.disk.now) (g.D.Disk.content c.restart.new.self) k told c.restart.ensures.restarted in
    let old = kept_world c.self.inside in (
      restarted.0,
      restarted.1,
      subst (λ (w : World). Simulates (event.Cut c.args.pick) w (record old { core = Off c.keeps_dump.result }) reply.WasCut k restarted.0) c.self.view_is
          (row_of_cut old (record old { core = Off c.keeps_dump.result }) c.args.pick (g.D.Disk.block_count c.args.disk.now) k restarted.0 whole restarted.2 (ap Off (c.keeps_dump.ensures ∙ ap (λ (w : World). keeps_dump w.core) (sym c.self.view_is))) refl refl),
    )
