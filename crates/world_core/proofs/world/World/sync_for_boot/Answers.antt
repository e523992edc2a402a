use Rattle.std.proofs.Common.{rules, false, refl, ap, ◌∙◌, subst}
use Rattle.definitions.specs.Disk as disk
use Rattle.plain_machine.specs.declared.event.Event.TheVariants as event
use Rattle.plain_machine.specs.declared.event.Actor.TheVariants as actor
use Rattle.plain_machine.specs.declared.reply.Left.TheVariants.{Same}
use Rattle.plain_machine.specs.declared.reply.Reply.TheVariants as reply
use Rattle.world_core.specs.declared.world.Core.TheVariants.{Off, BootSynced}
use Rattle.world_core.specs.World.{World}
use Rattle.world_core.specs.Kept.{kept_world}
use Rattle.world_core.specs.Row.{Simulates}
use Rattle.world_core.proofs.Booting.{boot_syncs, boot_sync_fails}
use Rattle.protocol_laws.proofs.Told.{whole_content, changed}
use Rattle.world_core.proofs.world.World.sync_for_boot.Goals as goal

pub returns-in-Err-clause-stepped : goal.returns-in-Err-clause-stepped
returns-in-Err-clause-stepped g c = record {
  row = λ k told.
      let old = kept_world c.self.inside in
      let core = ap (λ (w : World). w.core) c.self.view_is ∙ c.requires.begun in
      (k, c.in-Err.ensures.failed ∙ told, subst (λ (w : World). Simulates (event.Step actor.Core) w (record old { core = Off false }) (reply.SyncFault Same) k k) c.self.view_is (boot_sync_fails old (record old { core = Off false }) k c.args.from core refl refl));
  restored = search rules;
  image = search rules;
  works = search rules;
  fewer = search rules;
  hardware = search rules;
  blocks = search rules;
}

pub returns-in-Ok-clause-stepped : goal.returns-in-Ok-clause-stepped
returns-in-Ok-clause-stepped g c = record {
  row = λ k told.
      let whole = whole_content (g.D.Disk.block_count c.args.disk.now) (g.D.Disk.content c.args.disk.now) k told (g.met.D.Disk.well_formed c.args.disk.now) in
      let synced = changed disk.Syncs (g.D.Disk.content c.args.disk.now) (g.D.Disk.content c.sync.new.self) k told c.in-Ok.ensures.synced in
      let old = kept_world c.self.inside in
      let core = ap (λ (w : World). w.core) c.self.view_is ∙ c.requires.begun in (
        synced.0,
        synced.1,
        subst (λ (w : World). Simulates (event.Step actor.Core) w (record old { core = BootSynced c.args.from }) (reply.More 1 2) k synced.0) c.self.view_is
            (boot_syncs old (record old { core = BootSynced c.args.from }) (g.D.Disk.block_count c.args.disk.now) k synced.0 c.args.from whole synced.2 core refl refl refl),
      );
  restored = search rules;
  image = search rules;
  works = search rules;
  fewer = search rules;
  hardware = search rules;
  blocks = search rules;
}
