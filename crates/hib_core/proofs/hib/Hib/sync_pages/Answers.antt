use Rattle.hib_core.proofs.Leaving.{takes_none, gives_back, leaves_by}
use Rattle.std.proofs.Common.{refl, ap, ◌∙◌, rules}
use Rattle.definitions.specs.Disk as disk
use Rattle.plain_machine.specs.declared.reply.Reply.TheVariants as reply
use Rattle.plain_machine.specs.declared.reply.Left.TheVariants.{Same}
use Rattle.hib_core.proofs.Facts.{row_of, after_step}
use Rattle.hib_core.specs.declared.hib.Saving.{Saving}
use Rattle.hib_core.specs.declared.hib.Stage.TheVariants as stage
use Rattle.hib_core.proofs.Syncing.{gone_on, synced_row, sync_failed_row}
use Rattle.hib_core.proofs.hib.Hib.sync_pages.Goals as goal
use Rattle.protocol_laws.proofs.Told.{content_of, changed}

pub returns-in-Ok-clause-stepped : goal.returns-in-Ok-clause-stepped
returns-in-Ok-clause-stepped g c = record {
  row = λ k told.
      let whole = content_of (g.D.Disk.block_count c.args.disk.now) c.args.machine.now.blocks (g.D.Disk.content c.args.disk.now) k told c.requires.blocks (g.met.D.Disk.well_formed c.args.disk.now) in
      let synced = changed disk.Syncs (g.D.Disk.content c.args.disk.now) (g.D.Disk.content c.sync.new.self) k told c.in-Ok.ensures.synced in (
        synced.0,
        synced.1,
        row_of c.args.machine.now c.args.frames.now c.args.self.now c.args.machine.now c.args.frames.now (gone_on c.args.self.now (stage.Read (after_step c.args.saving))) _ _ c.more.result k synced.0
            (ap (λ (s : Saving). gone_on c.args.self.now (stage.Read s)) c.after_step-saving.ensures) (c.more.ensures ∙ ap (λ (s : Saving). reply.More s.done s.steps) c.after_step-saving.ensures)
            (synced_row c.args.machine.now c.args.frames.now c.args.runs.now c.args.self.now c.args.saving k synced.0 c.requires.ready c.requires.at whole synced.2),
      );
  phase = search rules;
  zones = refl;
  fewer = search rules;
  works = search rules;
  ready = search rules;
  machine = search rules;
  memory = leaves_by c.more.result _ c.args.self.now.stage c.args.machine.now.hw c.args.frames.now c.args.frames.now c.more.ensures (takes_none c.args.machine.now.hw c.args.frames.now);
}

pub returns-in-Err-clause-stepped : goal.returns-in-Err-clause-stepped
returns-in-Err-clause-stepped g c = record {
  row = λ k told. (
    k,
    c.in-Err.ensures.failed ∙ told,
    row_of c.args.machine.now c.args.frames.now c.args.self.now c.args.machine.now c.give_up.new.frames _ c.give_up.new.self (reply.SyncFault Same) (reply.SyncFault Same) k k c.give_up.ensures.hib refl
        (sync_failed_row c.args.machine.now c.args.frames.now c.give_up.new.frames c.args.runs.now c.args.self.now c.args.saving k
        c.requires.ready c.give_up.ensures.pages c.requires.at c.give_up.ensures.given),
  );
  phase = search rules;
  zones = search rules;
  fewer = search rules;
  works = refl;
  ready = search rules;
  machine = search rules;
  memory = gives_back c.args.machine.now.hw c.args.frames.now c.give_up.new.frames c.give_up.ensures.given;
}
