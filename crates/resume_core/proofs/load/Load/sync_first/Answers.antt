use Rattle.std.proofs.Common.{◌∙◌, refl, rules}
use Rattle.definitions.specs.Disk as disk
use Rattle.plain_machine.specs.declared.reply.Reply.TheVariants as reply
use Rattle.plain_machine.specs.declared.reply.Left.TheVariants.{Same}
use Rattle.resume_core.proofs.Facts.{row_of}
use Rattle.resume_core.proofs.Finding.{synced_row, sync_failed_row}
use Rattle.resume_core.proofs.load.Load.sync_first.Goals as goal
use Rattle.protocol_laws.proofs.Told.{content_of, changed}

pub returns-in-Ok-clause-stepped : goal.returns-in-Ok-clause-stepped
returns-in-Ok-clause-stepped g c = record {
  row = λ k told.
      let whole = content_of (g.D.Disk.block_count c.args.disk.now) c.args.machine.now.blocks (g.D.Disk.content c.args.disk.now) k told c.requires.blocks (g.met.D.Disk.well_formed c.args.disk.now) in
      let synced = changed disk.Syncs (g.D.Disk.content c.args.disk.now) (g.D.Disk.content c.sync.new.self) k told c.in-Ok.ensures.synced in (
        synced.0,
        synced.1,
        synced_row c.args.machine.now c.args.frames.now c.args.self.now k synced.0 c.requires.stage whole synced.2,
      );
  activity = search rules;
  loader = search rules;
  works = search rules;
  ready = search rules;
  fewer = search rules;
  machine = record { hw = refl; blocks = refl };
}

pub returns-in-Err-clause-stepped : goal.returns-in-Err-clause-stepped
returns-in-Err-clause-stepped g c = record {
  row = λ k told. (
    k,
    c.in-Err.ensures.failed ∙ told,
    row_of c.args.machine.now c.args.frames.now c.args.self.now c.args.machine.now c.args.frames.now _ c.stop.new.self (reply.SyncFault Same) c.stop.result k k c.stop.ensures.load c.stop.ensures.reply
        (sync_failed_row c.args.machine.now c.args.frames.now c.args.self.now k c.requires.stage),
  );
  activity = search rules;
  loader = search rules;
  works = search rules;
  ready = search rules;
  fewer = search rules;
  machine = record { hw = refl; blocks = refl };
}
