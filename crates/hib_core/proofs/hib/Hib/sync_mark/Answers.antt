use Rattle.std.proofs.Common.{refl, rules}
use Rattle.hib_core.proofs.Leaving.{leaves_by}
use Rattle.std.proofs.Common.{sym, ◌∙◌}
use Rattle.definitions.specs.Disk as disk
use Rattle.plain_machine.specs.declared.reply.Reply.TheVariants as reply
use Rattle.plain_machine.specs.declared.reply.UndoCall.TheVariants as undo
use Rattle.hib_core.proofs.Facts.{row_of}
use Rattle.hib_core.proofs.Marking.{ended_row, asleep_row, end_failed_row}
use Rattle.hib_core.proofs.hib.Hib.sync_mark.Goals as goal
use Rattle.protocol_laws.proofs.Told.{content_of, changed}

pub returns-in-SwitchesOff-clause-stepped : goal.returns-in-SwitchesOff-clause-stepped
returns-in-SwitchesOff-clause-stepped g c = record {
  row = λ k told.
      let whole = content_of (g.D.Disk.block_count c.args.disk.now) c.args.machine.now.blocks (g.D.Disk.content c.args.disk.now) k told c.requires.blocks (g.met.D.Disk.well_formed c.args.disk.now) in
      let synced = changed disk.Syncs (g.D.Disk.content c.args.disk.now) (g.D.Disk.content c.sync.new.self) k told c.in-Ok.ensures.synced in (
        synced.0,
        synced.1,
        ended_row c.args.machine.now c.args.frames.now c.args.runs.now c.args.self.now c.in-End.saving c.in-End.header k synced.0 c.requires.ready (sym c.replace.ensures.value ∙ c.in-End.is) c.in-SwitchesOff.is whole synced.2,
      );
  phase = refl;
  zones = refl;
  fewer = search rules;
  works = refl;
  ready = search rules;
  machine = search rules;
  memory = search rules;
}

pub returns-in-Sleeps-clause-stepped : goal.returns-in-Sleeps-clause-stepped
returns-in-Sleeps-clause-stepped g c = record {
  row = λ k told.
      let whole = content_of (g.D.Disk.block_count c.args.disk.now) c.args.machine.now.blocks (g.D.Disk.content c.args.disk.now) k told c.requires.blocks (g.met.D.Disk.well_formed c.args.disk.now) in
      let synced = changed disk.Syncs (g.D.Disk.content c.args.disk.now) (g.D.Disk.content c.sync.new.self) k told c.in-Ok.ensures.synced in (
        synced.0,
        synced.1,
        asleep_row c.args.machine.now c.args.frames.now c.args.runs.now c.args.self.now c.in-End.saving c.in-End.header k synced.0 c.requires.ready (sym c.replace.ensures.value ∙ c.in-End.is) c.in-Sleeps.is whole synced.2,
      );
  phase = refl;
  zones = refl;
  fewer = search rules;
  works = refl;
  ready = search rules;
  machine = search rules;
  memory = search rules;
}

pub returns-in-Err-clause-stepped : goal.returns-in-Err-clause-stepped
returns-in-Err-clause-stepped g c = record {
  row = λ k told. (
    k,
    c.in-Err.ensures.failed ∙ told,
    row_of c.args.machine.now c.args.frames.now c.args.self.now c.args.machine.now c.args.frames.now _ c.begin_undo.new.self (reply.Undo undo.Sync 0) c.begin_undo.result k k c.begin_undo.ensures.hib c.begin_undo.ensures.reply
        (end_failed_row c.args.machine.now c.args.frames.now c.args.runs.now c.args.self.now c.in-End.saving c.in-End.header k c.requires.ready (sym c.replace.ensures.value ∙ c.in-End.is)),
  );
  phase = search rules;
  zones = search rules;
  fewer = search rules;
  works = search rules;
  ready = search rules;
  machine = search rules;
  memory = leaves_by c.begin_undo.result _ c.args.self.now.stage c.args.machine.now.hw c.args.frames.now c.args.frames.now c.begin_undo.ensures.reply refl;
}
