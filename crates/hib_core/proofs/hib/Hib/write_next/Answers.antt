use Rattle.std.proofs.Common.{◌≡◌, ◌<◌, ◌+◌, ap, ◌∙◌, subst, sym, refl, rules}
use Rattle.image_write.specs.Writing.{Makes, FailsToMake}
use Rattle.image_write.specs.declared.write_step.WriteStep.TheVariants as answer
use Rattle.plain_machine.specs.declared.reply.Reply.TheVariants as reply
use Rattle.protocol_laws.specs.Rows.{TellsNewFault}
use Rattle.swap_slots.specs.Table.{Matches}
use Rattle.swap_slots.specs.declared.table.SlotTable.{SlotTable}
use Rattle.sector_disk.specs.Called.{OneCall}
use Rattle.sector_disk.proofs.Called.{fails_as}
use Rattle.hib_core.specs.Ready.{CanWrite, CanStep}
use Rattle.hib_core.specs.declared.hib.Saving.{Saving}
use Rattle.hib_core.specs.declared.hib.Stage.TheVariants as stage
use Rattle.hib_core.proofs.Facts.{next_at, row_of, after_step}
use Rattle.hib_core.proofs.Leaving.{takes_next, leaves_by}
use Rattle.hib_core.proofs.Stepping.{can_write_on, can_sync, ready_on}
use Rattle.hib_core.proofs.Writing.{row_made, row_failed, numbers_on, numbers_done}
use Rattle.hib_core.proofs.hib.Hib.write_next.Goals as goal
use Rattle.protocol_laws.proofs.Told.{content_of}

pub returns-in-More-clause-stepped : goal.returns-in-More-clause-stepped
returns-in-More-clause-stepped g c =
    let hib = c.args.self.now in
    let machine = c.args.machine.now in
    let saving = c.in-Write.saving in
    let writer' = c.write_step.new.writer in
    let made = c.in-More.ensures.made tt in
    let ready : (saving.done + 4 < saving.steps) × CanWrite machine.hw machine.blocks c.args.frames.now hib.snapshot saving c.in-Write.writer = next_at machine c.args.frames.now c.args.runs.now hib (stage.Write saving c.in-Write.writer) c.in-Write.is c.requires.ready in
    record {
      row = λ k told.
          let whole = content_of (g.D.Disk.block_count c.args.disk.now) machine.blocks (g.D.Disk.content c.args.disk.now) k told c.requires.blocks (g.met.D.Disk.well_formed c.args.disk.now) in
          let row = row_made machine c.args.frames.now c.write_step.new.frames c.args.runs.now hib saving c.in-Write.writer writer' (stage.Write (after_step saving) writer') (g.D.Disk.content c.args.disk.now) (g.D.Disk.content c.write_step.new.disk) k
          c.requires.ready c.write_step.ensures.pages c.in-Write.is whole made
          (numbers_on machine.hw c.args.frames.now c.write_step.new.frames saving c.in-Write.writer writer' made.same (c.in-More.ensures.writer.made tt) (λ free h. c.in-More.ensures.writer.writing free h tt)) refl told in (
            row.0,
            row.1,
            row_of machine c.args.frames.now hib machine c.write_step.new.frames (record hib { stage = stage.Write (after_step saving) writer' }) _ (reply.More (saving.done + 1) saving.steps) c.more.result k row.0
                (ap (λ (s : Saving). record hib { stage = stage.Write s writer' }) c.after_step.ensures) (c.more.ensures ∙ ap (λ (s : Saving). reply.More s.done s.steps) c.after_step.ensures) row.2,
          );
      phase = search rules;
      zones = refl;
      fewer = search rules;
      works = search rules;
      ready =
          let next = can_write_on machine.hw machine.blocks c.args.frames.now c.write_step.new.frames hib.snapshot saving c.in-Write.writer writer' ready.1 made.same (c.in-More.ensures.writer.made tt) (λ free h. c.in-More.ensures.writer.writing free h tt) (c.in-More.ensures.writer.cursor tt) c.write_step.ensures.kept.len in
          subst (λ (s : Saving). CanStep machine c.write_step.new.frames c.write_step.new.runs (record hib { stage = stage.Write s writer' })) (sym c.after_step.ensures)
          (ready_on machine c.args.frames.now c.write_step.new.frames c.args.runs.now c.write_step.new.runs hib (stage.Write (after_step saving) writer') c.requires.ready c.write_step.ensures.kept.len
          (subst (λ (t : SlotTable). Matches c.write_step.new.frames t c.write_step.new.runs) ready.1.table c.write_step.ensures.kept.runs) next);
      machine = search rules;
      memory =
          leaves_by c.more.result _ hib.stage machine.hw c.args.frames.now c.write_step.new.frames c.more.ensures
          (takes_next machine.hw machine.blocks c.args.frames.now c.write_step.new.frames hib.snapshot saving c.in-Write.writer c.write_step.new.writer Makes (g.D.Disk.content c.args.disk.now) (g.D.Disk.content c.write_step.new.disk) ready.1 (c.in-More.ensures.made tt));
    }

pub returns-in-Done-clause-stepped : goal.returns-in-Done-clause-stepped
returns-in-Done-clause-stepped g c =
    let hib = c.args.self.now in
    let machine = c.args.machine.now in
    let saving = c.in-Write.saving in
    let ready : (saving.done + 4 < saving.steps) × CanWrite machine.hw machine.blocks c.args.frames.now hib.snapshot saving c.in-Write.writer = next_at machine c.args.frames.now c.args.runs.now hib (stage.Write saving c.in-Write.writer) c.in-Write.is c.requires.ready in
    record {
      row = λ k told.
          let whole = content_of (g.D.Disk.block_count c.args.disk.now) machine.blocks (g.D.Disk.content c.args.disk.now) k told c.requires.blocks (g.met.D.Disk.well_formed c.args.disk.now) in
          let row = row_made machine c.args.frames.now c.write_step.new.frames c.args.runs.now hib saving c.in-Write.writer c.write_step.new.writer (stage.Sync (after_step saving)) (g.D.Disk.content c.args.disk.now) (g.D.Disk.content c.write_step.new.disk) k
          c.requires.ready c.write_step.ensures.pages c.in-Write.is whole (c.in-Done.ensures.made tt)
          (numbers_done machine.hw c.args.frames.now c.write_step.new.frames saving c.in-Write.writer) refl told in (
            row.0,
            row.1,
            row_of machine c.args.frames.now hib machine c.write_step.new.frames (record hib { stage = stage.Sync (after_step saving) }) _ (reply.More (saving.done + 1) saving.steps) c.more-in-Done.result k row.0
                (ap (λ (s : Saving). record hib { stage = stage.Sync s }) c.after_step-saving.ensures) (c.more-in-Done.ensures ∙ ap (λ (s : Saving). reply.More s.done s.steps) c.after_step-saving.ensures) row.2,
          );
      phase = search rules;
      zones = refl;
      fewer = search rules;
      works = search rules;
      ready =
          subst (λ (s : Saving). CanStep machine c.write_step.new.frames c.write_step.new.runs (record hib { stage = stage.Sync s })) (sym c.after_step-saving.ensures)
          (ready_on machine c.args.frames.now c.write_step.new.frames c.args.runs.now c.write_step.new.runs hib (stage.Sync (after_step saving)) c.requires.ready c.write_step.ensures.kept.len
          (subst (λ (t : SlotTable). Matches c.write_step.new.frames t c.write_step.new.runs) ready.1.table c.write_step.ensures.kept.runs)
          (can_sync saving c.in-Write.writer ready.1.done ready.1.steps (c.in-Done.ensures.done refl)));
      machine = search rules;
      memory =
          leaves_by c.more-in-Done.result _ hib.stage machine.hw c.args.frames.now c.write_step.new.frames c.more-in-Done.ensures
          (takes_next machine.hw machine.blocks c.args.frames.now c.write_step.new.frames hib.snapshot saving c.in-Write.writer c.write_step.new.writer Makes (g.D.Disk.content c.args.disk.now) (g.D.Disk.content c.write_step.new.disk) ready.1 (c.in-Done.ensures.made tt));
    }

pub returns-in-Fault-clause-stepped : goal.returns-in-Fault-clause-stepped
returns-in-Fault-clause-stepped g c =
    let machine = c.args.machine.now in
    let hib = c.args.self.now in
    let saving = c.in-Write.saving in
    let ready : (saving.done + 4 < saving.steps) × CanWrite machine.hw machine.blocks c.args.frames.now hib.snapshot saving c.in-Write.writer = next_at machine c.args.frames.now c.args.runs.now hib (stage.Write saving c.in-Write.writer) c.in-Write.is c.requires.ready in
    record {
      row = λ k told.
          let whole = content_of (g.D.Disk.block_count c.args.disk.now) machine.blocks (g.D.Disk.content c.args.disk.now) k told c.requires.blocks (g.met.D.Disk.well_formed c.args.disk.now) in
          row_failed machine c.args.frames.now c.write_step.new.frames c.give_up.new.frames c.args.runs.now c.args.self.now c.give_up.new.self c.in-Write.saving c.in-Write.writer c.write_step.new.writer
          (g.D.Disk.content c.args.disk.now) (g.D.Disk.content c.write_step.new.disk) k c.requires.ready c.write_step.ensures.pages c.give_up.ensures.pages c.write_step.ensures.kept.len c.in-Write.is whole (c.in-Fault.ensures.failed refl)
          c.give_up.ensures.hib c.give_up.ensures.given told;
      phase = search rules;
      zones = search rules;
      fewer = search rules;
      works = refl;
      ready = search rules;
      machine = search rules;
      memory =
          record {
            before = c.write_step.new.frames;
            takes = takes_next machine.hw machine.blocks c.args.frames.now c.write_step.new.frames hib.snapshot saving c.in-Write.writer c.write_step.new.writer FailsToMake (g.D.Disk.content c.args.disk.now) (g.D.Disk.content c.write_step.new.disk) ready.1 (c.in-Fault.ensures.failed refl);
            given = c.give_up.ensures.given;
          };
    }

pub returns-in-More-clause-called : goal.returns-in-More-clause-called
returns-in-More-clause-called g c =
    fails_as g.D.Disk OneCall (c.write_step.result ≡ answer.Fault) (TellsNewFault c.more.result) c.args.disk.now c.write_step.new.disk
    (λ fault. absurd (subst TellsNewFault c.more.ensures fault)) c.write_step.ensures.called

pub returns-in-Done-clause-called : goal.returns-in-Done-clause-called
returns-in-Done-clause-called g c =
    fails_as g.D.Disk OneCall (c.write_step.result ≡ answer.Fault) (TellsNewFault c.more-in-Done.result) c.args.disk.now c.write_step.new.disk
    (λ fault. absurd (subst TellsNewFault c.more-in-Done.ensures fault)) c.write_step.ensures.called
