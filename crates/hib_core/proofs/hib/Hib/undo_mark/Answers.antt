use Rattle.std.proofs.Common.{◌≡◌, ℕ, List, inl, inr, refl, sym, ap, ◌∙◌, subst, arith, rules}
use Rattle.definitions.specs.Disk as disk
use Rattle.definitions.specs.Slots.{block_of}
use Rattle.definitions.specs.SwapHeader.{unmarked_block}
use Rattle.unmark.specs.Unmarking.{HasUnmarked, IsPastRead, calls_left}
use Rattle.unmark.specs.declared.unmarking.UnmarkStep.{UnmarkStep}
use Rattle.hib_core.specs.StepsLeft.{steps_left_at}
use Rattle.hib_core.proofs.Facts.{row_at}
use Rattle.hib_core.proofs.Leaving.{gives_back, gone_gives, unsure_stays, leaves_by}
use Rattle.hib_core.proofs.Undoing.{back_row, back_failed_row, undone_row, end_failed_row}
use Rattle.hib_core.proofs.hib.Hib.undo_mark.Goals as goal
use Rattle.protocol_laws.proofs.Told.{content_of, content_after, changed, write_at}

pub returns-in-Written-clause-stepped : goal.returns-in-Written-clause-stepped
returns-in-Written-clause-stepped g c =
    let did = c.in-Written.ensures.unmarked in
    record {
      row = λ k told.
          let machine = c.args.machine.now in
          let hib = c.args.self.now in
          let header = unmarked_block c.in-Undo.unmark.header in
          let whole = content_of (g.D.Disk.block_count c.args.disk.now) machine.blocks (g.D.Disk.content c.args.disk.now) k told c.requires.blocks (g.met.D.Disk.well_formed c.args.disk.now) in
          let block_is : c.block-block.result ≡ block_of machine.hw.extents 0 = c.block-block.ensures.block ∙ ap (λ (es : List (ℕ × ℕ × ℕ)). block_of es 0) c.extents.ensures.extents in
          let after = changed (disk.Writes c.block-block.result header) (g.D.Disk.content c.args.disk.now) (g.D.Disk.content c.step.new.disk) k told did.content in
          let wrote = write_at disk.Writes c.block-block.result (block_of machine.hw.extents 0) header header k after.0 block_is refl after.2 in
          let whole' = content_after (g.D.Disk.block_count c.args.disk.now) (g.D.Disk.block_count c.step.new.disk) machine.blocks (g.D.Disk.content c.step.new.disk) after.0 after.1 c.step.ensures.called.blocks c.requires.blocks (g.met.D.Disk.well_formed c.step.new.disk) in (
            after.0,
            after.1,
            back_row machine c.args.frames.now c.args.runs.now hib k after.0 c.in-Undo.call c.in-Undo.unmark c.step.new.self c.requires.ready did.page c.in-Undo.is did.at did.next whole whole' wrote,
          );
      phase = refl;
      zones = refl;
      fewer =
          let left = ap steps_left_at c.in-Undo.is ∙ ap calls_left did.at in
          let left' = ap calls_left did.next in
          omega arith;
      works = refl;
      ready = record {
        hardware = c.requires.ready.hardware;
        few = c.requires.ready.few;
        size = c.requires.ready.size;
        table = c.requires.ready.table;
        matches = c.requires.ready.matches;
        header = c.requires.ready.header;
        next = subst IsPastRead (sym did.next) tt;
      };
      machine = search rules;
      memory = refl;
    }

pub returns-in-Synced-clause-stepped : goal.returns-in-Synced-clause-stepped
returns-in-Synced-clause-stepped g c =
    let did = c.in-Synced.ensures.unmarked in
    record {
      row = λ k told.
          let whole = content_of (g.D.Disk.block_count c.args.disk.now) c.args.machine.now.blocks (g.D.Disk.content c.args.disk.now) k told c.requires.blocks (g.met.D.Disk.well_formed c.args.disk.now) in
          let synced = changed disk.Syncs (g.D.Disk.content c.args.disk.now) (g.D.Disk.content c.step.new.disk) k told did.content in (
            synced.0,
            synced.1,
            row_at c.args.machine.now c.args.frames.now c.args.self.now _ _ c.give_up.new.frames _ c.give_up.new.self _ c.undone.result k synced.0 refl c.give_up.ensures.hib c.undone.ensures.reply
                (undone_row c.args.machine.now c.args.frames.now c.give_up.new.frames c.args.runs.now c.args.self.now k synced.0 c.in-Undo.call c.in-Undo.unmark
                c.requires.ready c.give_up.ensures.pages c.in-Undo.is did.at whole synced.2 c.give_up.ensures.given),
          );
      phase = search rules;
      zones = search rules;
      fewer = search rules;
      works = search rules;
      ready = search rules;
      machine = search rules;
      memory =
          leaves_by c.undone.result _ c.args.self.now.stage c.args.machine.now.hw c.args.frames.now c.give_up.new.frames c.undone.ensures.reply
          (gone_gives c.in-Undo.call c.args.self.now.stage c.args.machine.now.hw c.args.frames.now c.give_up.new.frames (gives_back c.args.machine.now.hw c.args.frames.now c.give_up.new.frames c.give_up.ensures.given));
    }

pub returns-in-WriteFault-clause-stepped : goal.returns-in-WriteFault-clause-stepped
returns-in-WriteFault-clause-stepped g c =
    let machine = c.args.machine.now in
    let hib = c.args.self.now in
    let unmark = c.in-Undo.unmark in
    let header = unmarked_block unmark.header in
    record {
      row = λ k told.
          let whole = content_of (g.D.Disk.block_count c.args.disk.now) machine.blocks (g.D.Disk.content c.args.disk.now) k told c.requires.blocks (g.met.D.Disk.well_formed c.args.disk.now) in
          elim c.in-WriteFault.is [
            | inl wrote ↦
                let did = subst (λ (r : UnmarkStep). HasUnmarked c.block-block.result unmark c.step.new.self r (g.D.Disk.content c.args.disk.now) (g.D.Disk.content c.step.new.disk)) wrote c.step.ensures.unmarked in
                let block_is : c.block-block.result ≡ block_of machine.hw.extents 0 = c.block-block.ensures.block ∙ ap (λ (es : List (ℕ × ℕ × ℕ)). block_of es 0) c.extents.ensures.extents in
                let after = changed (disk.FailsToWrite c.block-block.result header) (g.D.Disk.content c.args.disk.now) (g.D.Disk.content c.step.new.disk) k told did.content in
                let fails = write_at disk.FailsToWrite c.block-block.result (block_of machine.hw.extents 0) header header k after.0 block_is refl after.2 in
                let whole' = content_after (g.D.Disk.block_count c.args.disk.now) (g.D.Disk.block_count c.step.new.disk) machine.blocks (g.D.Disk.content c.step.new.disk) after.0 after.1 c.step.ensures.called.blocks c.requires.blocks (g.met.D.Disk.well_formed c.step.new.disk) in (
                  after.0,
                  after.1,
                  row_at machine c.args.frames.now hib _ c.leave_unsure.new.machine c.args.frames.now _ c.leave_unsure.new.self _ c.leave_unsure.result k after.0 c.leave_unsure.ensures.machine c.leave_unsure.ensures.hib c.leave_unsure.ensures.reply
                      (back_failed_row machine c.args.frames.now c.args.runs.now hib k after.0 c.in-Undo.call unmark c.requires.ready did.page c.in-Undo.is did.at whole whole' fails),
                )
            | inr synced ↦
                let did = subst (λ (r : UnmarkStep). HasUnmarked c.block-block.result unmark c.step.new.self r (g.D.Disk.content c.args.disk.now) (g.D.Disk.content c.step.new.disk)) synced c.step.ensures.unmarked in (
                  k,
                  did.content ∙ told,
                  row_at machine c.args.frames.now hib _ c.leave_unsure.new.machine c.args.frames.now _ c.leave_unsure.new.self _ c.leave_unsure.result k k c.leave_unsure.ensures.machine c.leave_unsure.ensures.hib c.leave_unsure.ensures.reply
                      (end_failed_row machine c.args.frames.now c.args.runs.now hib k c.in-Undo.call unmark c.requires.ready c.in-Undo.is did.at whole),
                )
          ];
      phase = search rules;
      zones = search rules;
      fewer = search rules;
      works = search rules;
      ready = search rules;
      machine = search rules;
      memory = leaves_by c.leave_unsure.result _ hib.stage machine.hw c.args.frames.now c.args.frames.now c.leave_unsure.ensures.reply (unsure_stays c.in-Undo.call hib.stage machine.hw c.args.frames.now);
    }
