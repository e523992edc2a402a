use Rattle.std.proofs.Common.{◌≡◌, ◌<◌, ℕ, List, refl, sym, ap, ◌∙◌, subst, arith, rules}
use Rattle.definitions.specs.Disk as disk
use Rattle.definitions.specs.Slots.{block_of}
use Rattle.definitions.specs.SwapHeader.{unmarked_block}
use Rattle.unmark.specs.Unmarking.{calls_left}
use Rattle.hib_core.specs.StepsLeft.{steps_left_at}
use Rattle.hib_core.specs.declared.hib.Stage.TheVariants as stage
use Rattle.hib_core.proofs.Facts.{row_at}
use Rattle.hib_core.proofs.Leaving.{gives_back, takes_none, read_fails}
use Rattle.hib_core.proofs.SettleRows.{settle_read_row, settle_read_failed_row, settle_write_row, settle_write_failed_row, settled_row, settle_sync_failed_row}
use Rattle.hib_core.proofs.hib.Hib.settle_on.Goals as goal
use Rattle.protocol_laws.proofs.Told.{content_of, content_after, changed, header_read, write_at}

pub returns-in-Read-clause-stepped : goal.returns-in-Read-clause-stepped
returns-in-Read-clause-stepped g c =
    let did = c.in-Read.ensures.unmarked in
    record {
      row = λ k told.
          let machine = c.args.machine.now in
          let whole = content_of (g.D.Disk.block_count c.args.disk.now) machine.blocks (g.D.Disk.content c.args.disk.now) k told c.requires.blocks (g.met.D.Disk.well_formed c.args.disk.now) in
          let block_is : c.block-block.result ≡ block_of machine.hw.extents 0 = c.block-block.ensures.block ∙ ap (λ (es : List (ℕ × ℕ × ℕ)). block_of es 0) c.extents.ensures.extents in
          let below = subst (λ (n : ℕ). n < machine.blocks) (sym block_is) c.requires.ready.header in
          let read = header_read machine.hw c.block-block.result machine.blocks c.step.new.self.header k (g.D.Disk.content c.args.disk.now) whole block_is below told did.header in
          (k, did.content ∙ told, settle_read_row machine c.args.frames.now c.args.self.now c.in-Settle.unmark c.step.new.self k c.in-Settle.is did.at did.next read);
      phase = refl;
      zones = refl;
      fewer =
          let left = ap steps_left_at c.in-Settle.is ∙ ap calls_left did.at in
          let left' = ap calls_left did.next in
          omega arith;
      works = refl;
      ready = search rules;
      machine = search rules;
      memory = takes_none c.args.machine.now.hw c.args.frames.now;
    }

pub returns-in-ReadFault-clause-stepped : goal.returns-in-ReadFault-clause-stepped
returns-in-ReadFault-clause-stepped g c =
    let did = c.in-ReadFault.ensures.unmarked in
    record {
      row = λ k told. (k, did.content ∙ told, settle_read_failed_row c.args.machine.now c.args.frames.now c.args.self.now c.in-Settle.unmark k c.in-Settle.is did.at);
      phase = refl;
      zones = refl;
      fewer =
          let left = ap steps_left_at c.in-Settle.is ∙ ap calls_left did.at in
          omega arith;
      works = refl;
      ready = search rules;
      machine = search rules;
      memory = read_fails (stage.Settle c.in-Settle.unmark) c.args.self.now.stage c.args.machine.now.hw c.args.frames.now c.args.frames.now c.in-Settle.is refl;
    }

pub returns-in-Written-clause-stepped : goal.returns-in-Written-clause-stepped
returns-in-Written-clause-stepped g c =
    let did = c.in-Written.ensures.unmarked in
    record {
      row = λ k told.
          let machine = c.args.machine.now in
          let hib = c.args.self.now in
          let header = unmarked_block c.in-Settle.unmark.header in
          let whole = content_of (g.D.Disk.block_count c.args.disk.now) machine.blocks (g.D.Disk.content c.args.disk.now) k told c.requires.blocks (g.met.D.Disk.well_formed c.args.disk.now) in
          let block_is : c.block-block.result ≡ block_of machine.hw.extents 0 = c.block-block.ensures.block ∙ ap (λ (es : List (ℕ × ℕ × ℕ)). block_of es 0) c.extents.ensures.extents in
          let after = changed (disk.Writes c.block-block.result header) (g.D.Disk.content c.args.disk.now) (g.D.Disk.content c.step.new.disk) k told did.content in
          let writes = write_at disk.Writes c.block-block.result (block_of machine.hw.extents 0) header header k after.0 block_is refl after.2 in
          let whole' = content_after (g.D.Disk.block_count c.args.disk.now) (g.D.Disk.block_count c.step.new.disk) machine.blocks (g.D.Disk.content c.step.new.disk) after.0 after.1 c.step.ensures.called.blocks c.requires.blocks (g.met.D.Disk.well_formed c.step.new.disk) in (
            after.0,
            after.1,
            settle_write_row machine c.args.frames.now c.args.runs.now hib c.in-Settle.unmark c.step.new.self k after.0 c.requires.ready c.in-Settle.is did.at did.next whole whole' writes,
          );
      phase = refl;
      zones = refl;
      fewer =
          let left = ap steps_left_at c.in-Settle.is ∙ ap calls_left did.at in
          let left' = ap calls_left did.next in
          omega arith;
      works = refl;
      ready = search rules;
      machine = search rules;
      memory = takes_none c.args.machine.now.hw c.args.frames.now;
    }

pub returns-in-WriteFault-clause-stepped : goal.returns-in-WriteFault-clause-stepped
returns-in-WriteFault-clause-stepped g c =
    let did = c.in-WriteFault.ensures.unmarked in
    record {
      row = λ k told.
          let machine = c.args.machine.now in
          let hib = c.args.self.now in
          let header = unmarked_block c.in-Settle.unmark.header in
          let whole = content_of (g.D.Disk.block_count c.args.disk.now) machine.blocks (g.D.Disk.content c.args.disk.now) k told c.requires.blocks (g.met.D.Disk.well_formed c.args.disk.now) in
          let block_is : c.block-block.result ≡ block_of machine.hw.extents 0 = c.block-block.ensures.block ∙ ap (λ (es : List (ℕ × ℕ × ℕ)). block_of es 0) c.extents.ensures.extents in
          let after = changed (disk.FailsToWrite c.block-block.result header) (g.D.Disk.content c.args.disk.now) (g.D.Disk.content c.step.new.disk) k told did.content in
          let fails = write_at disk.FailsToWrite c.block-block.result (block_of machine.hw.extents 0) header header k after.0 block_is refl after.2 in
          let whole' = content_after (g.D.Disk.block_count c.args.disk.now) (g.D.Disk.block_count c.step.new.disk) machine.blocks (g.D.Disk.content c.step.new.disk) after.0 after.1 c.step.ensures.called.blocks c.requires.blocks (g.met.D.Disk.well_formed c.step.new.disk) in (
            after.0,
            after.1,
            row_at machine c.args.frames.now hib _ c.stop_unsure.new.machine c.args.frames.now _ c.stop_unsure.new.self _ _ k after.0 c.stop_unsure.ensures.machine c.stop_unsure.ensures.hib refl
                (settle_write_failed_row machine c.args.frames.now c.args.runs.now hib c.in-Settle.unmark k after.0 c.requires.ready c.in-Settle.is did.at whole whole' fails),
          );
      phase = search rules;
      zones = search rules;
      fewer = search rules;
      works = refl;
      ready = search rules;
      machine = search rules;
      memory = search rules;
    }

pub returns-in-Synced-clause-stepped : goal.returns-in-Synced-clause-stepped
returns-in-Synced-clause-stepped g c =
    let did = c.in-Synced.ensures.unmarked in
    record {
      row = λ k told.
          let whole = content_of (g.D.Disk.block_count c.args.disk.now) c.args.machine.now.blocks (g.D.Disk.content c.args.disk.now) k told c.requires.blocks (g.met.D.Disk.well_formed c.args.disk.now) in
          let synced = changed disk.Syncs (g.D.Disk.content c.args.disk.now) (g.D.Disk.content c.step.new.disk) k told did.content in (
            synced.0,
            synced.1,
            row_at c.args.machine.now c.args.frames.now c.args.self.now _ _ c.give_up.new.frames _ c.give_up.new.self _ _ k synced.0 refl c.give_up.ensures.hib refl
                (settled_row c.args.machine.now c.args.frames.now c.give_up.new.frames c.args.runs.now c.args.self.now c.in-Settle.unmark k synced.0
                c.requires.ready c.give_up.ensures.pages c.in-Settle.is did.at whole synced.2 c.give_up.ensures.given),
          );
      phase = search rules;
      zones = search rules;
      fewer = search rules;
      works = refl;
      ready = search rules;
      machine = search rules;
      memory = gives_back c.args.machine.now.hw c.args.frames.now c.give_up.new.frames c.give_up.ensures.given;
    }

pub returns-in-SyncFault-clause-stepped : goal.returns-in-SyncFault-clause-stepped
returns-in-SyncFault-clause-stepped g c =
    let did = c.in-SyncFault.ensures.unmarked in
    record {
      row = λ k told. (
        k,
        did.content ∙ told,
        row_at c.args.machine.now c.args.frames.now c.args.self.now _ c.stop_unsure-in-SyncFault.new.machine c.args.frames.now _ c.stop_unsure-in-SyncFault.new.self _ _ k k c.stop_unsure-in-SyncFault.ensures.machine c.stop_unsure-in-SyncFault.ensures.hib refl
            (settle_sync_failed_row c.args.machine.now c.args.frames.now c.args.self.now c.in-Settle.unmark k c.in-Settle.is did.at),
      );
      phase = search rules;
      zones = search rules;
      fewer = search rules;
      works = refl;
      ready = search rules;
      machine = search rules;
      memory = search rules;
    }
