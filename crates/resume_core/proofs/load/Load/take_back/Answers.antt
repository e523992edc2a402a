use Rattle.std.proofs.Common.{◌≡◌, ℕ, ◌+◌, List, ap, ◌∙◌, refl, arith, rules}
use Rattle.definitions.specs.Disk as disk
use Rattle.definitions.specs.Slots.{block_of}
use Rattle.definitions.specs.SwapHeader.{unmarked_block}
use Rattle.plain_machine.specs.Machine.{block_of_slot}
use Rattle.plain_machine.specs.declared.reply.Reply.TheVariants as reply
use Rattle.plain_machine.specs.declared.reply.Left.TheVariants.{Unsure}
use Rattle.unmark.specs.Unmarking.{calls_left}
use Rattle.unmark.specs.declared.unmarking.UnmarkCall.{UnmarkCall}
use Rattle.resume_core.specs.Loading.{header_at}
use Rattle.resume_core.specs.StepsLeft.{loading_steps_left_at}
use Rattle.resume_core.proofs.Facts.{row_of}
use Rattle.resume_core.proofs.TakingBack.{back_row, back_failed_row, back_sync_failed_row, opened_row, back_stopped_row}
use Rattle.resume_core.proofs.load.Load.take_back.Goals as goal
use Rattle.protocol_laws.proofs.Told.{content_of, changed, write_at}

pub returns-in-Written-clause-stepped : goal.returns-in-Written-clause-stepped
returns-in-Written-clause-stepped g c =
    let did = c.in-Written.ensures.unmarked in
    record {
      row = λ k told.
          let machine = c.args.machine.now in
          let header = unmarked_block c.in-Back.unmark.header in
          let whole = content_of (g.D.Disk.block_count c.args.disk.now) machine.blocks (g.D.Disk.content c.args.disk.now) k told c.requires.blocks (g.met.D.Disk.well_formed c.args.disk.now) in
          let at : c.block-block.result ≡ block_of_slot machine.hw 0 = c.block-block.ensures.block ∙ ap (λ (m : List (ℕ × ℕ × ℕ)). block_of m 0) c.extents.ensures.extents in
          let wrote = changed (disk.Writes c.block-block.result header) (g.D.Disk.content c.args.disk.now) (g.D.Disk.content c.step.new.disk) k told did.content in
          let writes = write_at disk.Writes c.block-block.result (block_of_slot machine.hw 0) header header k wrote.0 at refl wrote.2 in
          let whole' = content_of (g.D.Disk.block_count c.step.new.disk) machine.blocks (g.D.Disk.content c.step.new.disk) wrote.0 wrote.1 (c.step.ensures.called.blocks ∙ c.requires.blocks) (g.met.D.Disk.well_formed c.step.new.disk) in (
            wrote.0,
            wrote.1,
            back_row machine c.args.frames.now c.args.self.now c.in-Back.unmark c.step.new.self c.in-Back.mark k wrote.0 c.requires.ready.over.hardware c.in-Back.is did.at did.next did.header whole whole' writes,
          );
      activity = search rules;
      loader = search rules;
      works = search rules;
      ready = search rules;
      fewer =
          let left = ap loading_steps_left_at c.in-Back.is ∙ ap (λ (n : UnmarkCall). 65796 + calls_left n) did.at in
          let left' = ap calls_left did.next in
          omega arith;
      machine = record { hw = refl; blocks = refl };
    }

pub returns-in-WriteFault-clause-stepped : goal.returns-in-WriteFault-clause-stepped
returns-in-WriteFault-clause-stepped g c =
    let did = c.in-WriteFault.ensures.unmarked in
    record {
      row = λ k told.
          let machine = c.args.machine.now in
          let header = unmarked_block c.in-Back.unmark.header in
          let whole = content_of (g.D.Disk.block_count c.args.disk.now) machine.blocks (g.D.Disk.content c.args.disk.now) k told c.requires.blocks (g.met.D.Disk.well_formed c.args.disk.now) in
          let at : c.block-block.result ≡ block_of_slot machine.hw 0 = c.block-block.ensures.block ∙ ap (λ (m : List (ℕ × ℕ × ℕ)). block_of m 0) c.extents.ensures.extents in
          let tried = changed (disk.FailsToWrite c.block-block.result header) (g.D.Disk.content c.args.disk.now) (g.D.Disk.content c.step.new.disk) k told did.content in
          let tries = write_at disk.FailsToWrite c.block-block.result (block_of_slot machine.hw 0) header header k tried.0 at refl tried.2 in
          let whole' = content_of (g.D.Disk.block_count c.step.new.disk) machine.blocks (g.D.Disk.content c.step.new.disk) tried.0 tried.1 (c.step.ensures.called.blocks ∙ c.requires.blocks) (g.met.D.Disk.well_formed c.step.new.disk) in (
            tried.0,
            tried.1,
            row_of machine c.args.frames.now c.args.self.now machine c.args.frames.now _ c.stop-in-WriteFault.new.self (reply.WriteFault Unsure) c.stop-in-WriteFault.result k tried.0 c.stop-in-WriteFault.ensures.load c.stop-in-WriteFault.ensures.reply
                (back_failed_row machine c.args.frames.now c.args.self.now c.in-Back.unmark c.in-Back.mark k tried.0 c.requires.ready.over.hardware c.in-Back.is did.at whole whole' tries),
          );
      activity = search rules;
      loader = search rules;
      works = search rules;
      ready = search rules;
      fewer = search rules;
      machine = record { hw = refl; blocks = refl };
    }

pub returns-in-SyncFault-clause-stepped : goal.returns-in-SyncFault-clause-stepped
returns-in-SyncFault-clause-stepped g c =
    let did = c.in-SyncFault.ensures.unmarked in
    record {
      row = λ k told. (
        k,
        did.content ∙ told,
        row_of c.args.machine.now c.args.frames.now c.args.self.now c.args.machine.now c.args.frames.now _ c.stop-in-SyncFault.new.self (reply.SyncFault Unsure) c.stop-in-SyncFault.result k k c.stop-in-SyncFault.ensures.load c.stop-in-SyncFault.ensures.reply
            (back_sync_failed_row c.args.machine.now c.args.frames.now c.args.self.now c.in-Back.unmark c.in-Back.mark k c.in-Back.is did.at),
      );
      activity = search rules;
      loader = search rules;
      works = search rules;
      ready = search rules;
      fewer = search rules;
      machine = record { hw = refl; blocks = refl };
    }

pub returns-in-Err-clause-stepped : goal.returns-in-Err-clause-stepped
returns-in-Err-clause-stepped g c =
    let did = c.in-Synced.ensures.unmarked in
    record {
      row = λ k told.
          let whole = content_of (g.D.Disk.block_count c.args.disk.now) c.args.machine.now.blocks (g.D.Disk.content c.args.disk.now) k told c.requires.blocks (g.met.D.Disk.well_formed c.args.disk.now) in
          let synced = changed disk.Syncs (g.D.Disk.content c.args.disk.now) (g.D.Disk.content c.step.new.disk) k told did.content in (
            synced.0,
            synced.1,
            row_of c.args.machine.now c.args.frames.now c.args.self.now c.args.machine.now c.args.frames.now _ c.stop.new.self c.in-Err.why c.stop.result k synced.0 c.stop.ensures.load c.stop.ensures.reply
                (back_stopped_row c.args.machine.now c.args.frames.now c.args.self.now c.in-Back.unmark c.in-Back.mark k synced.0 c.in-Err.why c.requires.ready.over.hardware c.in-Back.is did.at whole synced.2
                (λ v is. c.in-Err.ensures.opens v is.mark is.blocks)),
          );
      activity = search rules;
      loader = search rules;
      works = search rules;
      ready = search rules;
      fewer = search rules;
      machine = record { hw = refl; blocks = refl };
    }

pub returns-in-Back-replace-clause-stepped : goal.returns-in-Back-replace-clause-stepped
returns-in-Back-replace-clause-stepped g c =
    let did = c.in-Synced.ensures.unmarked in
    let kept = c.into_header.ensures ∙ ap header_at c.in-Back-replace.ensures.value ∙ did.header in
    record {
      row = λ k told.
          let whole = content_of (g.D.Disk.block_count c.args.disk.now) c.args.machine.now.blocks (g.D.Disk.content c.args.disk.now) k told c.requires.blocks (g.met.D.Disk.well_formed c.args.disk.now) in
          let synced = changed disk.Syncs (g.D.Disk.content c.args.disk.now) (g.D.Disk.content c.step.new.disk) k told did.content in (
            synced.0,
            synced.1,
            opened_row c.args.machine.now c.args.frames.now c.args.self.now c.in-Back.unmark c.in-Back.mark c.into_header.result c.in-Ok.reader k synced.0 c.requires.ready.over.hardware c.in-Back.is did.at kept whole synced.2
                (λ v is. c.in-Ok.ensures.opens v is.mark is.blocks),
          );
      activity = search rules;
      loader = search rules;
      works = search rules;
      ready = search rules;
      fewer = search rules;
      machine = record { hw = refl; blocks = refl };
    }
