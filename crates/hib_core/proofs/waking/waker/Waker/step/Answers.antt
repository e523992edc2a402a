use Rattle.std.proofs.Common.{◌≡◌, ◌<◌, ℕ, List, inl, inr, refl, sym, ap, ◌∙◌, subst, arith}
use Rattle.definitions.specs.Disk as disk
use Rattle.definitions.specs.Slots.{block_of}
use Rattle.definitions.specs.SwapHeader.{unmarked_block}
use Rattle.plain_machine.specs.Shows.{seen_frames}
use Rattle.plain_machine.specs.declared.reply.Left.TheVariants.{Same, Unsure}
use Rattle.plain_machine.specs.declared.reply.Reply.{Reply}
use Rattle.plain_machine.specs.declared.reply.Reply.TheVariants as reply
use Rattle.protocol_laws.specs.Settling.{IsOnDisk}
use Rattle.unmark.specs.Unmarking.{calls_left}
use Rattle.unmark.specs.declared.unmarking.Unmark.{Unmark}
use Rattle.unmark.specs.declared.unmarking.UnmarkCall.{UnmarkCall}
use Rattle.unmark.specs.declared.unmarking.UnmarkCall.TheVariants as call
use Rattle.hib_core.specs.Waking.{IsReplyAt, IsReplyTo, waking_steps_left_at}
use Rattle.hib_core.specs.WakingRow.{WakingStandsFor, Sleeps, Runs}
use Rattle.hib_core.specs.declared.waking.waker.Stage.{Stage}
use Rattle.hib_core.specs.declared.waking.waker.Stage.TheVariants as stage
use Rattle.hib_core.proofs.WakingRows.{as_left, read_row, read_failed_row, write_row, write_failed_row, woken, woken_row, sync_failed_row}
use Rattle.hib_core.proofs.waking.waker.Waker.step.Goals as goal
use Rattle.protocol_laws.proofs.Told.{content_of, changed, header_read, write_at}

-- the reply at a stage is one to its call
reply_at : (s : Stage) (unmark : Unmark) (next : UnmarkCall) (r : Reply) → s ≡ stage.Wakes unmark → unmark.next ≡ next → IsReplyTo next r → IsReplyAt s r
reply_at s unmark next r at is to = subst (λ (t : Stage). IsReplyAt t r) (sym at) (subst (λ (n : UnmarkCall). IsReplyTo n r) (sym is) to)

pub returns-in-Read-clause-stepped : goal.returns-in-Read-clause-stepped
returns-in-Read-clause-stepped g c =
    let did = c.in-Read.ensures.unmarked in
    record {
      row = λ frames memory machine' frames' left k told.
          let machine = c.args.machine.now in
          let waker = c.args.self.now in
          let whole = content_of (g.D.Disk.block_count c.args.disk.now) machine.blocks (g.D.Disk.content c.args.disk.now) k told c.requires.blocks (g.met.D.Disk.well_formed c.args.disk.now) in
          let block_is : c.block-block.result ≡ block_of machine.hw.extents 0 = c.block-block.ensures.block ∙ ap (λ (es : List (ℕ × ℕ × ℕ)). block_of es 0) c.extents.ensures.extents in
          let below = subst (λ (n : ℕ). n < machine.blocks) (sym block_is) c.requires.header in
          let read = header_read machine.hw c.block-block.result machine.blocks c.step.new.self.header k (g.D.Disk.content c.args.disk.now) whole block_is below told did.header in (
            k,
            did.content ∙ told,
            as_left machine frames waker (λ m f. WakingStandsFor m f (record waker { stage = stage.Wakes c.step.new.self })) machine machine' frames frames' _ k k left.0 left.1 (read_row machine frames waker c.in-Wakes.unmark c.step.new.self k c.in-Wakes.is did.at did.next read),
          );
      reply = reply_at c.args.self.now.stage c.in-Wakes.unmark call.Read (reply.More 1 3) c.in-Wakes.is did.at (inl refl);
      phase = search;
      fewer =
          let left = ap waking_steps_left_at c.in-Wakes.is ∙ ap calls_left did.at in
          let left' = ap calls_left did.next in
          omega arith;
    }

pub returns-in-ReadFault-clause-stepped : goal.returns-in-ReadFault-clause-stepped
returns-in-ReadFault-clause-stepped g c =
    let did = c.in-ReadFault.ensures.unmarked in
    record {
      row = λ frames memory machine' frames' left k told. (
        k,
        did.content ∙ told,
        as_left c.args.machine.now frames c.args.self.now Sleeps c.args.machine.now machine' frames frames' _ k k left.0 left.1 (read_failed_row c.args.machine.now frames c.args.self.now c.in-Wakes.unmark k c.in-Wakes.is did.at),
      );
      reply = reply_at c.args.self.now.stage c.in-Wakes.unmark call.Read (reply.ReadFault Same) c.in-Wakes.is did.at (inr refl);
      phase = search;
      fewer =
          let left = ap waking_steps_left_at c.in-Wakes.is ∙ ap calls_left did.at in
          omega arith;
    }

pub returns-in-Written-clause-stepped : goal.returns-in-Written-clause-stepped
returns-in-Written-clause-stepped g c =
    let did = c.in-Written.ensures.unmarked in
    record {
      row = λ frames memory machine' frames' left k told.
          let machine = c.args.machine.now in
          let waker = c.args.self.now in
          let header = unmarked_block c.in-Wakes.unmark.header in
          let whole = content_of (g.D.Disk.block_count c.args.disk.now) machine.blocks (g.D.Disk.content c.args.disk.now) k told c.requires.blocks (g.met.D.Disk.well_formed c.args.disk.now) in
          let block_is : c.block-block.result ≡ block_of machine.hw.extents 0 = c.block-block.ensures.block ∙ ap (λ (es : List (ℕ × ℕ × ℕ)). block_of es 0) c.extents.ensures.extents in
          let after = changed (disk.Writes c.block-block.result header) (g.D.Disk.content c.args.disk.now) (g.D.Disk.content c.step.new.disk) k told did.content in
          let writes = write_at disk.Writes c.block-block.result (block_of machine.hw.extents 0) header header k after.0 block_is refl after.2 in
          let whole' = content_of (g.D.Disk.block_count c.step.new.disk) machine.blocks (g.D.Disk.content c.step.new.disk) after.0 after.1 (c.step.ensures.called.blocks ∙ c.requires.blocks) (g.met.D.Disk.well_formed c.step.new.disk) in
          let over : IsOnDisk machine.hw machine.blocks k = record { hardware = c.requires.hardware; content = whole; header = c.requires.header } in (
            after.0,
            after.1,
            as_left machine frames waker (λ m f. WakingStandsFor m f (record waker { stage = stage.Wakes c.step.new.self })) machine machine' frames frames' _ k after.0 left.0 left.1
                (write_row machine frames waker c.in-Wakes.unmark c.step.new.self k after.0 over c.in-Wakes.is did.at did.next whole' writes),
          );
      reply = reply_at c.args.self.now.stage c.in-Wakes.unmark call.Write (reply.More 2 3) c.in-Wakes.is did.at (inl refl);
      phase = search;
      fewer =
          let left = ap waking_steps_left_at c.in-Wakes.is ∙ ap calls_left did.at in
          let left' = ap calls_left did.next in
          omega arith;
    }

pub returns-in-WriteFault-clause-stepped : goal.returns-in-WriteFault-clause-stepped
returns-in-WriteFault-clause-stepped g c =
    let did = c.in-WriteFault.ensures.unmarked in
    record {
      row = λ frames memory machine' frames' left k told.
          let machine = c.args.machine.now in
          let waker = c.args.self.now in
          let header = unmarked_block c.in-Wakes.unmark.header in
          let whole = content_of (g.D.Disk.block_count c.args.disk.now) machine.blocks (g.D.Disk.content c.args.disk.now) k told c.requires.blocks (g.met.D.Disk.well_formed c.args.disk.now) in
          let block_is : c.block-block.result ≡ block_of machine.hw.extents 0 = c.block-block.ensures.block ∙ ap (λ (es : List (ℕ × ℕ × ℕ)). block_of es 0) c.extents.ensures.extents in
          let after = changed (disk.FailsToWrite c.block-block.result header) (g.D.Disk.content c.args.disk.now) (g.D.Disk.content c.step.new.disk) k told did.content in
          let fails = write_at disk.FailsToWrite c.block-block.result (block_of machine.hw.extents 0) header header k after.0 block_is refl after.2 in
          let whole' = content_of (g.D.Disk.block_count c.step.new.disk) machine.blocks (g.D.Disk.content c.step.new.disk) after.0 after.1 (c.step.ensures.called.blocks ∙ c.requires.blocks) (g.met.D.Disk.well_formed c.step.new.disk) in
          let over : IsOnDisk machine.hw machine.blocks k = record { hardware = c.requires.hardware; content = whole; header = c.requires.header } in (
            after.0,
            after.1,
            as_left machine frames waker Sleeps machine machine' frames frames' _ k after.0 left.0 left.1 (write_failed_row machine frames waker c.in-Wakes.unmark k after.0 over c.in-Wakes.is did.at whole' fails),
          );
      reply = reply_at c.args.self.now.stage c.in-Wakes.unmark call.Write (reply.WriteFault Unsure) c.in-Wakes.is did.at (inr refl);
      phase = search;
      fewer =
          let left = ap waking_steps_left_at c.in-Wakes.is ∙ ap calls_left did.at in
          omega arith;
    }

pub returns-in-Synced-clause-stepped : goal.returns-in-Synced-clause-stepped
returns-in-Synced-clause-stepped g c =
    let did = c.in-Synced.ensures.unmarked in
    record {
      row = λ frames memory machine' frames' left k told.
          let machine = c.args.machine.now in
          let waker = c.args.self.now in
          let whole = content_of (g.D.Disk.block_count c.args.disk.now) machine.blocks (g.D.Disk.content c.args.disk.now) k told c.requires.blocks (g.met.D.Disk.well_formed c.args.disk.now) in
          let synced = changed disk.Syncs (g.D.Disk.content c.args.disk.now) (g.D.Disk.content c.step.new.disk) k told did.content in (
            synced.0,
            synced.1,
            as_left machine frames waker Runs (woken machine) machine' (seen_frames machine.hw frames) frames' _ k synced.0 left.0 left.1
                (woken_row machine frames waker c.in-Wakes.unmark k synced.0 memory c.in-Wakes.is did.at whole synced.2),
          );
      reply = reply_at c.args.self.now.stage c.in-Wakes.unmark call.Sync reply.Woken c.in-Wakes.is did.at (inl refl);
      phase = search;
      fewer =
          let left = ap waking_steps_left_at c.in-Wakes.is ∙ ap calls_left did.at in
          omega arith;
    }

pub returns-in-SyncFault-clause-stepped : goal.returns-in-SyncFault-clause-stepped
returns-in-SyncFault-clause-stepped g c =
    let did = c.in-SyncFault.ensures.unmarked in
    record {
      row = λ frames memory machine' frames' left k told. (
        k,
        did.content ∙ told,
        as_left c.args.machine.now frames c.args.self.now Sleeps c.args.machine.now machine' frames frames' _ k k left.0 left.1 (sync_failed_row c.args.machine.now frames c.args.self.now c.in-Wakes.unmark k c.in-Wakes.is did.at),
      );
      reply = reply_at c.args.self.now.stage c.in-Wakes.unmark call.Sync (reply.SyncFault Unsure) c.in-Wakes.is did.at (inr refl);
      phase = search;
      fewer =
          let left = ap waking_steps_left_at c.in-Wakes.is ∙ ap calls_left did.at in
          omega arith;
    }
