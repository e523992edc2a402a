use Rattle.hib_core.proofs.Leaving.{takes_none, leaves_by}
use Rattle.std.proofs.Common.{refl, rules}
use Rattle.std.proofs.Common.{◌≡◌, ℕ, ◌+◌, List, ap, ◌∙◌}
use Rattle.definitions.specs.Disk as disk
use Rattle.definitions.specs.Slots.{block_of}
use Rattle.definitions.specs.SwapHeader.{marked}
use Rattle.plain_machine.specs.declared.reply.Reply.TheVariants as reply
use Rattle.plain_machine.specs.declared.reply.UndoCall.TheVariants as undo
use Rattle.plain_machine.specs.Mark.{mark_flags}
use Rattle.unmark.specs.Unmarking.{from_write}
use Rattle.hib_core.specs.declared.hib.Stage.TheVariants as stage
use Rattle.hib_core.proofs.Facts.{row_of, after_step}
use Rattle.hib_core.specs.declared.hib.Saving.{Saving}
use Rattle.hib_core.proofs.Syncing.{gone_on}
use Rattle.hib_core.proofs.Marking.{mark_of, marked_row, mark_failed_row}
use Rattle.hib_core.proofs.hib.Hib.write_mark.Goals as goal
use Rattle.protocol_laws.proofs.Told.{content_of, content_after, changed, write_at}

pub returns-in-Ok-clause-stepped : goal.returns-in-Ok-clause-stepped
returns-in-Ok-clause-stepped g c = record {
  row = λ k told.
      let machine = c.args.machine.now in
      let hib = c.args.self.now in
      let whole = content_of (g.D.Disk.block_count c.args.disk.now) machine.blocks (g.D.Disk.content c.args.disk.now) k told c.requires.blocks (g.met.D.Disk.well_formed c.args.disk.now) in
      let block_is : c.block-block.result ≡ block_of machine.hw.extents 0 = c.block-block.ensures.block ∙ ap (λ (es : List (ℕ × ℕ × ℕ)). block_of es 0) c.extents.ensures.extents in
      let mark_is : c.mark-marked.result ≡ mark_of machine hib c.in-Mark.saving c.in-Mark.header =
      c.mark-marked.ensures.marked
      ∙ ap (λ (n : ℕ). marked c.in-Mark.header n c.flags-flags.result c.hw_sig.result) c.from-first.ensures ∙ ap (λ (n : ℕ). marked c.in-Mark.header c.in-Mark.saving.first n c.hw_sig.result) c.flags-flags.ensures
      ∙ ap (λ (n : ℕ). marked c.in-Mark.header c.in-Mark.saving.first (mark_flags hib.snapshot.format) n) c.hw_sig.ensures in
      let after = changed (disk.Writes c.block-block.result c.mark-marked.result) (g.D.Disk.content c.args.disk.now) (g.D.Disk.content c.write.new.self) k told c.in-Ok.ensures.written in
      let writes = write_at disk.Writes c.block-block.result (block_of machine.hw.extents 0) c.mark-marked.result (mark_of machine hib c.in-Mark.saving c.in-Mark.header) k after.0 block_is mark_is after.2 in
      let whole' = content_after (g.D.Disk.block_count c.args.disk.now) (g.D.Disk.block_count c.write.new.self) machine.blocks (g.D.Disk.content c.write.new.self) after.0 after.1 c.write.ensures.blocks c.requires.blocks (g.met.D.Disk.well_formed c.write.new.self) in (
        after.0,
        after.1,
        row_of machine c.args.frames.now hib machine c.args.frames.now (gone_on hib (stage.End (after_step c.in-Mark.saving) (mark_of machine hib c.in-Mark.saving c.in-Mark.header))) _ (reply.More (c.in-Mark.saving.done + 1) c.in-Mark.saving.steps) c.more.result k after.0
            (ap (λ (s : Saving). gone_on hib (stage.End s c.mark-marked.result)) c.after_step-saving.ensures ∙ ap (λ (p : List ℕ). gone_on hib (stage.End (after_step c.in-Mark.saving) p)) mark_is) (c.more.ensures ∙ ap (λ (s : Saving). reply.More s.done s.steps) c.after_step-saving.ensures)
            (marked_row machine c.args.frames.now c.args.runs.now hib c.in-Mark.saving c.in-Mark.header k after.0 c.requires.ready c.in-Mark.is whole whole' writes),
      );
  phase = search rules;
  zones = refl;
  fewer = search rules;
  works = search rules;
  ready = search rules;
  machine = search rules;
  memory = leaves_by c.more.result _ c.args.self.now.stage c.args.machine.now.hw c.args.frames.now c.args.frames.now c.more.ensures (takes_none c.args.machine.now.hw c.args.frames.now);
}

pub returns-in-Err-clause-stepped : goal.returns-in-Err-clause-stepped
returns-in-Err-clause-stepped g c = record {
  row = λ k told.
      let machine = c.args.machine.now in
      let hib = c.args.self.now in
      let whole = content_of (g.D.Disk.block_count c.args.disk.now) machine.blocks (g.D.Disk.content c.args.disk.now) k told c.requires.blocks (g.met.D.Disk.well_formed c.args.disk.now) in
      let block_is : c.block-block.result ≡ block_of machine.hw.extents 0 = c.block-block.ensures.block ∙ ap (λ (es : List (ℕ × ℕ × ℕ)). block_of es 0) c.extents.ensures.extents in
      let mark_is : c.mark-marked.result ≡ mark_of machine hib c.in-Mark.saving c.in-Mark.header =
      c.mark-marked.ensures.marked
      ∙ ap (λ (n : ℕ). marked c.in-Mark.header n c.flags-flags.result c.hw_sig.result) c.from-first.ensures ∙ ap (λ (n : ℕ). marked c.in-Mark.header c.in-Mark.saving.first n c.hw_sig.result) c.flags-flags.ensures
      ∙ ap (λ (n : ℕ). marked c.in-Mark.header c.in-Mark.saving.first (mark_flags hib.snapshot.format) n) c.hw_sig.ensures in
      let after = changed (disk.FailsToWrite c.block-block.result c.mark-marked.result) (g.D.Disk.content c.args.disk.now) (g.D.Disk.content c.write.new.self) k told c.in-Err.ensures.failed in
      let fails = write_at disk.FailsToWrite c.block-block.result (block_of machine.hw.extents 0) c.mark-marked.result (mark_of machine hib c.in-Mark.saving c.in-Mark.header) k after.0 block_is mark_is after.2 in
      let whole' = content_after (g.D.Disk.block_count c.args.disk.now) (g.D.Disk.block_count c.write.new.self) machine.blocks (g.D.Disk.content c.write.new.self) after.0 after.1 c.write.ensures.blocks c.requires.blocks (g.met.D.Disk.well_formed c.write.new.self) in (
        after.0,
        after.1,
        row_of machine c.args.frames.now hib machine c.args.frames.now (gone_on hib (stage.Undo undo.Write (from_write (mark_of machine hib c.in-Mark.saving c.in-Mark.header)))) c.begin_undo.new.self (reply.Undo undo.Write 0) c.begin_undo.result k after.0
            (c.begin_undo.ensures.hib ∙ ap (λ (p : List ℕ). gone_on hib (stage.Undo undo.Write (from_write p))) mark_is) c.begin_undo.ensures.reply
            (mark_failed_row machine c.args.frames.now c.args.runs.now hib c.in-Mark.saving c.in-Mark.header k after.0 c.requires.ready c.in-Mark.is whole whole' fails),
      );
  phase = search rules;
  zones = search rules;
  fewer = search rules;
  works = search rules;
  ready = search rules;
  machine = search rules;
  memory = leaves_by c.begin_undo.result _ c.args.self.now.stage c.args.machine.now.hw c.args.frames.now c.args.frames.now c.begin_undo.ensures.reply refl;
}
