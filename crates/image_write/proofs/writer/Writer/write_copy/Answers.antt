use Rattle.std.proofs.Common.{sym, ◌∙◌, subst, rules}
use Rattle.std.specs.Prelude.{Result, OnOk, OnErr}
use Rattle.definitions.specs.Disk.{Changes, Writes, FailsToWrite, HasRisen}
use Rattle.definitions.specs.Tables.{frame}
use Rattle.image_write.specs.Answers.{Succeeds}
use Rattle.image_write.proofs.Mapping.{after_succeeds, write_of_page}
use Rattle.image_write.proofs.writer.Writer.write_copy.Goals as goal
use Rattle.image_write.proofs.writer.Writer.write_copy.Goals.{in-Ok, in-Err}

pub returns-clause-called : goal.returns-clause-called
returns-clause-called g c =
    let write = c.write-answer.ensures in
    record {
      cause = λ fault. elim c.match-answer.branch [
        | in-Ok w ↦ absurd (subst Succeeds (sym (w.told.ensures) ∙ sym w.result-is ∙ fault) (after_succeeds _ _))
        | in-Err w ↦ subst (λ (r : Result _ _). OnErr r (HasRisen (g.D.Disk.faults c.args.disk.now) (g.D.Disk.faults c.write-answer.new.self))) w.in-Err.is write.cause
      ];
      faults = write.faults;
      calls = write.calls;
      orders = write.orders;
      blocks = write.blocks;
      telling = write.telling;
      time = write.time;
    }

pub returns-clause-page : goal.returns-clause-page
returns-clause-page g c =
    let w = c.args.self.now in
    let old = g.D.Disk.content c.args.disk.now in
    let new = g.D.Disk.content c.write-answer.new.self in
    record {
      written = λ free h done. elim c.match-answer.branch [
        | in-Ok b ↦ write_of_page Writes free w (frame c.args.frames.now c.args.copy) c.page.result.now c.next_block-block.result old new c.requires.page (c.next_block-block.ensures.block free h) c.page.ensures.content (subst (λ (r : Result _ _). OnOk r (Changes (Writes c.next_block-block.result c.page.result.now) old new)) b.in-Ok.is c.write-answer.ensures.written)
        | in-Err b ↦ absurd (subst Succeeds b.result-is done)
      ];
      failed = λ free h fault. elim c.match-answer.branch [
        | in-Ok b ↦ absurd (subst Succeeds (sym (b.told.ensures) ∙ sym b.result-is ∙ fault) (after_succeeds _ _))
        | in-Err b ↦ write_of_page FailsToWrite free w (frame c.args.frames.now c.args.copy) c.page.result.now c.next_block-block.result old new c.requires.page (c.next_block-block.ensures.block free h) c.page.ensures.content (subst (λ (r : Result _ _). OnErr r (Changes (FailsToWrite c.next_block-block.result c.page.result.now) old new)) b.in-Err.is c.write-answer.ensures.failed)
      ];
    }

pub returns-clause-writer : goal.returns-clause-writer
returns-clause-writer g c = record { image = search rules; made = search rules; writing = search rules; cursor = search rules }
