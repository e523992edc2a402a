use Rattle.std.proofs.Common.{ℕ, ◌<◌, ◌∙◌, refl, sym, subst, arith, rules}
use Rattle.std.specs.Prelude.{Result, OnOk, OnErr}
use Rattle.definitions.specs.Disk.{Changes, Writes, FailsToWrite}
use Rattle.image_write.specs.Answers.{Succeeds}
use Rattle.image_write.proofs.Mapping.{after_succeeds, write_of_page}
use Rattle.plain_machine.specs.Image.{page_place, page_of_write}
use Rattle.image_write.specs.Writing.{writes_of}
use Rattle.image_write.proofs.Places.{page_write, taken_before_page}
use Rattle.image_write.proofs.writer.Writer.write_page.Goals as goal
use Rattle.image_write.proofs.writer.Writer.write_page.Goals.{in-Ok, in-Err}

pub write-requires : goal.write-requires
write-requires g c =
    let w = c.args.self.now in
    let free = c.requires.writing.0 in
    let here = c.requires.writing.1 in
    let page = page_write w.info.pages w.written here.unfinished c.requires.page in
    let below = page.below in
    let more = page.more in
    let place : page_place (page_of_write w.written) < writes_of w.info = let count = taken_before_page w.written below in omega arith in
    subst (λ (b : ℕ). b < g.D.Disk.block_count c.args.disk.now) (sym (c.take_page-block.ensures.block free here)) (c.requires.writing.2 (page_place (page_of_write w.written)) place)

pub returns-clause-page : goal.returns-clause-page
returns-clause-page g c =
    let w = c.args.self.now in
    let old = g.D.Disk.content c.args.disk.now in
    let new = g.D.Disk.content c.write.new.self in
    record {
      written = λ free h done. elim c.match-write.branch [
        | in-Ok b ↦ write_of_page Writes free w c.args.page.now c.args.page.now c.take_page-block.result old new c.requires.page (c.take_page-block.ensures.block free h) refl (subst (λ (r : Result _ _). OnOk r (Changes (Writes c.take_page-block.result c.args.page.now) old new)) b.in-Ok.is c.write.ensures.written)
        | in-Err b ↦ absurd (subst Succeeds b.result-is done)
      ];
      failed = λ free h fault. elim c.match-write.branch [
        | in-Ok b ↦ absurd (subst Succeeds (sym (b.told.ensures) ∙ sym b.result-is ∙ fault) (after_succeeds _ _))
        | in-Err b ↦ write_of_page FailsToWrite free w c.args.page.now c.args.page.now c.take_page-block.result old new c.requires.page (c.take_page-block.ensures.block free h) refl (subst (λ (r : Result _ _). OnErr r (Changes (FailsToWrite c.take_page-block.result c.args.page.now) old new)) b.in-Err.is c.write.ensures.failed)
      ];
    }

pub returns-clause-writer : goal.returns-clause-writer
returns-clause-writer g c = record { image = search rules; made = search rules; writing = search rules; cursor = search rules }
