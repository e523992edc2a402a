use Rattle.std.proofs.Common.{List, ℕ, subst}
use Rattle.image_write.specs.Steps.{WritesPage}
use Rattle.image_write.proofs.writer.Writer.write_head.Goals as goal

pub returns-clause-page : goal.returns-clause-page
returns-clause-page g c saved =
    subst (λ (page : List ℕ). WritesPage page c.write_page.result c.args.frames.now c.args.self.now (g.D.Disk.content c.args.disk.now) (g.D.Disk.content c.write_page.new.disk))
    (c.next_head-page.ensures saved) c.write_page.ensures.page
