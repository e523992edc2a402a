use Rattle.std.proofs.Common.{◌≤◌, ℕ, List, Option, sym, subst, ◌∙◌, arith}
use Rattle.definitions.specs.Disk.{Content}
use Rattle.image_walk.specs.Walking.{names_left}
use Rattle.image_pages.specs.Ends.{Says}
use Rattle.image_pages.specs.Stands.{Stands}
use Rattle.image_pages.proofs.Onward.{says_earlier}
use Rattle.image_pages.proofs.pages.Pages.next.Goals as goal

pub returns-in-Some-clause-says : goal.returns-in-Some-clause-says
returns-in-Some-clause-says g c = λ header given s.
    let i = c.loop-next.invariant in
    let content = g.D.Disk.content c.args.disk.now in
    let blocks = g.D.Disk.block_count c.args.disk.now in
    let before = g.D.Disk.faults c.args.disk.now in
    let then = g.D.Disk.faults c.loop-next.disk in
    let now = g.D.Disk.faults c.read_name.new.disk in
    let first = g.R.Report.told c.args.report.now in
    let old = g.R.Report.told c.loop-next.report in
    let new = g.R.Report.told c.read_name.new.report in
    let p = c.loop-next.self in
    let q = c.read_name.new.self in
    let page = c.read_name.new.page in
    says_earlier content blocks header before then now first old new given c.args.self.now p q page c.in-Some.next i.told i.faults i.fewer
    (subst (λ (x : Option Content). Says x blocks header then now old new given p q page c.in-Some.next) i.content
    (subst (λ (n : ℕ). Says (g.D.Disk.content c.loop-next.disk) n header then now old new given p q page c.in-Some.next) i.blocks
    (c.in-Some.ensures.reads header given (i.still header given s))))

pub loop-next-smaller : goal.loop-next-smaller
loop-next-smaller g c =
    let (header, (given, s)) = c.loop-next.invariant.stands in
    (c.in_default.ensures.reads header given s).2

pub loop-next-preserved : goal.loop-next-preserved
loop-next-preserved g c =
    let i = c.loop-next.invariant in
    let (header, (given, s)) = i.stands in
    let none = c.in_default.ensures.reads header given s in
    let at : (h : ℕ) (gs : List (List ℕ)) → Stands (g.D.Disk.content c.loop-next.disk) (g.D.Disk.block_count c.loop-next.disk) h c.read_name.new.self gs → Stands (g.D.Disk.content c.read_name.new.disk) (g.D.Disk.block_count c.read_name.new.disk) h c.read_name.new.self gs = λ h gs t.
    subst (λ (y : Option Content). Stands y (g.D.Disk.block_count c.read_name.new.disk) h c.read_name.new.self gs) (sym c.read_name.ensures.content)
    (subst (λ (m : ℕ). Stands (g.D.Disk.content c.loop-next.disk) m h c.read_name.new.self gs) (sym c.read_name.ensures.blocks) t) in
    record {
      stands = (header, (given, at header given none.1));
      still = λ h gs t. at h gs (c.in_default.ensures.reads h gs (i.still h gs t)).1;
      told = none.0 ∙ i.told;
      fewer = let less : names_left c.read_name.new.self.walker ≤ names_left c.loop-next.self.walker = omega (arith, none.2) in omega arith;
      format = c.read_name.ensures.format ∙ i.format;
      content = c.read_name.ensures.content ∙ i.content;
      faults = omega (arith, i.faults, c.read_name.ensures.faults);
      orders = c.read_name.ensures.orders ∙ i.orders;
      blocks = c.read_name.ensures.blocks ∙ i.blocks;
    }
