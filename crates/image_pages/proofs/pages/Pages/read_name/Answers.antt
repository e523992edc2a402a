use Rattle.std.proofs.Common.{refl, subst, sym, Option}
use Rattle.image_pages.specs.Ends.{Reads}
use Rattle.image_pages.specs.declared.pages.Next.{Next}
use Rattle.image_pages.specs.declared.pages.Pages.{Pages}
use Rattle.image_pages.proofs.Stepping.{reads_end, reads_more, reads_wrong}
use Rattle.image_pages.proofs.pages.Pages.read_name.Goals as goal

pub returns-in_default-clause-reads : goal.returns-in_default-clause-reads
returns-in_default-clause-reads g c = λ header given s.
    reads_end (g.D.Disk.content c.args.disk.now) (g.D.Disk.block_count c.args.disk.now) header (g.D.Disk.faults c.args.disk.now) (g.D.Disk.faults c.step.new.disk)
    (g.R.Report.told c.args.report.now) given c.args.self.now c.args.self.now c.step.new.page s (c.in_default.ensures.end s.start.first s.history s.follows)

pub returns-then-not-accept_name-clause-reads : goal.returns-then-not-accept_name-clause-reads
returns-then-not-accept_name-clause-reads g c = λ header given s.
    let step = c.in-Some.ensures.step s.start.first s.history s.follows in
    let q : Pages = record { walker = c.step.new.self; format = c.args.self.now.format; progress = c.args.self.now.progress } in
    reads_wrong (g.D.Disk.content c.args.disk.now) (g.D.Disk.block_count c.args.disk.now) header (g.D.Disk.faults c.args.disk.now) (g.D.Disk.faults c.step.new.disk)
    (g.R.Report.told c.args.report.now) (g.R.Report.told c.accept_name.new.report) given c.args.self.now q s c.in-Some.visit c.step.new.page step
    (c.if-not-accept_name.ensures.told s.history step.place s.knows)

pub returns-clause-reads : goal.returns-clause-reads
returns-clause-reads g c = λ header given s.
    let content = g.D.Disk.content c.args.disk.now in
    let blocks = g.D.Disk.block_count c.args.disk.now in
    let before = g.D.Disk.faults c.args.disk.now in
    let now = g.D.Disk.faults c.step.new.disk in
    let old = g.R.Report.told c.args.report.now in
    let new = g.R.Report.told c.accept_name.new.report in
    let step = c.in-Some.ensures.step s.start.first s.history s.follows in
    let q : Pages = record { walker = c.step.new.self; format = c.args.self.now.format; progress = c.accept_name.new.progress } in
    subst (λ (o : Option Next). Reads content blocks header before now old new given c.args.self.now q c.step.new.page o) (sym c.page_seen.ensures)
    (reads_more content blocks header before now old new given c.args.self.now q s c.in-Some.visit c.step.new.page c.step.ensures.limits refl step
    (c.if-not-accept_name.ensures.told s.history step.place s.knows)
    (c.if-not-accept_name.ensures.known s.history step.place s.knows refl))
