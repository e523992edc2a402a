use Rattle.std.proofs.Common.{subst}
use Rattle.image_pages.specs.Ends.{Says}
use Rattle.image_pages.specs.declared.pages.Next.{Next}
use Rattle.image_pages.proofs.SinceSaved.{not_whole}
use Rattle.image_pages.proofs.saved.finding.read_page.Goals as goal

pub unreachable-requires : goal.unreachable-requires
unreachable-requires g c =
    let (header, (given, (s, more))) = c.requires in
    let says = subst (λ (n : Next). Says (g.D.Disk.content c.args.disk.now) (g.D.Disk.block_count c.args.disk.now) header (g.D.Disk.faults c.args.disk.now) (g.D.Disk.faults c.next.new.disk) (g.R.Report.told c.args.report.now) (g.R.Report.told c.next.new.report) given c.args.pages.now c.next.new.self c.next.new.page n) c.in-End.is (c.next.ensures.says header given s) in
    not_whole given more says.2.sized

pub returns-in-Page-clause-gives : goal.returns-in-Page-clause-gives
returns-in-Page-clause-gives g c = λ header given s more.
    let says = c.in-Page.ensures.says header given s in (says.0, says.1)
