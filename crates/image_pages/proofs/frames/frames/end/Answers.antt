use Rattle.std.proofs.Common.{subst, ◌∷◌}
use Rattle.image_pages.specs.Ends.{Says}
use Rattle.image_pages.specs.declared.pages.Next.{Next}
use Rattle.image_pages.proofs.Giving.{no_page}
use Rattle.image_pages.proofs.frames.frames.end.Goals as goal

pub next-requires : goal.next-requires
next-requires g c = let (header, (info, (rest, full))) = c.requires in (header, (info ∷ rest, full.stands))

pub returns-in-End-clause-ends : goal.returns-in-End-clause-ends
returns-in-End-clause-ends g c = λ header info rest full. c.in-End.ensures.says header (info ∷ rest) full.stands

pub returns-in-Refused-clause-ends : goal.returns-in-Refused-clause-ends
returns-in-Refused-clause-ends g c = λ header info rest full. c.in-Refused.ensures.says header (info ∷ rest) full.stands

pub unreachable-requires : goal.unreachable-requires
unreachable-requires g c =
    let (header, (info, (rest, full))) = c.requires in
    let says = subst (λ (n : Next). Says (g.D.Disk.content c.args.disk.now) (g.D.Disk.block_count c.args.disk.now) header (g.D.Disk.faults c.args.disk.now) (g.D.Disk.faults c.next.new.disk) (g.R.Report.told c.args.report.now) (g.R.Report.told c.next.new.report) (info ∷ rest) c.args.pages.now c.next.new.self c.next.new.page n) c.in-Page.is (c.next.ensures.says header (info ∷ rest) full.stands) in
    no_page (g.D.Disk.content c.args.disk.now) (g.D.Disk.block_count c.args.disk.now) header c.args.pages.now c.next.new.self info rest c.next.new.page full says.1
