use Rattle.std.proofs.Common.{◌%◌, ◌≤◌, ◌∷◌, arith}
use Rattle.image_pages.proofs.Turning.{page_turned, wants_more}
use Rattle.image_pages.proofs.frames.numbers.turn.Goals as goal

pub read_page-requires : goal.read_page-requires
read_page-requires g c =
    let (header, (info, (pages, at))) = c.requires in
    let start : c.args.given % 512 ≤ 0 = omega (arith, c.if-given-gt0.false) in
    (header, (info ∷ pages, (at.stands, wants_more (g.D.Disk.content c.args.disk.now) (g.D.Disk.block_count c.args.disk.now) header c.args.numbers.now info pages c.args.given c.args.listed.now at start)))

pub returns-clause-turns : goal.returns-clause-turns
returns-clause-turns g c = λ header info pages at.
    let content = g.D.Disk.content c.args.disk.now in
    let blocks = g.D.Disk.block_count c.args.disk.now in
    let start : c.args.given % 512 ≤ 0 = omega (arith, c.if-given-gt0.false) in
    page_turned content blocks header (g.D.Disk.faults c.args.disk.now) (g.D.Disk.faults c.read_page.new.disk) (g.R.Report.told c.args.report.now) (g.R.Report.told c.read_page.new.report) c.args.numbers.now c.read_page.new.pages info pages c.args.given c.args.listed.now c.read_page.new.page c.read_page.result at start
    (c.read_page.ensures.gives header (info ∷ pages) at.stands (wants_more content blocks header c.args.numbers.now info pages c.args.given c.args.listed.now at start))
