use Rattle.std.proofs.Common.{[], ◌∷◌, ◌∙◌, inr, sym}
use Rattle.image_pages.proofs.SinceSaved.{refused_since, stands_since}
use Rattle.image_core.proofs.Since.{info_in_chain}
use Rattle.image_core.proofs.opening.read_info.Goals as goal

pub returns-then-not-read_page-clause-stopped : goal.returns-then-not-read_page-clause-stopped
returns-then-not-read_page-clause-stopped g c =
    let content = g.D.Disk.content c.args.disk.now in
    let blocks = g.D.Disk.block_count c.args.disk.now in
    let after = g.D.Disk.content c.open.new.disk in
    let many = g.D.Disk.block_count c.open.new.disk in
    let start = stands_since content after blocks many c.args.header c.in_ok-pages.pages [] (sym c.open.ensures.content) (sym c.open.ensures.blocks) c.in_ok-pages.ensures.opened in
    inr ([], refused_since after content many blocks c.args.header (g.D.Disk.faults c.args.disk.now) (g.D.Disk.faults c.open.new.disk) (g.D.Disk.faults c.read_page.new.disk) (g.R.Report.told c.args.report.now) (g.R.Report.told c.open.new.report) (g.R.Report.told c.read_page.new.report) [] c.open.ensures.content c.open.ensures.blocks c.in_ok-pages.ensures.told c.open.ensures.faults (c.if-not-read_page.ensures.gives c.args.header [] start tt))

pub returns-clause-page : goal.returns-clause-page
returns-clause-page g c =
    let content = g.D.Disk.content c.args.disk.now in
    let blocks = g.D.Disk.block_count c.args.disk.now in
    let after = g.D.Disk.content c.open.new.disk in
    let many = g.D.Disk.block_count c.open.new.disk in
    let start = stands_since content after blocks many c.args.header c.in_ok-pages.pages [] (sym c.open.ensures.content) (sym c.open.ensures.blocks) c.in_ok-pages.ensures.opened in
    let info = c.read_page.new.page in
    let stands = (c.if-not-read_page.ensures.gives c.args.header [] start tt).1 in
    info_in_chain content blocks c.args.header c.read_page.new.pages info []
    (stands_since after content many blocks c.args.header c.read_page.new.pages (info ∷ []) c.open.ensures.content c.open.ensures.blocks stands)

pub returns-clause-told : goal.returns-clause-told
returns-clause-told g c =
    let content = g.D.Disk.content c.args.disk.now in
    let blocks = g.D.Disk.block_count c.args.disk.now in
    let after = g.D.Disk.content c.open.new.disk in
    let many = g.D.Disk.block_count c.open.new.disk in
    let start = stands_since content after blocks many c.args.header c.in_ok-pages.pages [] (sym c.open.ensures.content) (sym c.open.ensures.blocks) c.in_ok-pages.ensures.opened in
    (c.if-not-read_page.ensures.gives c.args.header [] start tt).0 ∙ c.in_ok-pages.ensures.told
