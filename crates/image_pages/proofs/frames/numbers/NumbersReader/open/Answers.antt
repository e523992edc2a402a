use Rattle.std.proofs.Common.{[], sym, subst}
use Rattle.image_pages.specs.Opens.{Opens}
use Rattle.image_pages.proofs.SinceSaved.{stands_since}
use Rattle.image_pages.proofs.Since.{numbers_open_since}
use Rattle.image_pages.proofs.frames.numbers.NumbersReader.open.Goals as goal

pub begin-requires : goal.begin-requires
begin-requires g c =
    let o = subst (Opens (g.D.Disk.content c.args.disk.now) (g.D.Disk.block_count c.args.disk.now) c.args.header (g.D.Disk.faults c.args.disk.now) (g.D.Disk.faults c.open.new.disk) (g.R.Report.told c.args.report.now) (g.R.Report.told c.open.new.report)) c.in-Open.is c.in_ok-open.ensures.opened in
    (c.args.header, stands_since (g.D.Disk.content c.args.disk.now) (g.D.Disk.content c.open.new.disk) (g.D.Disk.block_count c.args.disk.now) (g.D.Disk.block_count c.open.new.disk) c.args.header c.in-Open.pages [] (sym c.open.ensures.content) (sym c.open.ensures.blocks) o.1)

pub returns-in-Open-clause-opened : goal.returns-in-Open-clause-opened
returns-in-Open-clause-opened g c =
    let o = subst (Opens (g.D.Disk.content c.args.disk.now) (g.D.Disk.block_count c.args.disk.now) c.args.header (g.D.Disk.faults c.args.disk.now) (g.D.Disk.faults c.open.new.disk) (g.R.Report.told c.args.report.now) (g.R.Report.told c.open.new.report)) c.in-Open.is c.in_ok-open.ensures.opened in
    let start = stands_since (g.D.Disk.content c.args.disk.now) (g.D.Disk.content c.open.new.disk) (g.D.Disk.block_count c.args.disk.now) (g.D.Disk.block_count c.open.new.disk) c.args.header c.in-Open.pages [] (sym c.open.ensures.content) (sym c.open.ensures.blocks) o.1 in
    numbers_open_since (g.D.Disk.content c.open.new.disk) (g.D.Disk.content c.args.disk.now) (g.D.Disk.block_count c.open.new.disk) (g.D.Disk.block_count c.args.disk.now) c.args.header (g.D.Disk.faults c.args.disk.now) (g.D.Disk.faults c.open.new.disk) (g.D.Disk.faults c.begin.new.disk) (g.R.Report.told c.args.report.now) (g.R.Report.told c.open.new.report) (g.R.Report.told c.begin.new.report) c.begin.result c.open.ensures.content c.open.ensures.blocks o.0 c.open.ensures.faults (c.begin.ensures.opened c.args.header start)
