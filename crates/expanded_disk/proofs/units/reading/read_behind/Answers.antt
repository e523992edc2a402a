use Rattle.std.proofs.Common.{ap, subst}
use Rattle.image_check.specs.declared.finding.Counts.{Counts}
use Rattle.expanded_disk.specs.Passes.{PassSays}
use Rattle.expanded_disk.specs.declared.units.reading.Units.{Units}
use Rattle.expanded_disk.proofs.Opening.{behind_compared}
use Rattle.expanded_disk.proofs.units.reading.read_behind.Goals as goal

pub returns-in-Whole-clause-opened : goal.returns-in-Whole-clause-opened
returns-in-Whole-clause-opened g c =
    let content = g.K.Original.state.content in
    let before = g.K.Original.state.faults in
    let now = (g.B.ReadOnly.state c.read_units.new.source.below).faults in
    let old = c.args.chain in
    let new = c.read_units.new.chain in
    let pages = c.counts_in-pages.result.pages in
    let made = c.index_of-index.ensures in
    behind_compared content c.args.front.header.now c.args.front.info.now old new before now
    (g.R.Report.told c.args.report.now) (g.R.Report.told c.compare.new.report) pages c.in-Whole.crc c.in-Whole.starts.items c.index_of-index.result c.compare.result
    c.read_units.ensures.same
    (ap (λ (n : Counts). n.pages) c.counts_in-pages.ensures)
    (subst (λ (u : Units). PassSays content pages before now old new u) c.in-Whole.is c.in_ok-finding.ensures.says)
    (record { header = made.header; first = made.first; info = made.info; pages = made.pages; maps = made.maps; starts = made.starts })
    c.compare.ensures
