use Rattle.std.proofs.Common.{◌≡◌, ◌<◌, [], length, subst, refl, inl, inr}
use Rattle.page_core.specs.declared.format.Format.{Format}
use Rattle.image_check.specs.Checked.{format_of}
use Rattle.image_check.specs.Info.{info_findings}
use Rattle.image_check.specs.Told.{Told, Tells}
use Rattle.expanded_disk.specs.Chains.{Gives}
use Rattle.expanded_disk.specs.Passes.{OpensBehind}
use Rattle.expanded_disk.specs.declared.units.chain.Read.{Read}
use Rattle.expanded_disk.specs.declared.units.reading.Opened.{Opened}
use Rattle.expanded_disk.proofs.Opening.{if_ok, info_page, opens_behind}
use Rattle.expanded_disk.proofs.units.reading.read_chain.Goals as goal

pub returns-then-not-accept_info-clause-opened : goal.returns-then-not-accept_info-clause-opened
returns-then-not-accept_info-clause-opened g c =
    let content = g.K.Original.state.content in
    let before = g.K.Original.state.faults in
    let now = (g.B.ReadOnly.state c.next.new.source.below).faults in
    let old = c.args.chain in
    let page = c.next.new.page in
    let told = g.R.Report.told c.args.report.now in
    let then = g.R.Report.told c.accept_info.new.report in
    let gives = subst (λ (r : Read). Gives content 0 before now old c.next.new.self page r) c.in-Page.is c.in_ok-finding.ensures.read in
    let is = info_page content old page c.in-Page.field-0 c.requires.first gives.2 in
    let wrong = subst (λ (f : Format). (0 < length (info_findings f page)) × Tells (info_findings f page) told then) c.format_of.ensures c.if-not-accept_info.ensures in
    (info_findings (format_of c.args.flags) page, (wrong.1, wrong.0, inr (inl (page, (is, refl)))))

pub returns-else-not-accept_info-clause-opened : goal.returns-else-not-accept_info-clause-opened
returns-else-not-accept_info-clause-opened g c =
    let content = g.K.Original.state.content in
    let before = g.K.Original.state.faults in
    let now = (g.B.ReadOnly.state c.next.new.source.below).faults in
    let last = (g.B.ReadOnly.state c.read_behind.new.source.below).faults in
    let old = c.args.chain in
    let mid = c.next.new.self in
    let page = c.next.new.page in
    let header = c.args.header.now in
    let told = g.R.Report.told c.args.report.now in
    let same = g.R.Report.told c.accept_info.new.report in
    let then = g.R.Report.told c.read_behind.new.report in
    let gives = subst (λ (r : Read). Gives content 0 before now old mid page r) c.in-Page.is c.in_ok-finding.ensures.read in
    let is = info_page content old page c.in-Page.field-0 c.requires.first gives.2 in
    let fine = subst (λ (f : Format). (info_findings f page ≡ []) × (same ≡ told)) c.format_of.ensures c.if-not-accept_info.ensures in
    if_ok c.read_behind.result
    (λ (o : Opened) (says : OpensBehind content header page mid before last same then o).
    opens_behind content c.args.flags header page old mid before last told then o c.next.ensures.same is fine.0
    (subst (λ (t : Told). OpensBehind content header page mid before last t then o) fine.1 says))
    c.read_behind.ensures.opened
