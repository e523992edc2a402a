use Rattle.std.proofs.Common.{subst, ap, ◌∙◌, Option, ℕ, Ok}
use Rattle.image_check.specs.Entries.{data_after, data_fault, data_findings, read_findings}
use Rattle.image_check.specs.Told.{Tells, list_of}
use Rattle.image_check.specs.declared.finding.Finding.{Finding}
use Rattle.image_check.proofs.Telling.{tells_then}
use Rattle.image_check.proofs.entries.check_page.Goals as goal

pub returns : goal.returns
returns g c =
    let progress = c.args.progress in
    let page = c.args.page.now in
    let counted = data_after progress.counts c.args.position progress.counted (Ok page) in
    let then = g.R.Report.told c.check_read.new.report in
    let last = g.R.Report.told c.tell_any.new.report in
    let same = c.data_fault.ensures
    ∙ ap (λ (d : Option ℕ). data_fault c.args.format progress.counts c.args.position d) c.data_after-counted.ensures in
    tells_then (read_findings c.args.format progress.counts c.args.position c.args.block progress.previous (Ok page))
    (data_findings c.args.format progress.counts c.args.position counted (Ok page))
    (g.R.Report.told c.args.report.now) then last c.check_read.ensures
    (subst (λ (f : Option Finding). Tells (list_of f) then last) same c.tell_any.ensures)
