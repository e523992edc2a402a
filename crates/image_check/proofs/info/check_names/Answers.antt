use Rattle.std.proofs.Common.{subst, Option}
use Rattle.image_check.specs.Info.{name_fault}
use Rattle.image_check.specs.Told.{Tells, list_of}
use Rattle.image_check.specs.declared.finding.Finding.{Finding}
use Rattle.image_check.proofs.Telling.{tells_start, tells_more}
use Rattle.image_check.proofs.info.check_names.Goals as goal

pub loop-name-init : goal.loop-name-init
loop-name-init g c = tells_start _ _

pub loop-name-preserved : goal.loop-name-preserved
loop-name-preserved g c =
    tells_more (name_fault c.args.page.now) c.loop-name.name (g.R.Report.told c.args.report.now) (g.R.Report.told c.loop-name.report) (g.R.Report.told c.tell_any.new.report) c.loop-name.invariant
    (subst (λ (f : Option Finding). Tells (list_of f) (g.R.Report.told c.loop-name.report) (g.R.Report.told c.tell_any.new.report)) c.name_fault.ensures c.tell_any.ensures)
