use Rattle.image_check.specs.Info.{name_fault}
use Rattle.image_check.specs.Told.{Tells, each_below}
use Rattle.image_check.proofs.info.check_names.Given as goal

abbrev pub invariant-loop-name : goal.invariant-loop-name
invariant-loop-name g l = Tells (each_below (name_fault l.page) l.name) (g.R.Report.told l.initial.report) (g.R.Report.told l.report)
