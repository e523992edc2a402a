use Rattle.std.proofs.Common.{IfOk, sym, subst}
use Rattle.image_machine_cli.specs.Makes.{MakesWanted}
use Rattle.image_machine_cli.specs.declared.wanted.Wanted.{Wanted}
use Rattle.image_machine_cli.proofs.making.make_from.Goals as goal

pub returns-in-Loader-clause-made : goal.returns-in-Loader-clause-made
returns-in-Loader-clause-made g c = λ area headed.
    subst (λ (w : Wanted). IfOk c.loader_from.result (MakesWanted w area (g.D.Disk.content c.args.disk.now) (g.D.Disk.block_count c.args.disk.now) 0 (g.D.Disk.faults c.args.disk.now) (g.D.Disk.faults c.loader_from.new.disk)
    (g.R.Report.told c.args.report.now) (g.R.Report.told c.loader_from.new.report) c.args.asked.now.layout)) (sym c.in-Loader.is) (c.loader_from.ensures.made area headed)

pub returns-in-Saved-clause-made : goal.returns-in-Saved-clause-made
returns-in-Saved-clause-made g c = λ area headed.
    subst (λ (w : Wanted). IfOk c.machine_from.result (MakesWanted w area (g.D.Disk.content c.args.disk.now) (g.D.Disk.block_count c.args.disk.now) 0 (g.D.Disk.faults c.args.disk.now) (g.D.Disk.faults c.machine_from.new.disk)
    (g.R.Report.told c.args.report.now) (g.R.Report.told c.machine_from.new.report) c.args.asked.now.layout)) (sym c.in-Saved.is) (c.machine_from.ensures.made area headed)
