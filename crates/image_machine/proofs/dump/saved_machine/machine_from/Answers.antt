use Rattle.std.proofs.Common.{IfOk, refl, sym, subst}
use Rattle.image_machine.specs.Limits.{StopsAtOnce}
use Rattle.image_machine.specs.declared.heading.Heading.{Heading}
use Rattle.image_machine.specs.declared.heading.Layout.{Layout}
use Rattle.image_machine.specs.Headings.{IsHeadingOf}
use Rattle.image_machine.specs.Makes.{MakesMachineFrom, passed_at_once}
use Rattle.image_machine.proofs.dump.saved_machine.machine_from.Goals as goal

pub returns-in-Ok-clause-made : goal.returns-in-Ok-clause-made
returns-in-Ok-clause-made g c = λ area headed.
    let plan = c.in-Ok.filled.plan in
    let same = c.in-Ok.ensures.layout in
    let there = subst (λ (l : Layout). IsHeadingOf area l.offset plan.heading) (sym same)
    (subst (λ (h : Heading). IsHeadingOf area c.args.asked.now.layout.offset h) (sym c.in-Ok.ensures.heading) headed) in
    subst (λ (l : Layout). IfOk c.fill.result (MakesMachineFrom area (g.D.Disk.content c.args.disk.now) (g.D.Disk.block_count c.args.disk.now) c.args.header (g.D.Disk.faults c.args.disk.now) (g.D.Disk.faults c.fill.new.disk) (g.R.Report.told c.args.report.now) (g.R.Report.told c.fill.new.report) l c.args.tables)) same
    (c.fill.ensures.made area there)

pub returns-in-Err-Limit-clause-made : goal.returns-in-Err-Limit-clause-made
returns-in-Err-Limit-clause-made g c = λ area headed.
    let asked = c.args.asked.now in
    (refl, passed_at_once asked.heading headed (rw c.in-Err-Limit.field-0-is (subst (StopsAtOnce asked.heading asked.layout) c.in-Err-Limit.field-0-is c.in-Err-Limit.ensures.stopped)))
