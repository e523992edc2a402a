use Rattle.std.proofs.Common.{Option, subst}
use Rattle.definitions.specs.Disk.{Content}
use Rattle.image_machine.specs.Begins.{Begins}
use Rattle.image_machine.specs.Headings.{HasNoArea}
use Rattle.image_machine.specs.Makes.{HasMachineLimit, IsMachineFrom}
use Rattle.image_machine.proofs.Making.{if_made_since}
use Rattle.image_machine.proofs.dump.saved_machine.machine_of.Goals as goal

pub returns-clause-made : goal.returns-clause-made
returns-clause-made g c =
    let content = g.D.Disk.content c.args.disk.now in
    let layout = c.args.layout.now in
    let tables = c.args.tables in
    let begins = subst (Begins (g.D.Disk.content c.args.disk.now) (g.D.Disk.block_count c.args.disk.now) c.args.layout.now.offset (g.D.Disk.faults c.args.disk.now) (g.D.Disk.faults c.begin.new.disk) (g.R.Report.told c.args.report.now) (g.R.Report.told c.begin.new.report)) c.in-Open.is c.in_ok-begin.ensures.begins in
    if_made_since (HasNoArea content layout.offset) (λ (x : Option Content). HasMachineLimit content x layout.offset layout tables) (λ (x : Option Content). IsMachineFrom content x layout.offset layout tables)
    (g.D.Disk.content c.begin.new.disk) content (g.D.Disk.block_count c.begin.new.disk) (g.D.Disk.block_count c.args.disk.now) layout.offset (g.D.Disk.faults c.args.disk.now) (g.D.Disk.faults c.begin.new.disk) (g.D.Disk.faults c.machine_from.new.disk) (g.R.Report.told c.args.report.now) (g.R.Report.told c.begin.new.report) (g.R.Report.told c.machine_from.new.report) c.machine_from.result
    c.begin.ensures.content c.begin.ensures.blocks begins.0 c.begin.ensures.faults (c.machine_from.ensures.made content begins.1)
