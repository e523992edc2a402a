use Rattle.std.proofs.Common.{Option, [], inr, sym, subst, ◌∙◌}
use Rattle.definitions.specs.Disk.{Content}
use Rattle.image_pages.specs.OpensFrames.{Opens}
use Rattle.image_pages.specs.SavedFrames.{AreAllSaved}
use Rattle.image_pages.proofs.SinceSaved.{refused_since}
use Rattle.image_machine.specs.Lays.{LiesOutside, pages_of}
use Rattle.image_machine.proofs.Making.{machine_at_last, machine_made, machine_outside}
use Rattle.image_machine.proofs.Since.{given_since}
use Rattle.image_machine.proofs.dump.saved_machine.fill.Goals as goal

pub lay_all-requires-clause-given : goal.lay_all-requires-clause-given
lay_all-requires-clause-given g c =
    let content = g.D.Disk.content c.args.disk.now in
    let blocks = g.D.Disk.block_count c.args.disk.now in
    let header = c.args.header in
    let opens = subst (Opens content blocks header (g.D.Disk.faults c.args.disk.now) (g.D.Disk.faults c.open.new.disk) (g.R.Report.told c.args.report.now) (g.R.Report.told c.open.new.report)) c.in-Open.is c.in_ok-open.ensures.opened in
    (header, given_since content (g.D.Disk.content c.open.new.disk) blocks (g.D.Disk.block_count c.open.new.disk) header c.in-Open.frames [] (sym c.open.ensures.content) (sym c.open.ensures.blocks) opens.1)

pub machine-requires : goal.machine-requires
machine-requires g c =
    let content = g.D.Disk.content c.args.disk.now in
    let blocks = g.D.Disk.block_count c.args.disk.now in
    let header = c.args.header in
    let opens = subst (Opens content blocks header (g.D.Disk.faults c.args.disk.now) (g.D.Disk.faults c.open.new.disk) (g.R.Report.told c.args.report.now) (g.R.Report.told c.open.new.report)) c.in-Open.is c.in_ok-open.ensures.opened in
    let given = given_since content (g.D.Disk.content c.open.new.disk) blocks (g.D.Disk.block_count c.open.new.disk) header c.in-Open.frames [] (sym c.open.ensures.content) (sym c.open.ensures.blocks) opens.1 in
    let lays = c.in-All.ensures.lays header given in
    (pages_of lays.1.saved, lays.1.has)

pub returns-in-Refused-lay_all-clause-made : goal.returns-in-Refused-lay_all-clause-made
returns-in-Refused-lay_all-clause-made g c = λ area headed.
    let content = g.D.Disk.content c.args.disk.now in
    let blocks = g.D.Disk.block_count c.args.disk.now in
    let header = c.args.header in
    let opens = subst (Opens content blocks header (g.D.Disk.faults c.args.disk.now) (g.D.Disk.faults c.open.new.disk) (g.R.Report.told c.args.report.now) (g.R.Report.told c.open.new.report)) c.in-Open.is c.in_ok-open.ensures.opened in
    let given = given_since content (g.D.Disk.content c.open.new.disk) blocks (g.D.Disk.block_count c.open.new.disk) header c.in-Open.frames [] (sym c.open.ensures.content) (sym c.open.ensures.blocks) opens.1 in
    let lays = c.in-Refused-lay_all.ensures.lays header given in
    inr (lays.0, refused_since (g.D.Disk.content c.open.new.disk) content (g.D.Disk.block_count c.open.new.disk) blocks header (g.D.Disk.faults c.args.disk.now) (g.D.Disk.faults c.open.new.disk) (g.D.Disk.faults c.lay_all.new.disk) (g.R.Report.told c.args.report.now) (g.R.Report.told c.open.new.report) (g.R.Report.told c.lay_all.new.report) lays.0 c.open.ensures.content c.open.ensures.blocks opens.0 c.open.ensures.faults lays.1)

pub returns-in-Limit-clause-made : goal.returns-in-Limit-clause-made
returns-in-Limit-clause-made g c = λ area headed.
    let content = g.D.Disk.content c.args.disk.now in
    let blocks = g.D.Disk.block_count c.args.disk.now in
    let header = c.args.header in
    let opens = subst (Opens content blocks header (g.D.Disk.faults c.args.disk.now) (g.D.Disk.faults c.open.new.disk) (g.R.Report.told c.args.report.now) (g.R.Report.told c.open.new.report)) c.in-Open.is c.in_ok-open.ensures.opened in
    let given = given_since content (g.D.Disk.content c.open.new.disk) blocks (g.D.Disk.block_count c.open.new.disk) header c.in-Open.frames [] (sym c.open.ensures.content) (sym c.open.ensures.blocks) opens.1 in
    let plan = c.args.filled.plan in
    let lays = c.in-Limit.ensures.lays header given in
    let out = subst (λ (x : Option Content). LiesOutside x header c.lay_all.new.filled c.in-Limit.limit) c.open.ensures.content lays.1 in
    (lays.0 ∙ opens.0, machine_outside area content header plan.heading plan.layout c.args.tables c.lay_all.new.filled c.in-Limit.limit (c.lay_all.ensures.zones ∙ c.requires.filled.plan.zones) headed out)

pub returns-in-Ok-clause-made : goal.returns-in-Ok-clause-made
returns-in-Ok-clause-made g c = λ area headed.
    let content = g.D.Disk.content c.args.disk.now in
    let blocks = g.D.Disk.block_count c.args.disk.now in
    let header = c.args.header in
    let opens = subst (Opens content blocks header (g.D.Disk.faults c.args.disk.now) (g.D.Disk.faults c.open.new.disk) (g.R.Report.told c.args.report.now) (g.R.Report.told c.open.new.report)) c.in-Open.is c.in_ok-open.ensures.opened in
    let given = given_since content (g.D.Disk.content c.open.new.disk) blocks (g.D.Disk.block_count c.open.new.disk) header c.in-Open.frames [] (sym c.open.ensures.content) (sym c.open.ensures.blocks) opens.1 in
    let plan = c.args.filled.plan in
    let lays = c.in-All.ensures.lays header given in
    let saved = lays.1.saved in
    let all = subst (λ (x : Option Content). AreAllSaved x header saved) c.open.ensures.content lays.1.all in
    (lays.0 ∙ opens.0, machine_made area content header plan.heading plan.layout c.args.tables c.lay_all.new.filled c.in-Ok.dump c.lay_all.ensures.heading c.lay_all.ensures.layout headed saved all (c.in-Ok.ensures.machine (pages_of saved) lays.1.has))

pub returns-clause-made : goal.returns-clause-made
returns-clause-made g c = λ area headed.
    let content = g.D.Disk.content c.args.disk.now in
    let blocks = g.D.Disk.block_count c.args.disk.now in
    let header = c.args.header in
    let opens = subst (Opens content blocks header (g.D.Disk.faults c.args.disk.now) (g.D.Disk.faults c.open.new.disk) (g.R.Report.told c.args.report.now) (g.R.Report.told c.open.new.report)) c.in-Open.is c.in_ok-open.ensures.opened in
    let given = given_since content (g.D.Disk.content c.open.new.disk) blocks (g.D.Disk.block_count c.open.new.disk) header c.in-Open.frames [] (sym c.open.ensures.content) (sym c.open.ensures.blocks) opens.1 in
    let plan = c.args.filled.plan in
    let lays = c.in-All.ensures.lays header given in
    let saved = lays.1.saved in
    let all = subst (λ (x : Option Content). AreAllSaved x header saved) c.open.ensures.content lays.1.all in
    (lays.0 ∙ opens.0, machine_at_last area content header plan.heading plan.layout c.args.tables c.lay_all.new.filled c.in-Err.limit c.lay_all.ensures.heading c.lay_all.ensures.layout headed saved all (c.in-Err.ensures.passed (pages_of saved) lays.1.has))
