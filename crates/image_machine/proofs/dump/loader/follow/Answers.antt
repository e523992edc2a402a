use Rattle.std.proofs.Common.{Option, [], inr, sym, subst, ◌∙◌}
use Rattle.definitions.specs.Disk.{Content}
use Rattle.image_pages.specs.OpensFrames.{OpensNumbers}
use Rattle.image_pages.specs.SavedNumbers.{AreAllNumbers}
use Rattle.image_machine.specs.Limits.{StopsAtLast}
use Rattle.image_pages.proofs.SinceSaved.{refused_since}
use Rattle.image_machine.specs.Adds.{IsOutside}
use Rattle.image_machine.proofs.Making.{limit_at_last, limit_outside, loader_made}
use Rattle.image_machine.proofs.Since.{numbered_since}
use Rattle.image_machine.proofs.dump.loader.follow.Goals as goal

pub add_all-requires-clause-numbered : goal.add_all-requires-clause-numbered
add_all-requires-clause-numbered g c =
    let content = g.D.Disk.content c.args.disk.now in
    let blocks = g.D.Disk.block_count c.args.disk.now in
    let header = c.args.header in
    let opens = subst (OpensNumbers content blocks header (g.D.Disk.faults c.args.disk.now) (g.D.Disk.faults c.open.new.disk) (g.R.Report.told c.args.report.now) (g.R.Report.told c.open.new.report)) c.in-Open.is c.in_ok-open.ensures.opened in
    let numbered = numbered_since content (g.D.Disk.content c.open.new.disk) blocks (g.D.Disk.block_count c.open.new.disk) header c.in-Open.numbers [] (sym c.open.ensures.content) (sym c.open.ensures.blocks) opens.1 in
    (header, numbered)

pub returns-in-Refused-add_all-clause-made : goal.returns-in-Refused-add_all-clause-made
returns-in-Refused-add_all-clause-made g c = λ area headed.
    let content = g.D.Disk.content c.args.disk.now in
    let blocks = g.D.Disk.block_count c.args.disk.now in
    let header = c.args.header in
    let opens = subst (OpensNumbers content blocks header (g.D.Disk.faults c.args.disk.now) (g.D.Disk.faults c.open.new.disk) (g.R.Report.told c.args.report.now) (g.R.Report.told c.open.new.report)) c.in-Open.is c.in_ok-open.ensures.opened in
    let numbered = numbered_since content (g.D.Disk.content c.open.new.disk) blocks (g.D.Disk.block_count c.open.new.disk) header c.in-Open.numbers [] (sym c.open.ensures.content) (sym c.open.ensures.blocks) opens.1 in
    let adds = c.in-Refused-add_all.ensures.adds header numbered in
    inr (adds.0, refused_since (g.D.Disk.content c.open.new.disk) content (g.D.Disk.block_count c.open.new.disk) blocks header (g.D.Disk.faults c.args.disk.now) (g.D.Disk.faults c.open.new.disk) (g.D.Disk.faults c.add_all.new.disk) (g.R.Report.told c.args.report.now) (g.R.Report.told c.open.new.report) (g.R.Report.told c.add_all.new.report) adds.0 c.open.ensures.content c.open.ensures.blocks opens.0 c.open.ensures.faults adds.1)

pub returns-in-Limit-clause-made : goal.returns-in-Limit-clause-made
returns-in-Limit-clause-made g c = λ area headed.
    let content = g.D.Disk.content c.args.disk.now in
    let blocks = g.D.Disk.block_count c.args.disk.now in
    let header = c.args.header in
    let opens = subst (OpensNumbers content blocks header (g.D.Disk.faults c.args.disk.now) (g.D.Disk.faults c.open.new.disk) (g.R.Report.told c.args.report.now) (g.R.Report.told c.open.new.report)) c.in-Open.is c.in_ok-open.ensures.opened in
    let numbered = numbered_since content (g.D.Disk.content c.open.new.disk) blocks (g.D.Disk.block_count c.open.new.disk) header c.in-Open.numbers [] (sym c.open.ensures.content) (sym c.open.ensures.blocks) opens.1 in
    let plan = c.args.plan in
    let adds = c.in-Limit.ensures.adds header numbered in
    let out = subst (λ (x : Option Content). IsOutside x header c.add_all.new.plan c.in-Limit.limit) c.open.ensures.content adds.1 in
    (adds.0 ∙ opens.0, limit_outside area content header plan.heading plan.layout c.add_all.new.plan c.in-Limit.limit c.add_all.ensures.plan c.add_all.ensures.heading c.add_all.ensures.layout headed out)

pub returns-in-Ok-clause-made : goal.returns-in-Ok-clause-made
returns-in-Ok-clause-made g c = λ area headed.
    let content = g.D.Disk.content c.args.disk.now in
    let blocks = g.D.Disk.block_count c.args.disk.now in
    let header = c.args.header in
    let opens = subst (OpensNumbers content blocks header (g.D.Disk.faults c.args.disk.now) (g.D.Disk.faults c.open.new.disk) (g.R.Report.told c.args.report.now) (g.R.Report.told c.open.new.report)) c.in-Open.is c.in_ok-open.ensures.opened in
    let numbered = numbered_since content (g.D.Disk.content c.open.new.disk) blocks (g.D.Disk.block_count c.open.new.disk) header c.in-Open.numbers [] (sym c.open.ensures.content) (sym c.open.ensures.blocks) opens.1 in
    let plan = c.args.plan in
    let new = c.add_all.new.plan in
    let adds = c.in-All.ensures.adds header numbered in
    let all = subst (λ (x : Option Content). AreAllNumbers x header new.saved.members) c.open.ensures.content adds.1 in
    (adds.0 ∙ opens.0, loader_made area content header plan.heading plan.layout new c.in-Ok.dump c.add_all.ensures.heading c.add_all.ensures.layout headed all c.in-Ok.ensures.loader)

pub returns-in-Err-Limit-clause-made : goal.returns-in-Err-Limit-clause-made
returns-in-Err-Limit-clause-made g c = λ area headed.
    let content = g.D.Disk.content c.args.disk.now in
    let blocks = g.D.Disk.block_count c.args.disk.now in
    let header = c.args.header in
    let opens = subst (OpensNumbers content blocks header (g.D.Disk.faults c.args.disk.now) (g.D.Disk.faults c.open.new.disk) (g.R.Report.told c.args.report.now) (g.R.Report.told c.open.new.report)) c.in-Open.is c.in_ok-open.ensures.opened in
    let numbered = numbered_since content (g.D.Disk.content c.open.new.disk) blocks (g.D.Disk.block_count c.open.new.disk) header c.in-Open.numbers [] (sym c.open.ensures.content) (sym c.open.ensures.blocks) opens.1 in
    let plan = c.args.plan in
    let new = c.add_all.new.plan in
    let adds = c.in-All.ensures.adds header numbered in
    let all = subst (λ (x : Option Content). AreAllNumbers x header new.saved.members) c.open.ensures.content adds.1 in (
      adds.0 ∙ opens.0,
      limit_at_last area content header plan.heading plan.layout new c.in-Err-Limit.limit c.add_all.ensures.heading c.add_all.ensures.layout headed all
          (subst (StopsAtLast new.heading new.layout new.saved.members) c.in-Err-Limit.field-0-is c.in-Err-Limit.ensures.stopped),
    )

pub returns-clause-untold : goal.returns-clause-untold
returns-clause-untold g c =
    let content = g.D.Disk.content c.args.disk.now in
    let blocks = g.D.Disk.block_count c.args.disk.now in
    let header = c.args.header in
    let opens = subst (OpensNumbers content blocks header (g.D.Disk.faults c.args.disk.now) (g.D.Disk.faults c.open.new.disk) (g.R.Report.told c.args.report.now) (g.R.Report.told c.open.new.report)) c.in-Open.is c.in_ok-open.ensures.opened in
    let numbered = numbered_since content (g.D.Disk.content c.open.new.disk) blocks (g.D.Disk.block_count c.open.new.disk) header c.in-Open.numbers [] (sym c.open.ensures.content) (sym c.open.ensures.blocks) opens.1 in
    (c.in-All.ensures.adds header numbered).0 ∙ opens.0
