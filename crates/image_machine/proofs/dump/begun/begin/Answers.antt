use Rattle.std.proofs.Common.{[], subst, ◌∙◌}
use Rattle.image_pages.specs.OpensFrames.{OpensNumbers}
use Rattle.image_machine.proofs.Since.{numbered_since}
use Rattle.image_machine.proofs.dump.begun.begin.Goals as goal

pub returns-in-Open-clause-begins : goal.returns-in-Open-clause-begins
returns-in-Open-clause-begins g c =
    let content = g.D.Disk.content c.args.disk.now in
    let blocks = g.D.Disk.block_count c.args.disk.now in
    let between = c.marked_block.new.disk in
    let opens = subst (OpensNumbers (g.D.Disk.content between) (g.D.Disk.block_count between) c.args.header (g.D.Disk.faults between) (g.D.Disk.faults c.open.new.disk) (g.R.Report.told c.marked_block.new.report) (g.R.Report.told c.open.new.report)) c.in-Open.is c.in_ok-open.ensures.opened in
    let marks = c.in-Block.ensures.marks in
    let numbered = numbered_since (g.D.Disk.content between) content (g.D.Disk.block_count between) blocks c.args.header c.in-Open.numbers [] c.marked_block.ensures.content c.marked_block.ensures.blocks opens.1 in
    c.opened.ensures content blocks c.args.header (g.D.Disk.faults c.args.disk.now) (g.D.Disk.faults c.open.new.disk) (g.R.Report.told c.args.report.now) (g.R.Report.told c.open.new.report) (opens.0 ∙ marks.0) marks.1 numbered
