use Rattle.std.proofs.Common.{◌∙◌, [], subst}
use Rattle.image_pages.specs.OpensFrames.{Opens}
use Rattle.image_pages.specs.declared.frames.frames.Frames.{Frames}
use Rattle.image_pages.specs.declared.opened.Opened.{Opened}
use Rattle.image_differ.specs.Sides.{side_view}
use Rattle.image_differ.proofs.Sides.{as_before, given_since}
use Rattle.image_differ.proofs.begun.begin.Goals as goal

pub returns-in-Open-clause-begins : goal.returns-in-Open-clause-begins
returns-in-Open-clause-begins g c =
    let old = side_view g.D.Disk g.R.Report c.args.side.now in
    let marked = side_view g.D.Disk g.R.Report c.mark_of.new.side in
    let new = side_view g.D.Disk g.R.Report (record { disk = c.open.new.disk; report = c.open.new.report; header = c.mark_of.new.side.header }) in
    let marks = c.in-Mark.ensures.marks in
    let opens = subst (λ (x : Opened Frames). Opens marked.content marked.blocks marked.header marked.faults new.faults marked.told new.told x) c.in-Open.is c.in_ok-open.ensures.opened in
    c.opened.ensures old new (opens.0 ∙ marks.0) marks.1
    (given_since marked old c.in-Open.frames [] (as_before old marked c.in-Mark.ensures.kept) opens.1)
