use Rattle.std.proofs.Common.{subst}
use Rattle.image_differ.specs.Compares.{Begins}
use Rattle.image_differ.specs.Sides.{side_view}
use Rattle.image_differ.proofs.Opening.{both_opened}
use Rattle.image_differ.proofs.comparison.Comparison.open.Goals as goal

pub returns-in-Open-2-clause-opened : goal.returns-in-Open-2-clause-opened
returns-in-Open-2-clause-opened g c =
    let a = side_view g.D.Disk g.R.Report c.args.first.now in
    let b = side_view g.E.Disk g.Q.Report c.args.second.now in
    let first = subst (Begins a (side_view g.D.Disk g.R.Report c.begin.new.side)) c.in-Open.is c.in_ok-begin.ensures.begins in
    let second = subst (Begins b (side_view g.E.Disk g.Q.Report c.begin-2.new.side)) c.in-Open-2.is c.in_ok-begin-2.ensures.begins in
    ((first.0, second.0), both_opened a b c.in-Open.heading c.in-Open-2.two c.in-Open.reading c.in-Open-2.second first.1 second.1 first.2 second.2)
