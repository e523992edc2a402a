use Rattle.std.proofs.Common.{◌≡◌, List}
use Rattle.image_differ.specs.Compares.{HasCompared, pairs_left}
use Rattle.image_differ.specs.Sides.{OnlyReads, side_view}
use Rattle.image_differ.specs.declared.difference.Difference.{Difference}
use Rattle.image_differ.proofs.comparison.Comparison.next.Given as goal

abbrev pub invariant-loop-next : goal.invariant-loop-next
invariant-loop-next g l = record {
  compared : (told : List Difference) × HasCompared (side_view g.D.Disk g.R.Report l.first) (side_view g.E.Disk g.Q.Report l.second) l.self told;
  still : (told : List Difference) → HasCompared (side_view g.D.Disk g.R.Report l.initial.first) (side_view g.E.Disk g.Q.Report l.initial.second) l.initial.self told → HasCompared (side_view g.D.Disk g.R.Report l.first) (side_view g.E.Disk g.Q.Report l.second) l.self told;
  first_untold : g.R.Report.told l.first.report ≡ g.R.Report.told l.initial.first.report;
  second_untold : g.Q.Report.told l.second.report ≡ g.Q.Report.told l.initial.second.report;
  parts : l.self.parts ≡ 10;
  first : OnlyReads (side_view g.D.Disk g.R.Report l.initial.first) (side_view g.D.Disk g.R.Report l.first);
  second : OnlyReads (side_view g.E.Disk g.Q.Report l.initial.second) (side_view g.E.Disk g.Q.Report l.second);
}

abbrev pub decreases-loop-next : goal.decreases-loop-next
decreases-loop-next g l = pairs_left l.self
