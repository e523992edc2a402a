use Rattle.std.proofs.Common.{◌≡◌, ◌≤◌, ◌-◌, true}
use Rattle.image_differ.specs.Sides.{OnlyReads, side_view}
use Rattle.image_cli.proofs.Telling.{SoFar}
use Rattle.image_cli.proofs.differing.tell_differences.Given as goal

abbrev pub invariant-loop-difference : goal.invariant-loop-difference
invariant-loop-difference g l = record {
  so_far : SoFar (side_view g.D.Disk g.R.Report l.first) (side_view g.E.Disk g.Q.Report l.second) l.comparison (g.O.Sink.taken l.initial.out) (g.O.Sink.taken l.out) l.count;
  one : l.first_only ≡ true → l.count ≡ 0;
  first_untold : g.R.Report.told l.first.report ≡ g.R.Report.told l.initial.first.report;
  second_untold : g.Q.Report.told l.second.report ≡ g.Q.Report.told l.initial.second.report;
  counted : g.O.Sink.faults l.initial.out ≤ g.O.Sink.faults l.out;
  first : OnlyReads (side_view g.D.Disk g.R.Report l.initial.first) (side_view g.D.Disk g.R.Report l.first);
  second : OnlyReads (side_view g.E.Disk g.Q.Report l.initial.second) (side_view g.E.Disk g.Q.Report l.second);
}

abbrev pub decreases-loop-difference : goal.decreases-loop-difference
decreases-loop-difference g l = 4503599627370507 - l.count
