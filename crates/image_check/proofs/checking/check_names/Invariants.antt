use Rattle.std.proofs.Common.{◌≡◌}
use Rattle.image_walk.specs.Walking.{names_left}
use Rattle.image_check.proofs.SoFar.{SoFar}
use Rattle.image_check.proofs.checking.check_names.Given as goal

abbrev pub invariant-loop-visit : goal.invariant-loop-visit
invariant-loop-visit g l = record {
  so_far : SoFar l.initial.walker.limits l.initial.walker.walk.next (g.D.Disk.content l.initial.disk) (g.D.Disk.faults l.initial.disk) (g.D.Disk.faults l.disk) l.format (g.R.Report.told l.initial.report) (g.R.Report.told l.report) l.walker l.progress;
  blocks : g.D.Disk.block_count l.disk ≡ l.walker.limits.blocks;
  content : g.D.Disk.content l.disk ≡ g.D.Disk.content l.initial.disk;
  orders : g.D.Disk.orders l.disk ≡ g.D.Disk.orders l.initial.disk;
  same_blocks : g.D.Disk.block_count l.disk ≡ g.D.Disk.block_count l.initial.disk;
}

abbrev pub decreases-loop-visit : goal.decreases-loop-visit
decreases-loop-visit g l = names_left l.walker
