use Rattle.std.proofs.Common.{◌≡◌, ◌≤◌}
use Rattle.image_walk.specs.Walking.{names_left}
use Rattle.image_show.proofs.FrameSteps.{FramesSoFar}
use Rattle.image_show.proofs.frames.print_frames.Given as goal

abbrev pub invariant-loop-part : goal.invariant-loop-part
invariant-loop-part g l = record {
  so_far : FramesSoFar g.F.Form.style l.initial.reading.walker.limits l.initial.reading.walker.walk.next (g.D.Disk.content l.initial.disk) (g.D.Disk.faults l.initial.disk) (g.D.Disk.faults l.disk) l.format (g.F.Form.written l.initial.form) (g.F.Form.written l.form) l.reading l.runs.last l.left;
  blocks : g.D.Disk.block_count l.disk ≡ l.reading.walker.limits.blocks;
  content : g.D.Disk.content l.disk ≡ g.D.Disk.content l.initial.disk;
  orders : g.D.Disk.orders l.disk ≡ g.D.Disk.orders l.initial.disk;
  same_blocks : g.D.Disk.block_count l.disk ≡ g.D.Disk.block_count l.initial.disk;
  counted : g.F.Form.faults l.initial.form ≤ g.F.Form.faults l.form;
}

abbrev pub decreases-loop-part : goal.decreases-loop-part
decreases-loop-part g l = names_left l.reading.walker
