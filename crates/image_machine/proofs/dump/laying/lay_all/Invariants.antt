use Rattle.std.proofs.Common.{◌≡◌, ◌≤◌, ◌-◌, ℕ, [], length}
use Rattle.image_pages.specs.Given.{HasGiven}
use Rattle.image_machine.proofs.Laid.{IsLaid}
use Rattle.image_machine.proofs.dump.laying.lay_all.Given as goal

abbrev pub invariant-loop-number : goal.invariant-loop-number
invariant-loop-number g l = record {
  laid : (header : ℕ) → HasGiven (g.D.Disk.content l.initial.disk) (g.D.Disk.block_count l.initial.disk) header l.initial.frames [] → IsLaid (g.D.Disk.content l.initial.disk) (g.D.Disk.block_count l.initial.disk) header l.filled l.frames;
  untold : g.R.Report.told l.report ≡ g.R.Report.told l.initial.report;
  heading : l.filled.plan.heading ≡ l.initial.filled.plan.heading;
  layout : l.filled.plan.layout ≡ l.initial.filled.plan.layout;
  zones : l.filled.plan.zones ≡ l.initial.filled.plan.zones;
  content : g.D.Disk.content l.disk ≡ g.D.Disk.content l.initial.disk;
  faults : g.D.Disk.faults l.initial.disk ≤ g.D.Disk.faults l.disk;
  orders : g.D.Disk.orders l.disk ≡ g.D.Disk.orders l.initial.disk;
  blocks : g.D.Disk.block_count l.disk ≡ g.D.Disk.block_count l.initial.disk;
}

abbrev pub decreases-loop-number : goal.decreases-loop-number
decreases-loop-number g l = 65536 - length l.filled.plan.saved.members
