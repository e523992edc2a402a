use Rattle.std.proofs.Common.{◌≡◌, ◌≤◌, ◌-◌, ℕ, [], length}
use Rattle.image_pages.specs.Numbered.{HasNumbered}
use Rattle.image_machine.specs.Plans.{IsPlan}
use Rattle.image_machine.proofs.dump.adding.add_all.Given as goal

abbrev pub invariant-loop-number : goal.invariant-loop-number
invariant-loop-number g l = record {
  plan : IsPlan l.plan;
  numbered : (header : ℕ) → HasNumbered (g.D.Disk.content l.initial.disk) (g.D.Disk.block_count l.initial.disk) header l.initial.numbers [] → HasNumbered (g.D.Disk.content l.initial.disk) (g.D.Disk.block_count l.initial.disk) header l.numbers l.plan.saved.members;
  untold : g.R.Report.told l.report ≡ g.R.Report.told l.initial.report;
  heading : l.plan.heading ≡ l.initial.plan.heading;
  layout : l.plan.layout ≡ l.initial.plan.layout;
  content : g.D.Disk.content l.disk ≡ g.D.Disk.content l.initial.disk;
  faults : g.D.Disk.faults l.initial.disk ≤ g.D.Disk.faults l.disk;
  orders : g.D.Disk.orders l.disk ≡ g.D.Disk.orders l.initial.disk;
  blocks : g.D.Disk.block_count l.disk ≡ g.D.Disk.block_count l.initial.disk;
}

abbrev pub decreases-loop-number : goal.decreases-loop-number
decreases-loop-number g l = 65536 - length l.plan.saved.members
