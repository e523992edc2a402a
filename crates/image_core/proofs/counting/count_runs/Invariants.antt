use Rattle.std.proofs.Common.{◌≡◌, ◌≤◌, ℕ, []}
use Rattle.image_pages.specs.Numbered.{HasNumbered}
use Rattle.image_core.proofs.Numbering.{Counts}
use Rattle.image_core.proofs.counting.count_runs.Given as goal

abbrev pub invariant-loop : goal.invariant-loop
invariant-loop g l = record {
  so_far : (header : ℕ) → HasNumbered (g.D.Disk.content l.initial.disk) (g.D.Disk.block_count l.initial.disk) header l.initial.numbers [] → Counts (g.D.Disk.content l.disk) (g.D.Disk.block_count l.disk) header l.numbers l.runs l.counter;
  info : l.numbers.info ≡ l.initial.numbers.info;
  told : g.R.Report.told l.report ≡ g.R.Report.told l.initial.report;
  content : g.D.Disk.content l.disk ≡ g.D.Disk.content l.initial.disk;
  faults : g.D.Disk.faults l.initial.disk ≤ g.D.Disk.faults l.disk;
  orders : g.D.Disk.orders l.disk ≡ g.D.Disk.orders l.initial.disk;
  blocks : g.D.Disk.block_count l.disk ≡ g.D.Disk.block_count l.initial.disk;
}
