use Rattle.std.proofs.Common.{◌≡◌, ◌≤◌, ℕ, []}
use Rattle.image_pages.specs.Given.{HasGiven}
use Rattle.image_core.proofs.Paging.{Writes}
use Rattle.image_core.proofs.pages.write_pages.Given as goal

abbrev pub invariant-loop : goal.invariant-loop
invariant-loop g l = record {
  so_far : (header : ℕ) → HasGiven (g.D.Disk.content l.initial.disk) (g.D.Disk.block_count l.initial.disk) header l.initial.frames [] → Writes (g.D.Disk.content l.disk) (g.D.Disk.block_count l.disk) header l.frames l.counter (g.S.Sink.taken l.initial.out) (g.S.Sink.taken l.out);
  told : g.R.Report.told l.report ≡ g.R.Report.told l.initial.report;
  counted : g.S.Sink.faults l.initial.out ≤ g.S.Sink.faults l.out;
  content : g.D.Disk.content l.disk ≡ g.D.Disk.content l.initial.disk;
  faults : g.D.Disk.faults l.initial.disk ≤ g.D.Disk.faults l.disk;
  orders : g.D.Disk.orders l.disk ≡ g.D.Disk.orders l.initial.disk;
  blocks : g.D.Disk.block_count l.disk ≡ g.D.Disk.block_count l.initial.disk;
}
