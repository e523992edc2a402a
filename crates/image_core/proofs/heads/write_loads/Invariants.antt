use Rattle.std.proofs.Common.{◌≡◌, ◌≤◌, ℕ, []}
use Rattle.elf_core.specs.Elf.{page_offset}
use Rattle.image_pages.specs.Numbered.{HasNumbered}
use Rattle.image_core.proofs.Tallied.{Lists}
use Rattle.image_core.proofs.heads.write_loads.Given as goal

abbrev pub invariant-loop : goal.invariant-loop
invariant-loop g l = record {
  so_far : (header : ℕ) → HasNumbered (g.D.Disk.content l.initial.disk) (g.D.Disk.block_count l.initial.disk) header l.initial.numbers [] → Lists (g.D.Disk.content l.disk) (g.D.Disk.block_count l.disk) header l.numbers (page_offset l.tally.runs) l.loads l.counter (g.S.Sink.taken l.initial.out) (g.S.Sink.taken l.out);
  told : g.R.Report.told l.report ≡ g.R.Report.told l.initial.report;
  counted : g.S.Sink.faults l.initial.out ≤ g.S.Sink.faults l.out;
  content : g.D.Disk.content l.disk ≡ g.D.Disk.content l.initial.disk;
  faults : g.D.Disk.faults l.initial.disk ≤ g.D.Disk.faults l.disk;
  orders : g.D.Disk.orders l.disk ≡ g.D.Disk.orders l.initial.disk;
  blocks : g.D.Disk.block_count l.disk ≡ g.D.Disk.block_count l.initial.disk;
}
