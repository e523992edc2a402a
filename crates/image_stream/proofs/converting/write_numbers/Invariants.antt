use Rattle.std.proofs.Common.{◌≡◌, ◌≤◌, ℕ, List}
use Rattle.image_stream.specs.Converted.{HasLists, IsAtLists}
use Rattle.image_stream.proofs.converting.write_numbers.Given as goal

abbrev pub invariant-loop-k : goal.invariant-loop-k
invariant-loop-k g l = record {
  so_far : (header : ℕ) (info : List ℕ) → IsAtLists (g.D.Disk.content l.initial.disk) (g.D.Disk.block_count l.initial.disk) header l.initial.pages info l.count → HasLists (g.D.Disk.content l.disk) (g.D.Disk.block_count l.disk) header l.pages info l.count l.k (g.S.Sink.taken l.initial.out) (g.S.Sink.taken l.out);
  format : l.pages.format ≡ l.initial.pages.format;
  told : g.R.Report.told l.report ≡ g.R.Report.told l.initial.report;
  counted : g.S.Sink.faults l.initial.out ≤ g.S.Sink.faults l.out;
  content : g.D.Disk.content l.disk ≡ g.D.Disk.content l.initial.disk;
  faults : g.D.Disk.faults l.initial.disk ≤ g.D.Disk.faults l.disk;
  orders : g.D.Disk.orders l.disk ≡ g.D.Disk.orders l.initial.disk;
  blocks : g.D.Disk.block_count l.disk ≡ g.D.Disk.block_count l.initial.disk;
}
