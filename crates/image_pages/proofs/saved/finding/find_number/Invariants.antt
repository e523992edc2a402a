use Rattle.std.proofs.Common.{◌≡◌, ◌≤◌, ◌*◌, ℕ, List}
use Rattle.image_pages.specs.Ahead.{HasInfo}
use Rattle.image_pages.proofs.Searching.{Searched}
use Rattle.image_pages.proofs.saved.finding.find_number.Given as goal

abbrev pub invariant-loop-k : goal.invariant-loop-k
invariant-loop-k g l = record {
  so_far : (header : ℕ) (info : List ℕ) → HasInfo (g.D.Disk.content l.initial.disk) (g.D.Disk.block_count l.initial.disk) header l.initial.pages l.fn.counts info → Searched (g.D.Disk.content l.disk) (g.D.Disk.block_count l.disk) header l.pages l.format info l.image_pages l.frame l.k l.earlier;
  few : l.earlier ≤ 512 * l.k;
  fits : l.earlier ≤ l.image_pages;
  format : l.pages.format ≡ l.initial.pages.format;
  told : g.R.Report.told l.report ≡ g.R.Report.told l.initial.report;
  content : g.D.Disk.content l.disk ≡ g.D.Disk.content l.initial.disk;
  faults : g.D.Disk.faults l.initial.disk ≤ g.D.Disk.faults l.disk;
  orders : g.D.Disk.orders l.disk ≡ g.D.Disk.orders l.initial.disk;
  blocks : g.D.Disk.block_count l.disk ≡ g.D.Disk.block_count l.initial.disk;
}
