use Rattle.std.proofs.Common.{◌≡◌, ◌≤◌, ◌+◌, ℕ, List, ◌∷◌, length}
use Rattle.image_check.specs.Info.{counts_in}
use Rattle.image_pages.specs.Stands.{Stands}
use Rattle.image_pages.specs.Ahead.{HasRead}
use Rattle.image_pages.proofs.saved.finding.read_ahead.Given as goal

abbrev pub invariant-loop : goal.invariant-loop
invariant-loop g l = record {
  so_far : (header : ℕ) (info : List ℕ) (rest : List (List ℕ)) → Stands (g.D.Disk.content l.initial.disk) (g.D.Disk.block_count l.initial.disk) header l.initial.pages (info ∷ rest) → length (info ∷ rest) + l.count ≤ (counts_in info).pages → HasRead (g.D.Disk.content l.disk) (g.D.Disk.block_count l.disk) header (info ∷ rest) l.pages l.into l.counter;
  format : l.pages.format ≡ l.initial.pages.format;
  told : g.R.Report.told l.report ≡ g.R.Report.told l.initial.report;
  content : g.D.Disk.content l.disk ≡ g.D.Disk.content l.initial.disk;
  faults : g.D.Disk.faults l.initial.disk ≤ g.D.Disk.faults l.disk;
  orders : g.D.Disk.orders l.disk ≡ g.D.Disk.orders l.initial.disk;
  blocks : g.D.Disk.block_count l.disk ≡ g.D.Disk.block_count l.initial.disk;
}
