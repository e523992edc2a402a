use Rattle.std.proofs.Common.{◌≡◌, ◌≤◌, ℕ, List}
use Rattle.image_walk.specs.Walking.{names_left}
use Rattle.image_pages.specs.Stands.{Stands}
use Rattle.image_pages.proofs.pages.Pages.next.Given as goal

abbrev pub invariant-loop-next : goal.invariant-loop-next
invariant-loop-next g l = record {
  stands : (header : ℕ) × ((given : List (List ℕ)) × Stands (g.D.Disk.content l.disk) (g.D.Disk.block_count l.disk) header l.self given);
  still : (header : ℕ) (given : List (List ℕ)) → Stands (g.D.Disk.content l.initial.disk) (g.D.Disk.block_count l.initial.disk) header l.initial.self given → Stands (g.D.Disk.content l.disk) (g.D.Disk.block_count l.disk) header l.self given;
  told : g.R.Report.told l.report ≡ g.R.Report.told l.initial.report;
  fewer : names_left l.self.walker ≤ names_left l.initial.self.walker;
  format : l.self.format ≡ l.initial.self.format;
  content : g.D.Disk.content l.disk ≡ g.D.Disk.content l.initial.disk;
  faults : g.D.Disk.faults l.initial.disk ≤ g.D.Disk.faults l.disk;
  orders : g.D.Disk.orders l.disk ≡ g.D.Disk.orders l.initial.disk;
  blocks : g.D.Disk.block_count l.disk ≡ g.D.Disk.block_count l.initial.disk;
}

abbrev pub decreases-loop-next : goal.decreases-loop-next
decreases-loop-next g l = names_left l.self.walker
