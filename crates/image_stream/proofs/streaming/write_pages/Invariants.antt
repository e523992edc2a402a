use Rattle.std.proofs.Common.{◌≡◌, ◌≤◌, ℕ, List, []}
use Rattle.page_core.specs.declared.format.Format.TheVariants.{Plain}
use Rattle.image_walk.specs.Walking.{names_left}
use Rattle.image_pages.specs.Stands.{Stands}
use Rattle.image_stream.proofs.Writing.{SoFar}
use Rattle.image_stream.proofs.streaming.write_pages.Given as goal

abbrev pub invariant-loop-out : goal.invariant-loop-out
invariant-loop-out g l = record {
  so_far : (header : ℕ) → Stands (g.D.Disk.content l.initial.disk) (g.D.Disk.block_count l.initial.disk) header l.initial.pages [] → SoFar (g.D.Disk.content l.disk) (g.D.Disk.block_count l.disk) header l.pages (g.S.Sink.taken l.initial.out) (g.S.Sink.taken l.out);
  stands : (header : ℕ) × ((given : List (List ℕ)) × Stands (g.D.Disk.content l.disk) (g.D.Disk.block_count l.disk) header l.pages given);
  plain : l.pages.format ≡ Plain;
  told : g.R.Report.told l.report ≡ g.R.Report.told l.initial.report;
  counted : g.S.Sink.faults l.initial.out ≤ g.S.Sink.faults l.out;
  content : g.D.Disk.content l.disk ≡ g.D.Disk.content l.initial.disk;
  faults : g.D.Disk.faults l.initial.disk ≤ g.D.Disk.faults l.disk;
  orders : g.D.Disk.orders l.disk ≡ g.D.Disk.orders l.initial.disk;
  blocks : g.D.Disk.block_count l.disk ≡ g.D.Disk.block_count l.initial.disk;
}

abbrev pub decreases-loop-out : goal.decreases-loop-out
decreases-loop-out g l = names_left l.pages.walker
