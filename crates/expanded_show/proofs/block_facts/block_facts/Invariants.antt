use Rattle.std.proofs.Common.{◌≡◌, ◌*◌, ◌≤◌}
use Rattle.image_show.specs.Runs.{count_of}
use Rattle.expanded_show.proofs.Blocks.{GatheredMaps}
use Rattle.expanded_show.proofs.block_facts.block_facts.Given as goal

abbrev pub invariant-loop-number : goal.invariant-loop-number
invariant-loop-number g l = record {
  gathered : GatheredMaps (g.D.Disk.content l.fn.disk) l.index l.number l.gathered;
  count : count_of l.gathered.runs.last ≤ 512 * l.number;
  content : g.D.Disk.content l.disk ≡ g.D.Disk.content l.fn.disk;
  orders : g.D.Disk.orders l.disk ≡ g.D.Disk.orders l.fn.disk;
  blocks : g.D.Disk.block_count l.disk ≡ g.D.Disk.block_count l.fn.disk;
  faults : g.D.Disk.faults l.fn.disk ≤ g.D.Disk.faults l.disk;
}
