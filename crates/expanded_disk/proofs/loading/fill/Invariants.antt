use Rattle.std.proofs.Common.{◌≡◌, ◌+◌, ◌*◌, ◌≤◌, ◌++◌, take, IfSome}
use Rattle.definitions.specs.Disk.{as_it_reads}
use Rattle.expanded_disk.specs.Names.{chain_of}
use Rattle.expanded_disk.specs.Units.{bytes_from}
use Rattle.expanded_disk.proofs.loading.fill.Given as goal

abbrev pub invariant-loop-i : goal.invariant-loop-i
invariant-loop-i g l = record {
  faults : (g.B.ReadOnly.state l.initial.source.below).faults ≤ (g.B.ReadOnly.state l.source.below).faults;
  filled : IfSome g.K.Original.state.content (λ held. take (4096 * (l.i + 1)) l.unit.packed.items ≡ take 4096 l.initial.unit.packed.items ++ bytes_from (chain_of (as_it_reads held) l.index.first) l.from l.i);
}
