use Rattle.std.proofs.Common.{◌≡◌, ◌+◌, ◌*◌, ◌++◌, take, IfSome}
use Rattle.definitions.specs.Disk.{as_it_reads}
use Rattle.expanded_disk.specs.Chains.{IsSameChain, StandsAt}
use Rattle.expanded_disk.specs.Names.{chain_of}
use Rattle.expanded_disk.specs.Units.{bytes_from}
use Rattle.expanded_disk.proofs.units.units.fill.Given as goal

abbrev pub invariant-loop-i : goal.invariant-loop-i
invariant-loop-i g l = record {
  stands : StandsAt g.K.Original.state.content l.chain;
  same : IsSameChain l.initial.chain l.chain;
  count : l.chain.count ≡ l.initial.chain.count + l.i;
  filled : IfSome g.K.Original.state.content (λ held. take (4096 * (l.i + 1)) l.unit.packed.items ≡ take 4096 l.initial.unit.packed.items ++ bytes_from (chain_of (as_it_reads held) l.initial.chain.first) l.initial.chain.count l.i);
}
