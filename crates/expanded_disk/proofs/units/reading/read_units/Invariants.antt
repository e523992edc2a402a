use Rattle.std.proofs.Common.{◌≡◌, length, IfSome}
use Rattle.definitions.specs.Disk.{as_it_reads}
use Rattle.expanded_disk.specs.Chains.{IsSameChain, StandsAt}
use Rattle.expanded_disk.specs.Faults.{AreWhole, StandsBefore}
use Rattle.expanded_disk.proofs.units.reading.read_units.Given as goal

abbrev pub invariant-loop-number : goal.invariant-loop-number
invariant-loop-number g l = record {
  stands : StandsAt g.K.Original.state.content l.chain;
  same : IsSameChain l.initial.chain l.chain;
  count : length l.starts.items ≡ l.number;
  before : StandsBefore g.K.Original.state.content l.number l.chain;
  whole : IfSome g.K.Original.state.content (λ held. AreWhole (as_it_reads held) l.initial.chain.first l.pages l.number l.starts.items l.crc);
}
