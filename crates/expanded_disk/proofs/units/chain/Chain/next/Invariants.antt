use Rattle.std.proofs.Common.{◌≡◌}
use Rattle.image_walk.specs.Walking.{names_left}
use Rattle.expanded_disk.specs.Chains.{IsSameChain, StandsAt}
use Rattle.expanded_disk.proofs.units.chain.Chain.next.Given as goal

abbrev pub invariant-loop-read : goal.invariant-loop-read
invariant-loop-read g l = record {
  stands : StandsAt g.K.Original.state.content l.self;
  same : IsSameChain l.initial.self l.self;
  count : l.self.count ≡ l.initial.self.count;
}

abbrev pub decreases-loop-read : goal.decreases-loop-read
decreases-loop-read g l = names_left l.self.walker
