use Rattle.std.proofs.Common.{◌≤◌, ◌-◌, length}
use Rattle.definitions.specs.Streams.{HandsOut}
use Rattle.byte_streams.proofs.filling.fill.Given as goal

abbrev pub invariant-loop-at : goal.invariant-loop-at
invariant-loop-at g l = record {
  within : l.at ≤ length l.piece;
  so_far : HandsOut l.at l.piece (g.S.Source.remaining l.fn.source) (g.S.Source.remaining l.source);
  counted : g.S.Source.faults l.fn.source ≤ g.S.Source.faults l.source;
}

abbrev pub decreases-loop-at : goal.decreases-loop-at
decreases-loop-at g l = length l.piece - l.at
