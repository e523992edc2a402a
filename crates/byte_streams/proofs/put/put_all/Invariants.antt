use Rattle.std.proofs.Common.{length, ◌-◌, ◌≤◌}
use Rattle.definitions.specs.Streams.{Takes}
use Rattle.byte_streams.proofs.put.put_all.Given as goal

abbrev pub invariant-loop-at : goal.invariant-loop-at
invariant-loop-at g l = record {
  within : l.at ≤ length l.text;
  so_far : Takes l.at l.text (g.K.Sink.taken l.fn.sink) (g.K.Sink.taken l.sink);
  counted : g.K.Sink.faults l.fn.sink ≤ g.K.Sink.faults l.sink;
}

abbrev pub decreases-loop-at : goal.decreases-loop-at
decreases-loop-at g l = length l.text - l.at
