use Rattle.std.proofs.Common.{length, ◌<◌, ◌≤◌}
use Rattle.swsusp_cli.proofs.Streaming.{IsWritten}
use Rattle.swsusp_cli.proofs.exporting.put_stream.Given as goal

abbrev pub invariant-pieces : goal.invariant-pieces
invariant-pieces g l = record {
  some : 0 < length l.piece;
  written : IsWritten l.fn.stream l.stream (g.S.Sink.taken l.fn.sink) (g.S.Sink.taken l.sink);
  counted : g.S.Sink.faults l.fn.sink ≤ g.S.Sink.faults l.sink;
}

abbrev pub decreases-pieces : goal.decreases-pieces
decreases-pieces g l = length l.stream
