use Rattle.std.proofs.Common.{◌≤◌}
use Rattle.std.specs.List.{range_with_len}
use Rattle.definitions.specs.Streams.{TakesAll}
use Rattle.dump_core.proofs.PageRuns.{page_bytes}
use Rattle.dump_core.proofs.pages.put_run.Given as goal

abbrev pub invariant-loop-i : goal.invariant-loop-i
invariant-loop-i g l = record {
  so_far : TakesAll (page_bytes l.frames (range_with_len l.start l.i)) (g.K.Sink.taken l.fn.out) (g.K.Sink.taken l.out);
  counted : g.K.Sink.faults l.fn.out ≤ g.K.Sink.faults l.out;
}
