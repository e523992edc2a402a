use Rattle.std.proofs.Common.{◌≤◌, take}
use Rattle.definitions.specs.Streams.{TakesAll}
use Rattle.definitions.specs.Zones.{numbers}
use Rattle.dump_core.proofs.PageRuns.{page_bytes}
use Rattle.dump_core.proofs.pages.put_pages.Given as goal

abbrev pub invariant-loop-run : goal.invariant-loop-run
invariant-loop-run g l = record {
  so_far : TakesAll (page_bytes l.frames (numbers (take l.run-index l.runs))) (g.K.Sink.taken l.fn.out) (g.K.Sink.taken l.out);
  counted : g.K.Sink.faults l.fn.out ≤ g.K.Sink.faults l.out;
}
