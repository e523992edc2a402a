use Rattle.std.proofs.Common.{◌≤◌, take}
use Rattle.std.specs.List.{flat_map}
use Rattle.definitions.specs.Streams.{TakesAll}
use Rattle.dump_tools.specs.Texts.{line_text}
use Rattle.dump_tools.proofs.shown.printing.print.Given as goal

abbrev pub invariant-loop-fact : goal.invariant-loop-fact
invariant-loop-fact g l = record {
  so_far : TakesAll (flat_map line_text (take l.fact-index l.facts)) (g.S.Sink.taken l.fn.sink) (g.S.Sink.taken l.sink);
  counted : g.S.Sink.faults l.fn.sink ≤ g.S.Sink.faults l.sink;
}
