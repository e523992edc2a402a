use Rattle.std.proofs.Common.{◌≤◌}
use Rattle.std.specs.List.{range_with_len}
use Rattle.definitions.specs.Streams.{TakesAll}
use Rattle.dump_file.specs.Written.{records_bytes}
use Rattle.dump_file.proofs.write.put_records_of_zone.Given as goal

abbrev pub invariant-loop-i : goal.invariant-loop-i
invariant-loop-i g l = record {
  so_far : TakesAll (records_bytes l.frames (range_with_len l.start l.i)) (g.K.Sink.taken l.fn.sink) (g.K.Sink.taken l.sink);
  counted : g.K.Sink.faults l.fn.sink ≤ g.K.Sink.faults l.sink;
}
