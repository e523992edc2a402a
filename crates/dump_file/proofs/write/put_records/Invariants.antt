use Rattle.std.proofs.Common.{◌≤◌, take}
use Rattle.definitions.specs.Streams.{TakesAll}
use Rattle.definitions.specs.Zones.{numbers}
use Rattle.dump_file.specs.Written.{records_bytes}
use Rattle.dump_file.proofs.write.put_records.Given as goal

abbrev pub invariant-loop-start : goal.invariant-loop-start
invariant-loop-start g l = record {
  so_far : TakesAll (records_bytes l.frames (numbers (take l.start-index l.zones))) (g.K.Sink.taken l.fn.sink) (g.K.Sink.taken l.sink);
  counted : g.K.Sink.faults l.fn.sink ≤ g.K.Sink.faults l.sink;
}
