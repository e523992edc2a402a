use Rattle.std.proofs.Common.{◌≡◌, ◌≤◌, ◌+◌, ◌*◌, take}
use Rattle.definitions.specs.Streams.{TakesAll}
use Rattle.elf_core.specs.Elf.{loads_bytes}
use Rattle.dump_core.specs.Runs.{frames_in}
use Rattle.dump_core.proofs.heads.put_loads.Given as goal

abbrev pub invariant-loop-run : goal.invariant-loop-run
invariant-loop-run g l = record {
  place : l.offset ≡ l.fn.start + 4096 * frames_in (take l.run-index l.runs);
  far : l.offset ≤ l.fn.start + 268435456 * l.run-index;
  so_far : TakesAll (loads_bytes l.fn.start (take l.run-index l.runs)) (g.K.Sink.taken l.fn.out) (g.K.Sink.taken l.out);
  counted : g.K.Sink.faults l.fn.out ≤ g.K.Sink.faults l.out;
}
