use Rattle.std.proofs.Common.{◌≤◌, ◌-◌, vec_len}
use Rattle.definitions.specs.Streams.{HandsOut}
use Rattle.swsusp_cli.proofs.reading.read_script.Given as goal

abbrev pub invariant-loop-piece : goal.invariant-loop-piece
invariant-loop-piece g l = record {
  few : vec_len l.bytes ≤ 1048577;
  so_far : HandsOut (vec_len l.bytes) l.bytes.items (g.I.Source.remaining l.fn.input) (g.I.Source.remaining l.input);
  counted : g.I.Source.faults l.fn.input ≤ g.I.Source.faults l.input;
}

abbrev pub decreases-loop-piece : goal.decreases-loop-piece
decreases-loop-piece g l = 1048577 - vec_len l.bytes
