use Rattle.std.proofs.Common.{◌≡◌, drop}
use Rattle.core_machine.specs.Made.{end_after}
use Rattle.core_machine.proofs.heading.frames_in.Given as goal

abbrev pub invariant-loop-segment : goal.invariant-loop-segment
invariant-loop-segment l = record {
  rest : end_after l.frames (drop l.segment-index l.segments) ≡ end_after 0 l.segments;
}
