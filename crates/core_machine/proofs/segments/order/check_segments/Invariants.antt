use Rattle.std.proofs.Common.{◌≡◌, ◌≤◌, ◌^◌, drop}
use Rattle.core_machine.specs.Segments.{segments_fault}
use Rattle.core_machine.proofs.segments.order.check_segments.Given as goal

abbrev pub invariant-loop-segment : goal.invariant-loop-segment
invariant-loop-segment l = record {
  rest : segments_fault l.free l.place (drop l.segment-index l.segments) ≡ segments_fault 0 l.fn.place l.segments;
}
