use Rattle.std.proofs.Common.{◌≡◌, drop}
use Rattle.core_machine.specs.Segments.{first_place}
use Rattle.core_machine.proofs.segments.order.first_place.Given as goal

abbrev pub invariant-loop-segment : goal.invariant-loop-segment
invariant-loop-segment l = record {
  rest : first_place (drop l.segment-index l.segments) ≡ first_place l.segments;
}
