use Rattle.std.proofs.Common.{◌≡◌, ◌≤◌, ℕ, List, drop, take}
use Rattle.core_machine.specs.Pages.{places_end}
use Rattle.core_machine.specs.Reading.{IsReadTo}
use Rattle.core_machine.specs.Laid.{IsLaidUpTo, IsSamePlan}
use Rattle.core_machine.specs.Made.{frames_in, saved_of}
use Rattle.core_machine.proofs.laying.lay_all.Given as goal

abbrev pub invariant-loop-segment : goal.invariant-loop-segment
invariant-loop-segment g l = record {
  laid : IsLaidUpTo l.filled l.place (frames_in l.segments) (drop l.segment-index l.segments) (λ saved. (bytes : List ℕ) → IsReadTo bytes l.fn.place (g.S.Source.remaining l.fn.source) → saved ≡ saved_of bytes (take l.segment-index l.segments));
  ends : places_end l.place (drop l.segment-index l.segments) ≡ places_end l.fn.place l.segments;
  left : (bytes : List ℕ) → IsReadTo bytes l.fn.place (g.S.Source.remaining l.fn.source) → IsReadTo bytes l.place (g.S.Source.remaining l.source);
  same : IsSamePlan l.fn.filled l.filled;
  counted : g.S.Source.faults l.fn.source ≤ g.S.Source.faults l.source;
}
