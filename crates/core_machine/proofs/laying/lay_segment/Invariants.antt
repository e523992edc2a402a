use Rattle.std.proofs.Common.{◌≡◌, ◌≤◌, ℕ, List}
use Rattle.core_machine.specs.Reading.{IsReadTo}
use Rattle.core_machine.specs.Segments.{first_frame}
use Rattle.core_machine.specs.Laid.{IsLaidOver, IsSamePlan, LiesBelow}
use Rattle.core_machine.proofs.Lying.{front_of}
use Rattle.core_machine.proofs.Places.{At}
use Rattle.core_machine.proofs.laying.lay_segment.Given as goal

abbrev pub invariant-loop-frame : goal.invariant-loop-frame
invariant-loop-frame g l = record {
  laid : (saved : List (ℕ × List ℕ)) → LiesBelow l.fn.filled saved (first_frame l.segment) → IsLaidOver l.filled saved l.frame (λ more. (bytes : List ℕ) → IsReadTo bytes l.fn.place (g.S.Source.remaining l.fn.source) → more ≡ front_of bytes l.segment l.frame);
  at : At l.segment l.fn.place l.place l.frame;
  left : (bytes : List ℕ) → IsReadTo bytes l.fn.place (g.S.Source.remaining l.fn.source) → IsReadTo bytes l.place (g.S.Source.remaining l.source);
  same : IsSamePlan l.fn.filled l.filled;
  counted : g.S.Source.faults l.fn.source ≤ g.S.Source.faults l.source;
}
