use Rattle.std.proofs.Common.{◌≤◌, ◌-◌, ℕ, List}
use Rattle.core_machine.specs.Reading.{IsReadTo}
use Rattle.core_machine.proofs.segments.filling.skip.Given as goal

abbrev pub invariant-loop-at : goal.invariant-loop-at
invariant-loop-at g l = record {
  within : l.at ≤ l.to;
  left : (bytes : List ℕ) → IsReadTo bytes l.from (g.S.Source.remaining l.fn.source) → IsReadTo bytes l.at (g.S.Source.remaining l.source);
  counted : g.S.Source.faults l.fn.source ≤ g.S.Source.faults l.source;
}

abbrev pub decreases-loop-at : goal.decreases-loop-at
decreases-loop-at g l = l.to - l.at
