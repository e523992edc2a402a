use Rattle.std.proofs.Common.{◌≡◌, ◌≤◌, ◌+◌, ◌*◌, ℕ, List}
use Rattle.core_machine.specs.Heads.{entries}
use Rattle.core_machine.specs.Reading.{IsReadTo}
use Rattle.core_machine.proofs.segments.table.read_table.Given as goal

abbrev pub invariant-loop-i : goal.invariant-loop-i
invariant-loop-i g l = record {
  table : (bytes : List ℕ) → IsReadTo bytes l.place (g.S.Source.remaining l.fn.source) → l.table.items ≡ entries bytes l.place l.i;
  left : (bytes : List ℕ) → IsReadTo bytes l.place (g.S.Source.remaining l.fn.source) → IsReadTo bytes (l.place + 56 * l.i) (g.S.Source.remaining l.source);
  counted : g.S.Source.faults l.fn.source ≤ g.S.Source.faults l.source;
}
