use Rattle.std.proofs.Common.{◌≡◌, ◌≤◌, ◌<◌, List, ℕ, None, length}
use Rattle.definitions.specs.Zones.{top}
use Rattle.dump_file.specs.Dump.{frame_before, record_fault}
use Rattle.dump_file.specs.Fields.{contents, record_byte}
use Rattle.dump_file.specs.Reading.{IsReadTo}
use Rattle.dump_file.proofs.records.read_records.Given as goal

abbrev pub invariant-loop-j : goal.invariant-loop-j
invariant-loop-j g l = record {
  size : length l.frames ≡ top l.zones;
  before : (bytes : List ℕ) → IsReadTo bytes l.first (g.S.Source.remaining l.fn.source) → l.before ≡ frame_before bytes l.first l.j;
  left : (bytes : List ℕ) → IsReadTo bytes l.first (g.S.Source.remaining l.fn.source) → IsReadTo bytes (record_byte l.first l.j) (g.S.Source.remaining l.source);
  none : (bytes : List ℕ) → IsReadTo bytes l.first (g.S.Source.remaining l.fn.source) → (i : ℕ) → i < l.j → record_fault l.zones bytes l.first i ≡ None;
  frames : (bytes : List ℕ) → IsReadTo bytes l.first (g.S.Source.remaining l.fn.source) → l.fn.frames ≡ contents bytes l.first 0 (top l.zones) → l.frames ≡ contents bytes l.first l.j (top l.zones);
  counted : g.S.Source.faults l.fn.source ≤ g.S.Source.faults l.source;
}
