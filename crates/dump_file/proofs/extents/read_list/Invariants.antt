use Rattle.std.proofs.Common.{◌≡◌, ◌≤◌, ◌<◌, ◌+◌, ◌*◌, ℕ, true, List, length, map, take}
use Rattle.std.specs.List.{range_with_len}
use Rattle.machine.specs.HardFault.{is_extent}
use Rattle.dump_file.specs.Fields.{extent_at}
use Rattle.dump_file.specs.Reading.{IsReadTo}
use Rattle.dump_file.proofs.extents.read_list.Given as goal

abbrev pub invariant-loop-i : goal.invariant-loop-i
invariant-loop-i g l = record {
  long : length l.list ≡ 64;
  each : (k : ℕ) → k < l.i → is_extent (take l.i l.list) k ≡ true;
  read : (bytes : List ℕ) → IsReadTo bytes l.first (g.S.Source.remaining l.fn.source) → IsReadTo bytes (l.first + 12 * l.i) (g.S.Source.remaining l.source);
  so_far : (bytes : List ℕ) → IsReadTo bytes l.first (g.S.Source.remaining l.fn.source) → take l.i l.list ≡ map (extent_at bytes l.first) (range_with_len 0 l.i);
  counted : g.S.Source.faults l.fn.source ≤ g.S.Source.faults l.source;
}
