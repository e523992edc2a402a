use Rattle.std.proofs.Common.{◌≡◌, ◌≤◌, ◌<◌, ℕ, List, length, map, take}
use Rattle.std.specs.List.{range_with_len}
use Rattle.definitions.specs.ZoneFacts.{AreZones}
use Rattle.dump_file.specs.Fields.{zone, zone_byte}
use Rattle.dump_file.specs.Reading.{IsReadTo}
use Rattle.dump_file.proofs.zone_list.read_zones.Given as goal

abbrev pub invariant-loop-j : goal.invariant-loop-j
invariant-loop-j g l = record {
  long : length l.pairs ≡ 16;
  are : 0 < l.j → AreZones (take l.j l.pairs);
  read : (bytes : List ℕ) → IsReadTo bytes 424 (g.S.Source.remaining l.fn.source) → IsReadTo bytes (zone_byte l.j) (g.S.Source.remaining l.source);
  so_far : (bytes : List ℕ) → IsReadTo bytes 424 (g.S.Source.remaining l.fn.source) → take l.j l.pairs ≡ map (zone bytes) (range_with_len 0 l.j);
  counted : g.S.Source.faults l.fn.source ≤ g.S.Source.faults l.source;
}
