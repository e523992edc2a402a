use Rattle.std.proofs.Common.{◌≡◌, ◌-◌, ◌<◌, length, take, drop, replicate}
use Rattle.std.specs.List.{AllWithin, AllAdjacentBelow}
use Rattle.definitions.specs.Zones.{zone_at, zone_end}
use Rattle.definitions.specs.ZoneFacts.{IsZone, LiesBelow}
use Rattle.frame_sets.proofs.zones.Zones.of.Given as goal

abbrev pub invariant-loop-at : goal.invariant-loop-at
invariant-loop-at l = record {
  each : AllWithin IsZone l.pairs 0 l.at;
  apart : AllAdjacentBelow LiesBelow l.pairs l.at;
  first : l.at ≡ 0 → l.above ≡ 0;
  above : 0 < l.at → l.above ≡ zone_end (zone_at l.pairs (l.at - 1));
  kept : take l.at l.kept ≡ take l.at l.pairs;
  rest : drop l.at l.kept ≡ replicate (16 - l.at) (0, 0);
  whole : length l.kept ≡ 16;
}
