use Rattle.std.proofs.Common.{◌≡◌, ◌+◌, ◌++◌, length, map, take}
use Rattle.dump_tools.specs.Facts.{zone_fact}
use Rattle.dump_tools.proofs.facts.layout.add_zones.Given as goal

abbrev pub invariant-loop-start : goal.invariant-loop-start
invariant-loop-start l = record {
  added : l.facts ≡ l.fn.facts ++ map zone_fact (take l.start-index l.zones);
  len : length l.facts ≡ length l.fn.facts + l.start-index;
}
