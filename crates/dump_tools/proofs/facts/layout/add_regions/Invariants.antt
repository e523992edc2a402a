use Rattle.std.proofs.Common.{◌≡◌, ◌+◌, ◌++◌, length, map, take}
use Rattle.dump_tools.specs.Facts.{region_fact}
use Rattle.dump_tools.proofs.facts.layout.add_regions.Given as goal

abbrev pub invariant-loop-start : goal.invariant-loop-start
invariant-loop-start l = record {
  added : l.facts ≡ l.fn.facts ++ map region_fact (take l.start-index l.regions);
  len : length l.facts ≡ length l.fn.facts + l.start-index;
}
