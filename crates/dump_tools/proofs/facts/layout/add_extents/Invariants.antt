use Rattle.std.proofs.Common.{◌≡◌, ◌+◌, ◌++◌, length, map, take}
use Rattle.dump_tools.specs.Facts.{extent_fact}
use Rattle.dump_tools.proofs.facts.layout.add_extents.Given as goal

abbrev pub invariant-loop-start : goal.invariant-loop-start
invariant-loop-start l = record {
  added : l.facts ≡ l.fn.facts ++ map extent_fact (take l.start-index l.extents);
  len : length l.facts ≡ length l.fn.facts + l.start-index;
}
