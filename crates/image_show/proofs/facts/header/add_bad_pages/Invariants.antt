use Rattle.std.proofs.Common.{◌≡◌, ◌+◌, ◌++◌, length, map, take}
use Rattle.image_show.specs.declared.facts.fact.Fact.TheVariants.{BadPage}
use Rattle.image_show.proofs.facts.header.add_bad_pages.Given as goal

abbrev pub invariant-loop-slot : goal.invariant-loop-slot
invariant-loop-slot l = record {
  added : l.facts ≡ l.fn.facts ++ map BadPage (take l.slot-index l.bad);
  len : length l.facts ≡ length l.fn.facts + l.slot-index;
}
