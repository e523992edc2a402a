use Rattle.std.proofs.Common.{◌≡◌, ◌++◌}
use Rattle.frame_sets.specs.Numbers.{numbers_in, marked_in}
use Rattle.frame_sets.proofs.packing.unpack.Unpack.list.Given as goal

abbrev pub invariant-loop-j : goal.invariant-loop-j
invariant-loop-j l = record {
  listed : l.origs ≡ record l.fn.origs { members = l.fn.origs.members ++ numbers_in l.self l.page l.j };
  marked : l.zeros ≡ record l.fn.zeros { members = l.fn.zeros.members ++ marked_in l.self l.page l.j };
}
