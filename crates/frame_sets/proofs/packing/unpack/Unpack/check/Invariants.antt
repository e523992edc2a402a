use Rattle.std.proofs.Common.{◌≡◌, None}
use Rattle.frame_sets.specs.Numbers.{first_below, fault_in, before_in}
use Rattle.frame_sets.proofs.packing.unpack.Unpack.check.Given as goal

abbrev pub invariant-loop-j : goal.invariant-loop-j
invariant-loop-j l = record {
  sound : first_below (fault_in l.zones l.self l.page) l.j ≡ None;
  last : l.last ≡ before_in l.self l.page l.j;
}
