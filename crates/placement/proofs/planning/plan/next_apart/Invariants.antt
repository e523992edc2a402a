use Rattle.std.proofs.Common.{◌≡◌, slice_get}
use Rattle.definitions.specs.Zones.{first_from}
use Rattle.frame_sets.specs.Left.{left_in}
use Rattle.placement.specs.Plan.{without}
use Rattle.placement.proofs.planning.plan.next_apart.Given as goal

abbrev pub invariant-loop-p : goal.invariant-loop-p
invariant-loop-p l = slice_get (without (left_in l.p-iterator) l.origs.members) 0 ≡ first_from (without l.free.members l.origs.members) l.from
