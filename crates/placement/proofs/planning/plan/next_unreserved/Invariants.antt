use Rattle.std.proofs.Common.{◌≡◌, slice_get}
use Rattle.definitions.specs.Zones.{first_from}
use Rattle.frame_sets.specs.Left.{left_in}
use Rattle.placement.specs.Walk.{unreserved}
use Rattle.placement.proofs.planning.plan.next_unreserved.Given as goal

abbrev pub invariant-loop-p : goal.invariant-loop-p
invariant-loop-p l =
    slice_get (unreserved l.origs.members (left_in l.p-iterator) l.bounce) 0 ≡ first_from (unreserved l.origs.members l.free.members l.bounce) l.from
