use Rattle.placement.specs.Walk.{HasPassed, unreserved}
use Rattle.placement.proofs.planning.plan.pass.Given as goal

abbrev pub invariant-loop : goal.invariant-loop
invariant-loop l = HasPassed (unreserved l.origs.members l.free.members l.bounce) l.from l.counter
