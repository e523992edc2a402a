use Rattle.std.proofs.Common.{◌<◌, [], ◌∷◌}
use Rattle.definitions.specs.Moves.{cycles_over}
use Rattle.placement.specs.Tables.{HasPass, HasRoom}
use Rattle.placement.proofs.Walking.{Leads, cycle_on}
use Rattle.placement.proofs.relocation.order.Order.emit_cycle.Given as goal

abbrev pub invariant-loop-source : goal.invariant-loop-source
invariant-loop-source l = record {
  pass : HasPass l.self;
  within : l.target < l.self.top;
  room : HasRoom l.self;
  leads : Leads l.fn.self l.self (cycles_over l.bounce (l.start ∷ [])) (cycle_on l.bounce l.start l.target);
}

abbrev pub decreases-loop-source : goal.decreases-loop-source
decreases-loop-source l = l.self.pending
