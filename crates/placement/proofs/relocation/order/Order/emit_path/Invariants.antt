use Rattle.std.proofs.Common.{◌<◌}
use Rattle.placement.specs.Tables.{HasPass, HasRoom}
use Rattle.placement.proofs.Walking.{Leads, path_on}
use Rattle.placement.proofs.relocation.order.Order.emit_path.Given as goal

abbrev pub invariant-loop-source : goal.invariant-loop-source
invariant-loop-source l = record {
  pass : HasPass l.self;
  within : l.target < l.self.top;
  room : HasRoom l.self;
  leads : Leads l.fn.self l.self (path_on l.fn.end) (path_on l.target);
}

abbrev pub decreases-loop-source : goal.decreases-loop-source
decreases-loop-source l = l.self.pending
