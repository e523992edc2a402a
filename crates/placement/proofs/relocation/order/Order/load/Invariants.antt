use Rattle.std.proofs.Common.{◌≡◌, take}
use Rattle.placement.specs.Pending.{begun}
use Rattle.placement.specs.Tables.{IsAt, IsSized}
use Rattle.placement.proofs.relocation.order.Order.load.Given as goal

abbrev pub invariant-loop-from : goal.invariant-loop-from
invariant-loop-from l = record {
  at : IsAt l.self (begun (take l.from-index l.moves));
  sized : IsSized l.self;
  top : l.self.top ≡ l.fn.self.top;
  len : l.self.len ≡ 0;
}
