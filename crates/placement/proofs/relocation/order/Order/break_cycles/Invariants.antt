use Rattle.std.specs.List.{range_with_len}
use Rattle.definitions.specs.Moves.{cycles_over}
use Rattle.placement.specs.Tables.{HasPass, HasRoom, Follows}
use Rattle.placement.proofs.relocation.order.Order.break_cycles.Given as goal

abbrev pub invariant-loop-p : goal.invariant-loop-p
invariant-loop-p l = record {
  pass : HasPass l.self;
  room : HasRoom l.self;
  follows : Follows l.initial.self l.self (cycles_over l.bounce (range_with_len 0 l.p));
}
