use Rattle.std.proofs.Common.{◌≡◌, ◌≤◌, take, vec_len, vec_capacity}
use Rattle.placement.specs.Plan.{without}
use Rattle.placement.specs.Walk.{HasPassed}
use Rattle.placement.proofs.planning.plan.reserve.Given as goal

abbrev pub invariant-loop : goal.invariant-loop
invariant-loop l = record {
  passed : HasPassed (without l.free.members l.origs.members) l.from l.counter;
  list : l.list.items ≡ take l.counter (without l.free.members l.origs.members);
  len : vec_len l.list ≡ l.counter;
  room : vec_capacity l.fn.list ≤ vec_capacity l.list;
}
