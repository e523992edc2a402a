use Rattle.std.proofs.Common.{◌≡◌, ◌++◌, map}
use Rattle.script.specs.Drill.{below, takes_in}
use Rattle.script.proofs.drill.add_ins.Given as goal

abbrev pub invariant-loop-i : goal.invariant-loop-i
invariant-loop-i l = l.events.items ≡ l.fn.events.items ++ map takes_in (below l.i)
