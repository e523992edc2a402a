use Rattle.std.proofs.Common.{◌≡◌, ◌++◌, map}
use Rattle.script.specs.Drill.{below, shows}
use Rattle.script.proofs.drill.add_shows.Given as goal

abbrev pub invariant-loop-i : goal.invariant-loop-i
invariant-loop-i l = l.events.items ≡ l.fn.events.items ++ map shows (below l.i)
