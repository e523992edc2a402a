use Rattle.std.proofs.Common.{◌≡◌, ◌++◌, ◌+◌, map}
use Rattle.script.specs.Drill.{below, stores, value}
use Rattle.script.proofs.drill.add_stores.Given as goal

abbrev pub invariant-loop-i : goal.invariant-loop-i
invariant-loop-i l = l.events.items ≡ l.fn.events.items ++ map (λ i. stores (value l.number i + 1) i) (below l.i)
