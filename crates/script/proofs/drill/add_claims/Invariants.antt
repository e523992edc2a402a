use Rattle.std.proofs.Common.{◌≡◌, ◌++◌, ◌∷◌, [], flat_map}
use Rattle.script.specs.Drill.{below, claims, stores, value}
use Rattle.script.proofs.drill.add_claims.Given as goal

abbrev pub invariant-loop-i : goal.invariant-loop-i
invariant-loop-i l = l.events.items ≡ l.fn.events.items ++ flat_map (λ i. claims i ∷ stores (value l.number i) i ∷ []) (below l.i)
