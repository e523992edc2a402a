use Rattle.std.proofs.Common.{◌≡◌, ◌++◌, map}
use Rattle.script.specs.Drill.{steps}
use Rattle.script.proofs.DrillLaws.{back_to}
use Rattle.script.proofs.drill.add_last_steps_first.Given as goal

abbrev pub invariant-loop-i : goal.invariant-loop-i
invariant-loop-i l = l.events.items ≡ l.fn.events.items ++ map steps (back_to l.i l.count)
