use Rattle.script.specs.Shapes.{texts}
use Rattle.script.proofs.LineLaws.{Walks}
use Rattle.script.proofs.lines.first_line.Given as goal

abbrev pub invariant-loop-i : goal.invariant-loop-i
invariant-loop-i l = Walks l.text l.from l.i (texts l.words.items)
