use Rattle.placement.proofs.ListPages.{AreMade}
use Rattle.placement.proofs.list.RestoreList.begin.Given as goal

abbrev pub invariant-loop-i : goal.invariant-loop-i
invariant-loop-i l = AreMade l.initial.frames l.frames l.list l.i
