use Rattle.std.proofs.Common.{◌≡◌, drop}
use Rattle.boot_resume.specs.Memory.{AreApart, AreBehind}
use Rattle.boot_resume.specs.Ranges.{misplaced}
use Rattle.boot_resume.proofs.ranges.first_misplaced.Given as goal

abbrev pub invariant-loop-index : goal.invariant-loop-index
invariant-loop-index l =
    (misplaced 0 0 l.memory ≡ misplaced l.floor l.index (drop l.index l.memory))
    × (AreBehind l.floor (drop l.index l.memory) → AreApart l.memory)
    × (AreApart l.memory → AreBehind l.floor (drop l.index l.memory))
