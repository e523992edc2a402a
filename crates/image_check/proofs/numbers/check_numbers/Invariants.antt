use Rattle.definitions.specs.Bytes.{word}
use Rattle.image_check.specs.Numbers.{word_fault, word_before}
use Rattle.image_check.specs.Told.{Tells, each_below}
use Rattle.image_check.proofs.numbers.check_numbers.Given as goal

abbrev pub invariant-loop-i : goal.invariant-loop-i
invariant-loop-i g l =
    Tells (each_below (λ i. word_fault l.of.format l.of.numbers l.of.page i (word l.bytes i) (word_before l.previous l.bytes i)) l.i)
    (g.R.Report.told l.initial.report) (g.R.Report.told l.report)
