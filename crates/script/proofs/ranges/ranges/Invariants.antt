use Rattle.std.proofs.Common.{◌≡◌, ◌-◌, take, drop, length, replicate, All}
use Rattle.plain_machine.specs.Fitting.{IsRange}
use Rattle.script.specs.Shapes.{ranges_in}
use Rattle.script.specs.Shapes.{texts}
use Rattle.script.proofs.NumbersLaws.{with_front}
use Rattle.script.proofs.ranges.ranges.Given as goal

abbrev pub invariant-loop-i : goal.invariant-loop-i
invariant-loop-i l = record {
  so_far : with_front (take l.i l.list) (ranges_in (drop l.i (texts l.words))) ≡ ranges_in (texts l.words);
  len : length l.list ≡ 8;
  rest : drop l.i l.list ≡ replicate (8 - l.i) (0, 0);
  fits : All IsRange l.list;
}
