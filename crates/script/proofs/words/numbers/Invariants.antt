use Rattle.std.proofs.Common.{◌≡◌, take, drop, length}
use Rattle.script.specs.Shapes.{numbers_in, texts}
use Rattle.script.proofs.NumbersLaws.{with_front}
use Rattle.script.proofs.words.numbers.Given as goal

abbrev pub invariant-loop-i : goal.invariant-loop-i
invariant-loop-i g l = record {
  so_far : with_front (take l.i l.numbers) (numbers_in (drop l.i l.spans) (drop l.i (texts l.words))) ≡ numbers_in l.spans (texts l.words);
  len : length l.numbers ≡ length l.spans;
}
