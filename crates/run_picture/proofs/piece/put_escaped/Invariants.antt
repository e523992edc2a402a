use Rattle.std.proofs.Common.{◌≡◌, ◌≤◌, ◌+◌, ◌*◌, ◌++◌, take, length}
use Rattle.run_picture.specs.Texts.{escaped}
use Rattle.run_picture.proofs.piece.put_escaped.Given as goal

abbrev pub invariant-loop-b : goal.invariant-loop-b
invariant-loop-b l = record {
  so_far : l.piece ≡ l.fn.piece ++ escaped (take l.b-index l.text);
  len : length l.piece ≤ length l.fn.piece + 5 * l.b-index;
}
