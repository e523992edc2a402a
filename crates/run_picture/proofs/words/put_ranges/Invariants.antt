use Rattle.std.proofs.Common.{◌≡◌, ◌≤◌, ◌+◌, ◌*◌, ◌++◌, flat_map, take, length}
use Rattle.run_picture.specs.Words.{range_words}
use Rattle.run_picture.proofs.words.put_ranges.Given as goal

abbrev pub invariant-loop-range : goal.invariant-loop-range
invariant-loop-range l = record {
  so_far : l.piece ≡ l.fn.piece ++ flat_map range_words (take l.range-index l.range-items);
  len : length l.piece ≤ length l.fn.piece + 42 * l.range-index;
}
