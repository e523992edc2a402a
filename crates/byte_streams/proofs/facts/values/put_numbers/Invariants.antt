use Rattle.std.proofs.Common.{◌≡◌, ◌+◌, ◌*◌, ◌≤◌, ◌++◌, length, take}
use Rattle.std.specs.List.{flat_map}
use Rattle.byte_streams.specs.Texts.{number_text}
use Rattle.byte_streams.proofs.facts.values.put_numbers.Given as goal

abbrev pub invariant-loop-n : goal.invariant-loop-n
invariant-loop-n l = record {
  text : l.line ≡ l.key ++ flat_map number_text (take l.n-index l.numbers);
  len : length l.line ≤ 20 + 21 * l.n-index;
}
