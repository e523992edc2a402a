use Rattle.std.proofs.Common.{◌≡◌, length, map, take, string_bytes}
use Rattle.command_words.proofs.words.equal.Given as goal

abbrev pub invariant-loop-word : goal.invariant-loop-word
invariant-loop-word l = map string_bytes (take (length l.yielded) l.words) ≡ map (λ text. text.now) (take (length l.yielded) l.texts)
