use Rattle.std.proofs.Common.{◌≢◌, ◌<◌, ℕ}
use Rattle.definitions.specs.Bytes.{word}
use Rattle.image_check.specs.Numbers.{frame_of}
use Rattle.image_pages.proofs.saved.words.find_word.Given as goal

abbrev pub invariant-loop-i : goal.invariant-loop-i
invariant-loop-i l = (j : ℕ) → j < l.i → frame_of l.format (word l.page j) ≢ l.number
