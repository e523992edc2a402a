use Rattle.std.proofs.Common.{◌≡◌, ◌≤◌}
use Rattle.image_pages.specs.Ahead.{data_words}
use Rattle.image_pages.proofs.saved.words.data_words.Given as goal

abbrev pub invariant-loop-i : goal.invariant-loop-i
invariant-loop-i l = record {
  dense : l.found ≡ data_words l.format l.page l.i;
  few : l.found ≤ l.i;
}
