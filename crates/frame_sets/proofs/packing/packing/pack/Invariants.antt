use Rattle.std.proofs.Common.{◌≡◌, ◌+◌, ◌*◌, drop, take, option_copied}
use Rattle.definitions.specs.NumberPages.{page_of_words, marked_numbers}
use Rattle.frame_sets.specs.Left.{left_in}
use Rattle.frame_sets.specs.Places.{members_in}
use Rattle.frame_sets.proofs.Filling.{words_of_page}
use Rattle.frame_sets.proofs.packing.packing.pack.Given as goal

abbrev pub invariant-loop-i : goal.invariant-loop-i
invariant-loop-i l = record {
  left : left_in l.members ≡ drop (512 * l.k + l.i) l.origs.members;
  page : l.page ≡ page_of_words (take l.i (words_of_page (marked_numbers l.origs.members (members_in (option_copied l.zeros))) l.k));
}
