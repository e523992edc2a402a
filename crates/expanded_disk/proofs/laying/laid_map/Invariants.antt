use Rattle.std.proofs.Common.{◌≡◌, map}
use Rattle.std.specs.List.{range_with_len}
use Rattle.definitions.specs.NumberPages.{page_of_words}
use Rattle.expanded_disk.specs.Laid.{map_word}
use Rattle.expanded_disk.proofs.laying.laid_map.Given as goal

abbrev pub invariant-loop-word : goal.invariant-loop-word
invariant-loop-word l = l.page ≡ page_of_words (map (map_word l.pages l.map) (range_with_len 0 l.word))
