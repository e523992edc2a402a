use Rattle.std.proofs.Common.{◌≡◌, map}
use Rattle.std.specs.List.{range_with_len}
use Rattle.definitions.specs.NumberPages.{page_of_words}
use Rattle.image_stream.specs.Plain.{plain_word}
use Rattle.image_stream.proofs.plain.plain_numbers.Given as goal

abbrev pub invariant-loop-i : goal.invariant-loop-i
invariant-loop-i l = l.plain ≡ page_of_words (map (plain_word l.count l.page) (range_with_len 0 l.i))
