use Rattle.std.proofs.Common.{◌*◌}
use Rattle.frame_sets.specs.Bits.{AllClear}
use Rattle.frame_sets.proofs.bitmap.block.first_bit.Given as goal

abbrev pub invariant-loop-word : goal.invariant-loop-word
invariant-loop-word l = AllClear l.block l.from (64 * l.word)
