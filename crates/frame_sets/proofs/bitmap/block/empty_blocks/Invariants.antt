use Rattle.std.proofs.Common.{◌≡◌, vec_len}
use Rattle.std.specs.List.{All}
use Rattle.frame_sets.specs.Bits.{IsEmptyBlock}
use Rattle.frame_sets.proofs.bitmap.block.empty_blocks.Given as goal

abbrev pub invariant-loop : goal.invariant-loop
invariant-loop l = (vec_len l.blocks ≡ l.counter) × All IsEmptyBlock l.blocks.items
