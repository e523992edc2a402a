use Rattle.std.specs.List.{AllWithin}
use Rattle.frame_sets.specs.Bits.{IsEmptyBlock}
use Rattle.frame_sets.proofs.bitmap.block.clear_blocks.Given as goal

abbrev pub invariant-loop-block : goal.invariant-loop-block
invariant-loop-block l = AllWithin IsEmptyBlock l.blocks 0 l.block-index
