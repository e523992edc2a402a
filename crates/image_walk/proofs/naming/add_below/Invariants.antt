use Rattle.std.proofs.Common.{◌≡◌, length, take}
use Rattle.image_walk.specs.Taken.{HasBlocks}
use Rattle.image_walk.proofs.naming.add_below.Given as goal

abbrev pub invariant-loop-block : goal.invariant-loop-block
invariant-loop-block l = record {
  has : HasBlocks l.blocks (take l.block-index l.members) l.named;
  room : length l.named ≡ length l.initial.named;
}
