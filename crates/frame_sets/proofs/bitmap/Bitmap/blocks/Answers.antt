use Rattle.std.proofs.Common.{length, ap, arith}
use Rattle.definitions.proofs.ZoneBlocks.{few_blocks}
use Rattle.frame_sets.proofs.bitmap.Bitmap.blocks.Goals as goal

pub overflow_cast-result : goal.overflow_cast-result
overflow_cast-result c =
    let few = few_blocks c.self.inside.zones c.self.invariant.zones in
    let same = ap length c.self.invariant.runs in
    let len = c.len.ensures in
    let items = c.self.inside.runs.ok.0 in
    omega arith
