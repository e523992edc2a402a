use Rattle.std.proofs.Common.{◌≡◌, ◌++◌, map}
use Rattle.std.specs.List.{range_with_len}
use Rattle.definitions.specs.FrameSets.{zone_block}
use Rattle.frame_sets.proofs.bitmap.add_blocks.Given as goal

abbrev pub invariant-loop-j : goal.invariant-loop-j
invariant-loop-j l = l.runs.items ≡ l.initial.runs.items ++ map (zone_block l.fn.zone) (range_with_len 0 l.j)
