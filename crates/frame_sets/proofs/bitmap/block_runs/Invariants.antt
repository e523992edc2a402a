use Rattle.std.proofs.Common.{◌≡◌, take}
use Rattle.definitions.specs.FrameSets.{blocks}
use Rattle.frame_sets.proofs.bitmap.block_runs.Given as goal

abbrev pub invariant-loop-zone : goal.invariant-loop-zone
invariant-loop-zone l = l.runs.items ≡ blocks (take l.zone-index l.zones)
