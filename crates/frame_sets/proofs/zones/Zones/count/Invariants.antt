use Rattle.std.proofs.Common.{◌≡◌, length, take}
use Rattle.definitions.specs.Zones.{numbers}
use Rattle.frame_sets.proofs.zones.Zones.count.Given as goal

abbrev pub invariant-loop-count : goal.invariant-loop-count
invariant-loop-count l = l.total ≡ length (numbers (take l.count-index l.count-items))
