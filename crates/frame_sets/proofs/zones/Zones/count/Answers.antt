use Rattle.std.proofs.Common.{◌+◌, arith}
use Rattle.definitions.proofs.ZoneNumbers.{length-numbers_more, length-numbers_front}
use Rattle.frame_sets.specs.KeptZones.{kept_zones}
use Rattle.frame_sets.proofs.zones.Zones.count.Goals as goal

pub overflow_add-total : goal.overflow_add-total
overflow_add-total c =
    let zones = kept_zones c.self.inside in
    let more = length-numbers_more zones c.loop-count.count-index (omega arith) in
    let few = length-numbers_front zones (c.loop-count.count-index + 1) c.self.invariant.zones in
    let so_far = c.loop-count.invariant in
    omega arith

pub loop-count-preserved : goal.loop-count-preserved
loop-count-preserved c =
    let zones = kept_zones c.self.inside in
    let more = length-numbers_more zones c.loop-count.count-index (omega arith) in
    let so_far = c.loop-count.invariant in
    omega arith
