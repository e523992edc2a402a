use Rattle.std.proofs.Common.{◌+◌, length, ap, ◌∙◌, arith}
use Rattle.definitions.specs.Tables.{saveable_frames}
use Rattle.definitions.specs.Zones.{zone_at}
use Rattle.definitions.proofs.ZoneWalk.{at_zone, valid_in_zone, count_more, filter_all_zones, few_picked}
use Rattle.frame_table.specs.Tests.{saveable_by_entry}
use Rattle.frame_table.proofs.reclaim.count_saveable.Goals as goal

pub overflow_add-count : goal.overflow_add-count
overflow_add-count c =
    let zones = c.args.zones.now in
    let told = c.as_slice-zone-items in
    let j = c.loop-zone.zone-index in
    let test = saveable_by_entry c.args.table c.args.frames.now in
    let at = at_zone zones told.result.now j told.ensures.pairs told.ensures.zones c.loop-zone-test.true in
    let more = count_more test zones j (zone_at told.result.now j) c.loop-zone.count c.saveable_in_zone-count.result at c.loop-zone.invariant c.saveable_in_zone-count.ensures in
    let few = few_picked test zones (j + 1) told.ensures.zones in
    omega (arith, more, few)

pub loop-zone-preserved : goal.loop-zone-preserved
loop-zone-preserved c =
    let zones = c.args.zones.now in
    let told = c.as_slice-zone-items in
    let j = c.loop-zone.zone-index in
    let at = at_zone zones told.result.now j told.ensures.pairs told.ensures.zones c.loop-zone-test.true in
    count_more (saveable_by_entry c.args.table c.args.frames.now) zones j (zone_at told.result.now j) c.loop-zone.count c.saveable_in_zone-count.result at c.loop-zone.invariant c.saveable_in_zone-count.ensures

pub returns : goal.returns
unfolding saveable_frames
returns c =
    let told = c.as_slice-zone-items in
    let test = saveable_by_entry c.args.table c.args.frames.now in
    c.loop-zone.invariant ∙ ap length (filter_all_zones test c.args.zones.now told.result.now c.loop-zone.zone-index told.ensures.pairs c.loop-zone-test.false)

pub saveable_in_zone-count-requires-clause-valid : goal.saveable_in_zone-count-requires-clause-valid
saveable_in_zone-count-requires-clause-valid c = λ p le lt.
    let zones = c.args.zones.now in
    let told = c.as_slice-zone-items in
    let j = c.loop-zone.zone-index in
    let at = at_zone zones told.result.now j told.ensures.pairs told.ensures.zones c.loop-zone-test.true in
    valid_in_zone zones j (zone_at told.result.now j) p at le lt
