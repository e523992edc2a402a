use Rattle.std.proofs.Common.{◌+◌, length, ap, ◌∙◌, arith}
use Rattle.definitions.specs.Tables.{free_frames}
use Rattle.definitions.specs.Zones.{zone_at}
use Rattle.definitions.proofs.ZoneWalk.{at_zone, count_more, filter_all_zones, few_picked}
use Rattle.frame_table.specs.Tests.{free_by_entry}
use Rattle.frame_table.proofs.view.count_free.Goals as goal

pub free_in_zone-count-requires-clause-table : goal.free_in_zone-count-requires-clause-table
free_in_zone-count-requires-clause-table c =
    let told = c.as_slice-zone-items in
    let at = at_zone c.args.view.now.zones.now told.result.now c.loop-zone.zone-index told.ensures.pairs told.ensures.zones c.loop-zone-test.true in
    omega (arith, at.below_top, c.requires)

pub overflow_add-count : goal.overflow_add-count
overflow_add-count c =
    let view = c.args.view.now in
    let zones = view.zones.now in
    let told = c.as_slice-zone-items in
    let j = c.loop-zone.zone-index in
    let test = free_by_entry view.table view.frames.now in
    let at = at_zone zones told.result.now j told.ensures.pairs told.ensures.zones c.loop-zone-test.true in
    let more = count_more test zones j (zone_at told.result.now j) c.loop-zone.count c.free_in_zone-count.result at c.loop-zone.invariant c.free_in_zone-count.ensures in
    let few = few_picked test zones (j + 1) told.ensures.zones in
    omega (arith, more, few)

pub loop-zone-preserved : goal.loop-zone-preserved
loop-zone-preserved c =
    let view = c.args.view.now in
    let zones = view.zones.now in
    let told = c.as_slice-zone-items in
    let j = c.loop-zone.zone-index in
    let at = at_zone zones told.result.now j told.ensures.pairs told.ensures.zones c.loop-zone-test.true in
    count_more (free_by_entry view.table view.frames.now) zones j (zone_at told.result.now j) c.loop-zone.count c.free_in_zone-count.result at c.loop-zone.invariant c.free_in_zone-count.ensures

pub returns : goal.returns
unfolding free_frames
returns c =
    let view = c.args.view.now in
    let told = c.as_slice-zone-items in
    let test = free_by_entry view.table view.frames.now in
    c.loop-zone.invariant ∙ ap length (filter_all_zones test view.zones.now told.result.now c.loop-zone.zone-index told.ensures.pairs c.loop-zone-test.false)
