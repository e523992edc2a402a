use Rattle.std.proofs.Common.{◌+◌, length, ap, ◌∙◌, arith}
use Rattle.definitions.specs.Zones.{zone_at}
use Rattle.definitions.proofs.ZoneWalk.{at_zone, valid_in_zone, count_more, filter_all_zones, few_picked}
use Rattle.dump_tools.specs.Counts.{is_of}
use Rattle.dump_tools.proofs.facts.counting.count_frames.Goals as goal

pub count_in_zone-total-requires-clause-zone : goal.count_in_zone-total-requires-clause-zone
count_in_zone-total-requires-clause-zone c =
    let told = c.as_slice-zone-items in
    let at = at_zone c.args.dump.now.hw.zones told.result.now c.loop-zone.zone-index (told.ensures.pairs ∙ c.zones.ensures.zones) c.zones.ensures.hardware.zones c.loop-zone-test.true in
    at.is_zone

pub count_in_zone-total-requires-clause-valid : goal.count_in_zone-total-requires-clause-valid
count_in_zone-total-requires-clause-valid c = λ p le lt.
    let zones = c.args.dump.now.hw.zones in
    let told = c.as_slice-zone-items in
    let j = c.loop-zone.zone-index in
    let at = at_zone zones told.result.now j (told.ensures.pairs ∙ c.zones.ensures.zones) c.zones.ensures.hardware.zones c.loop-zone-test.true in
    valid_in_zone zones j (zone_at told.result.now j) p at le lt

pub overflow_add-total : goal.overflow_add-total
overflow_add-total c =
    let d = c.args.dump.now in
    let zones = d.hw.zones in
    let told = c.as_slice-zone-items in
    let j = c.loop-zone.zone-index in
    let test = is_of d.hw d.frames c.args.kind in
    let at = at_zone zones told.result.now j (told.ensures.pairs ∙ c.zones.ensures.zones) c.zones.ensures.hardware.zones c.loop-zone-test.true in
    let more = count_more test zones j (zone_at told.result.now j) c.loop-zone.total c.count_in_zone-total.result at c.loop-zone.invariant c.count_in_zone-total.ensures in
    let few = few_picked test zones (j + 1) at.zones_are in
    omega (arith, more, few)

pub loop-zone-preserved : goal.loop-zone-preserved
loop-zone-preserved c =
    let d = c.args.dump.now in
    let zones = d.hw.zones in
    let told = c.as_slice-zone-items in
    let j = c.loop-zone.zone-index in
    let at = at_zone zones told.result.now j (told.ensures.pairs ∙ c.zones.ensures.zones) c.zones.ensures.hardware.zones c.loop-zone-test.true in
    count_more (is_of d.hw d.frames c.args.kind) zones j (zone_at told.result.now j) c.loop-zone.total c.count_in_zone-total.result at c.loop-zone.invariant c.count_in_zone-total.ensures

pub returns-clause-count : goal.returns-clause-count
returns-clause-count c =
    let d = c.args.dump.now in
    let told = c.as_slice-zone-items in
    c.loop-zone.invariant
    ∙ ap length (filter_all_zones (is_of d.hw d.frames c.args.kind) d.hw.zones told.result.now c.loop-zone.zone-index (told.ensures.pairs ∙ c.zones.ensures.zones) c.loop-zone-test.false)

pub returns-clause-few : goal.returns-clause-few
returns-clause-few c =
    let d = c.args.dump.now in
    let few = few_picked (is_of d.hw d.frames c.args.kind) d.hw.zones c.loop-zone.zone-index c.zones.ensures.hardware.zones in
    omega (arith, few, c.loop-zone.invariant)
