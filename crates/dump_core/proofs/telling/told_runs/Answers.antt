use Rattle.std.proofs.Common.{◌∙◌, ap, sym, filter, take}
use Rattle.definitions.specs.FreeRuns.{runs_of}
use Rattle.definitions.specs.Zones.{numbers, zone_at}
use Rattle.definitions.proofs.SlotRuns.{runs_of-nil}
use Rattle.definitions.proofs.ZoneWalk.{at_zone, valid_in_zone, filter_one_zone_more, filter_all_zones}
use Rattle.dump_core.specs.Cores.{is_told}
use Rattle.dump_core.proofs.telling.told_runs.Goals as goal

pub loop-zone-init : goal.loop-zone-init
loop-zone-init c = c.new-runs.ensures.items ∙ sym runs_of-nil

pub add_zone-requires-clause-zone : goal.add_zone-requires-clause-zone
add_zone-requires-clause-zone c =
    let told = c.as_slice-zone-items in
    let at = at_zone c.args.dump.now.hw.zones told.result.now c.loop-zone.zone-index (told.ensures.pairs ∙ c.zones.ensures.zones) c.zones.ensures.hardware.zones c.loop-zone-test.true in
    at.is_zone

pub add_zone-requires-clause-valid : goal.add_zone-requires-clause-valid
add_zone-requires-clause-valid c = λ p le lt.
    let zones = c.args.dump.now.hw.zones in
    let told = c.as_slice-zone-items in
    let j = c.loop-zone.zone-index in
    let at = at_zone zones told.result.now j (told.ensures.pairs ∙ c.zones.ensures.zones) c.zones.ensures.hardware.zones c.loop-zone-test.true in
    valid_in_zone zones j (zone_at told.result.now j) p at le lt

pub loop-zone-preserved : goal.loop-zone-preserved
loop-zone-preserved c =
    let d = c.args.dump.now in
    let zones = d.hw.zones in
    let told = c.as_slice-zone-items in
    let j = c.loop-zone.zone-index in
    let test = is_told d.hw d.frames in
    let at = at_zone zones told.result.now j (told.ensures.pairs ∙ c.zones.ensures.zones) c.zones.ensures.hardware.zones c.loop-zone-test.true in
    c.in_ok-add_zone.ensures (filter test (numbers (take j zones))) c.loop-zone.invariant
    ∙ ap runs_of (sym (filter_one_zone_more test zones j (zone_at told.result.now j) at))

pub returns : goal.returns
returns c =
    let d = c.args.dump.now in
    let told = c.as_slice-zone-items in
    c.loop-zone.invariant
    ∙ ap runs_of (filter_all_zones (is_told d.hw d.frames) d.hw.zones told.result.now c.loop-zone.zone-index (told.ensures.pairs ∙ c.zones.ensures.zones) c.loop-zone-test.false)
