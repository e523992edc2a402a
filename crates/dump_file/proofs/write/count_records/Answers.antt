use Rattle.std.proofs.Common.{ℕ, ◌+◌, Bool, not, length, ap, ◌∙◌, arith}
use Rattle.definitions.specs.Tables.{frame}
use Rattle.definitions.specs.Zones.{zone_at}
use Rattle.plain_machine.specs.Image.{is_zeros}
use Rattle.definitions.proofs.ZoneWalk.{at_zone, count_more, filter_all_zones, few_picked}
use Rattle.dump_file.proofs.write.count_records.Goals as goal

pub count_records_of_zone-total-requires-clause-within : goal.count_records_of_zone-total-requires-clause-within
count_records_of_zone-total-requires-clause-within c =
    let told = c.as_slice-start-items in
    let at = at_zone c.args.zones.now told.result.now c.loop-start.start-index told.ensures.pairs told.ensures.zones c.loop-start-test.true in
    omega (arith, at.below_top, c.requires)

pub count_records_of_zone-total-requires-clause-few : goal.count_records_of_zone-total-requires-clause-few
count_records_of_zone-total-requires-clause-few c =
    let told = c.as_slice-start-items in
    let at = at_zone c.args.zones.now told.result.now c.loop-start.start-index told.ensures.pairs told.ensures.zones c.loop-start-test.true in
    at.is_zone.1

pub overflow_add-total : goal.overflow_add-total
overflow_add-total c =
    let m = c.args.frames.now in
    let test : ℕ → Bool = λ p. not (is_zeros (frame m p)) in
    let zones = c.args.zones.now in
    let told = c.as_slice-start-items in
    let j = c.loop-start.start-index in
    let at = at_zone zones told.result.now j told.ensures.pairs told.ensures.zones c.loop-start-test.true in
    let more = count_more test zones j (zone_at told.result.now j) c.loop-start.total c.count_records_of_zone-total.result at c.loop-start.invariant c.count_records_of_zone-total.ensures.counted in
    let few = few_picked test zones (j + 1) told.ensures.zones in
    omega (arith, more, few)

pub loop-start-preserved : goal.loop-start-preserved
loop-start-preserved c =
    let m = c.args.frames.now in
    let test : ℕ → Bool = λ p. not (is_zeros (frame m p)) in
    let zones = c.args.zones.now in
    let told = c.as_slice-start-items in
    let j = c.loop-start.start-index in
    let at = at_zone zones told.result.now j told.ensures.pairs told.ensures.zones c.loop-start-test.true in
    count_more test zones j (zone_at told.result.now j) c.loop-start.total c.count_records_of_zone-total.result at c.loop-start.invariant c.count_records_of_zone-total.ensures.counted

pub returns : goal.returns
returns c =
    let m = c.args.frames.now in
    let test : ℕ → Bool = λ p. not (is_zeros (frame m p)) in
    let told = c.as_slice-start-items in
    c.loop-start.invariant ∙ ap length (filter_all_zones test c.args.zones.now told.result.now c.loop-start.start-index told.ensures.pairs c.loop-start-test.false)
