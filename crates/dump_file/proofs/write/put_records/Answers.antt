use Rattle.std.proofs.Common.{ℕ, List, subst, arith}
use Rattle.definitions.specs.Streams.{TakesAll}
use Rattle.definitions.specs.Zones.{numbers, zone_at}
use Rattle.definitions.proofs.ZoneWalk.{at_zone, all_zones}
use Rattle.dump_file.specs.Written.{records_bytes}
use Rattle.byte_streams.proofs.Taken.{TakesFront-all}
use Rattle.dump_file.proofs.ZoneRecords.{all_of_zone_more, front_of_zones}
use Rattle.dump_file.proofs.write.put_records.Goals as goal

pub put_records_of_zone-requires-clause-within : goal.put_records_of_zone-requires-clause-within
put_records_of_zone-requires-clause-within g c =
    let told = c.as_slice-start-items in
    let at = at_zone c.args.zones.now told.result.now c.loop-start.start-index told.ensures.pairs told.ensures.zones c.loop-start-test.true in
    omega (arith, at.below_top, c.requires)

pub put_records_of_zone-requires-clause-few : goal.put_records_of_zone-requires-clause-few
put_records_of_zone-requires-clause-few g c =
    let told = c.as_slice-start-items in
    let at = at_zone c.args.zones.now told.result.now c.loop-start.start-index told.ensures.pairs told.ensures.zones c.loop-start-test.true in
    at.is_zone.1

pub returns-in_err-put_records_of_zone-clause-front : goal.returns-in_err-put_records_of_zone-clause-front
returns-in_err-put_records_of_zone-clause-front g c =
    let taken = g.K.Sink.taken in
    let zones = c.args.zones.now in
    let told = c.as_slice-start-items in
    let j = c.loop-start.start-index in
    let at = at_zone zones told.result.now j told.ensures.pairs told.ensures.zones c.loop-start-test.true in
    front_of_zones c.args.frames.now zones j (zone_at told.result.now j) (taken c.args.sink.now) (taken c.loop-start.sink) (taken c.put_records_of_zone.new.sink)
    at c.loop-start.invariant.so_far c.put_records_of_zone.ensures.front

pub loop-start-preserved : goal.loop-start-preserved
loop-start-preserved g c =
    let taken = g.K.Sink.taken in
    let zones = c.args.zones.now in
    let told = c.as_slice-start-items in
    let j = c.loop-start.start-index in
    let at = at_zone zones told.result.now j told.ensures.pairs told.ensures.zones c.loop-start-test.true in
    record {
      so_far = all_of_zone_more c.args.frames.now zones j (zone_at told.result.now j) (taken c.args.sink.now) (taken c.loop-start.sink) (taken c.put_records_of_zone.new.sink) at c.loop-start.invariant.so_far c.in_ok-put_records_of_zone.ensures.whole;
      counted = omega (arith, c.loop-start.invariant.counted, c.put_records_of_zone.ensures.counted);
    }

pub returns-clause-whole : goal.returns-clause-whole
returns-clause-whole g c =
    let told = c.as_slice-start-items in
    subst (λ (zs : List (ℕ × ℕ)). TakesAll (records_bytes c.args.frames.now (numbers zs)) (g.K.Sink.taken c.args.sink.now) (g.K.Sink.taken c.loop-start.sink))
    (all_zones c.args.zones.now told.result.now c.loop-start.start-index told.ensures.pairs c.loop-start-test.false) c.loop-start.invariant.so_far

pub returns-clause-front : goal.returns-clause-front
returns-clause-front g c =
    let told = c.as_slice-start-items in
    TakesFront-all (records_bytes c.args.frames.now (numbers c.args.zones.now)) (g.K.Sink.taken c.args.sink.now) (g.K.Sink.taken c.loop-start.sink)
    (subst (λ (zs : List (ℕ × ℕ)). TakesAll (records_bytes c.args.frames.now (numbers zs)) (g.K.Sink.taken c.args.sink.now) (g.K.Sink.taken c.loop-start.sink))
    (all_zones c.args.zones.now told.result.now c.loop-start.start-index told.ensures.pairs c.loop-start-test.false) c.loop-start.invariant.so_far)
