use Rattle.std.proofs.Common.{ℕ, List, ◌++◌, ◌∷◌, [], length, map, sym, ap, ◌∙◌, arith}
use Rattle.definitions.proofs.ZoneWalk.{at_zone, all_zones}
use Rattle.dump_tools.specs.Facts.{zone_fact}
use Rattle.byte_streams.proofs.Joined.{mapped_more}
use Rattle.dump_tools.proofs.facts.layout.add_zones.Goals as goal

pub add-requires : goal.add-requires
add-requires c =
    let told = c.as_slice-start-items in
    let at = at_zone c.args.zones.now told.result.now c.loop-start.start-index told.ensures.pairs told.ensures.zones c.loop-start-test.true in
    omega (arith, at.within, at.zones_are.few, c.requires, c.loop-start.invariant.len)

pub loop-start-preserved : goal.loop-start-preserved
loop-start-preserved c =
    let zones = c.args.zones.now in
    let told = c.as_slice-start-items in
    let j = c.loop-start.start-index in
    let at = at_zone zones told.result.now j told.ensures.pairs told.ensures.zones c.loop-start-test.true in
    record {
      added = mapped_more zone_fact zones j (0, 0) c.args.facts.now c.loop-start.facts c.add.new.self at.within c.loop-start.invariant.added
          (c.add.ensures.added ∙ ap (λ (z : ℕ × ℕ). c.loop-start.facts ++ zone_fact z ∷ []) (sym at.zone_is));
      len = omega (arith, c.add.ensures.len, c.loop-start.invariant.len);
    }

pub returns-clause-added : goal.returns-clause-added
returns-clause-added c =
    let told = c.as_slice-start-items in
    c.loop-start.invariant.added
    ∙ ap (λ (zs : List (ℕ × ℕ)). c.args.facts.now ++ map zone_fact zs) (all_zones c.args.zones.now told.result.now c.loop-start.start-index told.ensures.pairs c.loop-start-test.false)

pub returns-clause-len : goal.returns-clause-len
returns-clause-len c =
    let told = c.as_slice-start-items in
    omega (arith, c.loop-start.invariant.len, c.loop-start.auto.start-index-end, ap length told.ensures.pairs, told.ensures.zones.few)
