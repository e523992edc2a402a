use Rattle.std.proofs.Common.{◌≡◌, ℕ, ◌+◌, ◌<◌, ◌≤◌, length, sym, ap, subst, arith}
use Rattle.std.proofs.lemmas.Bool.{leb-true, le-leb}
use Rattle.definitions.specs.Zones.{zone_end}
use Rattle.definitions.proofs.ZoneWalk.{at_zone}
use Rattle.machine.proofs.ZoneRuns.{reaches_more, reaches_all}
use Rattle.machine.proofs.parts.has_run.Goals as goal

pub loop-zone-preserved : goal.loop-zone-preserved
loop-zone-preserved c =
    let zones = c.args.zones.now in
    let end = c.loop-zone.end in
    let next = c.reach-end.result in
    let told = c.as_slice-zone-items in
    let j = c.loop-zone.zone-index in
    let at = at_zone zones told.result.now j told.ensures.pairs told.ensures.zones c.loop-zone-test.true in
    let Inside : ℕ × ℕ → Type 0 = λ z. z.0 ≤ end → end < zone_end z → next ≡ zone_end z in
    let Outside : ℕ × ℕ → Type 0 = λ z. (z.0 ≤ end → end < zone_end z → ⊥) → next ≡ end in
    reaches_more zones c.args.run.0 end next j at.zones_are at.within c.loop-zone.invariant
    (subst Inside (sym at.zone_is) c.reach-end.ensures.inside) (subst Outside (sym at.zone_is) c.reach-end.ensures.outside)

pub returns : goal.returns
returns c =
    let zones = c.args.zones.now in
    let j = c.loop-zone.zone-index in
    let over : length zones ≤ j = omega (arith, c.loop-zone-test.false, ap length c.as_slice-zone-items.ensures.pairs) in
    let both = reaches_all zones c.args.run.0 c.args.run.1 c.loop-zone.end j over c.loop-zone.invariant in
    let first = c.from.ensures in
    let count = c.from-2.ensures in
    let end = c.from-3.ensures in (
      λ e. both.0 (let le = leb-true (c.from.result + c.from-2.result) c.from-3.result e in omega arith),
      λ all. le-leb (c.from.result + c.from-2.result) c.from-3.result (let le = both.1 all in omega arith),
    )
