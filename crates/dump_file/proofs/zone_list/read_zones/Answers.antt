use Rattle.std.proofs.Common.{◌≡◌, ◌<◌, ◌+◌, ◌*◌, ℕ, true, false, Err, length, take, map, refl, sym, ap, ◌∙◌, subst, arith}
use Rattle.std.proofs.Math.ListN.{set}
use Rattle.std.proofs.lemmas.List.{length-set}
use Rattle.std.proofs.lemmas.Result.{err_from_is_err_and}
use Rattle.std.specs.List.{range_with_len}
use Rattle.definitions.specs.ZoneFacts.{AreZones}
use Rattle.dump_file.specs.Fields.{map_byte, zone, zone_byte}
use Rattle.dump_file.specs.declared.dump.DumpKind.TheVariants.{Zone}
use Rattle.dump_file.proofs.HeadZones.{zone_short, zone_wrong, zones_right}
use Rattle.dump_file.proofs.Items.{grown}
use Rattle.dump_file.proofs.Refused.{at_place, goes_on, refuses, stops, told_zone}
use Rattle.dump_file.proofs.zone_list.read_zones.Goals as goal

pub returns-in_err-pair-clause-read : goal.returns-in_err-pair-clause-read
returns-in_err-pair-clause-read g c bytes h count =
    let p = err_from_is_err_and c.from_residual.result c.from_residual.ensures.1 in
    let inv = c.loop-j.invariant in
    let j = c.loop-j.j in
    let here = inv.read bytes h in
    stops _ _ _ (c.in_err-pair.ensures.read bytes here) (p.1 ∙ ap Err p.2)
    (λ f e. zone_short bytes (take j c.loop-j.pairs) j f (inv.so_far bytes h) (omega (arith, count, c.loop-j-test.true)) here.within inv.are e)

pub returns-then-not-are_zones-clause-read : goal.returns-then-not-are_zones-clause-read
returns-then-not-are_zones-clause-read g c bytes h count =
    let inv = c.loop-j.invariant in
    let j = c.loop-j.j in
    let pairs = c.loop-j.pairs in
    let v = c.in_ok-pair.pair in
    let here = inv.read bytes h in
    let next = (c.in_ok-pair.ensures.read bytes here).right refl in
    let there = next.1.within in
    let more = grown (zone bytes) pairs j v (omega (arith, inv.long, c.requires.few, c.loop-j-test.true)) (inv.so_far bytes h) (c.in_ok-pair.ensures.pair bytes here) in
    refuses bytes _ _ (424 + 8 * j + 8) (record { kind = Zone; at = 424 + 8 * j }) c.fault.result _ c.fault.ensures
    (zone_wrong bytes (take j pairs) (take (j + 1) (set pairs j v)) j (inv.so_far bytes h) more (omega (arith, count, c.loop-j-test.true)) (omega (arith, count, c.requires.few)) (omega (arith, there)) inv.are
    (λ are. let both : true ≡ false = sym (c.are_zones.ensures.1 are) ∙ c.if-not-are_zones.true in absurd (grind (arith, both))))
    (told_zone bytes (424 + 8 * j) (omega arith)) next.1

pub loop-j-preserved : goal.loop-j-preserved
loop-j-preserved g c =
    let inv = c.loop-j.invariant in
    let j = c.loop-j.j in
    let pairs = c.loop-j.pairs in
    let v = c.in_ok-pair.pair in
    let within : j < length pairs = omega (arith, inv.long, c.requires.few, c.loop-j-test.true) in
    record {
      long = length-set pairs j v ∙ inv.long;
      are = λ some. c.are_zones.ensures.0 c.if-not-are_zones.false;
      read =
          λ bytes h.
          let place : 424 + 8 * j + 8 ≡ zone_byte (j + 1) = omega arith in
          at_place bytes (424 + 8 * j + 8) (zone_byte (j + 1)) (g.S.Source.remaining c.read_pair.new.source) place ((c.in_ok-pair.ensures.read bytes (inv.read bytes h)).right refl).1;
      so_far = λ bytes h. grown (zone bytes) pairs j v within (inv.so_far bytes h) (c.in_ok-pair.ensures.pair bytes (inv.read bytes h));
      counted = omega (arith, inv.counted, c.read_pair.ensures.counted);
    }

pub returns-clause-read : goal.returns-clause-read
returns-clause-read g c bytes h count =
    let inv = c.loop-j.invariant in
    let j = c.loop-j.j in
    let here = inv.read bytes h in
    let all : j ≡ c.args.count = omega (arith, c.loop-j-test.false, c.loop-j.auto.j-end) in
    goes_on _ _ _ _ _ (zones_right bytes (take j c.loop-j.pairs) j (inv.so_far bytes h) (all ∙ count) here.within inv.are)
    (at_place bytes (zone_byte j) (map_byte bytes) (g.S.Source.remaining c.loop-j.source) (ap zone_byte (all ∙ count)) here)

pub returns-clause-zones : goal.returns-clause-zones
returns-clause-zones g c bytes h count =
    let inv = c.loop-j.invariant in
    let j = c.loop-j.j in
    let all : j ≡ c.args.count = omega (arith, c.loop-j-test.false, c.loop-j.auto.j-end) in
    ap (λ (n : ℕ). take n c.loop-j.pairs) (sym all) ∙ inv.so_far bytes h ∙ ap (λ (n : ℕ). map (zone bytes) (range_with_len 0 n)) (all ∙ count)

pub returns-clause-are_zones : goal.returns-clause-are_zones
returns-clause-are_zones g c =
    let all : c.loop-j.j ≡ c.args.count = omega (arith, c.loop-j-test.false, c.loop-j.auto.j-end) in
    subst (λ (n : ℕ). AreZones (take n c.loop-j.pairs)) all (c.loop-j.invariant.are (omega (arith, all, c.requires.some)))
