use Rattle.std.proofs.Common.{◌≡◌, ℕ, List, ◌++◌, take, sym, ap, ◌∙◌, append_assoc, arith}
use Rattle.std.specs.List.{flat_map}
use Rattle.definitions.specs.Zones.{zone_at}
use Rattle.definitions.proofs.ZoneWalk.{at_zone, all_zones}
use Rattle.dump_file.specs.Written.{number_bytes, zone_bytes}
use Rattle.dump_file.proofs.Numbers.{flat_map-take_more}
use Rattle.dump_file.proofs.write.put_zones.Goals as goal

-- one zone more
zone_more : (head mid new first second : List ℕ) (so_far : List ℕ) → mid ≡ (head ++ so_far) ++ first → new ≡ mid ++ second → new ≡ head ++ (so_far ++ (first ++ second))
zone_more head mid new first second so_far e f =
    f ∙ ap (λ (xs : List ℕ). xs ++ second) e ∙ append_assoc (head ++ so_far) first second ∙ append_assoc head so_far (first ++ second)

pub loop-start-preserved : goal.loop-start-preserved
loop-start-preserved c =
    let zones = c.args.zones.now in
    let told = c.as_slice-start-items in
    let j = c.loop-start.start-index in
    let zone = zone_at told.result.now j in
    let at = at_zone zones told.result.now j told.ensures.pairs told.ensures.zones c.loop-start-test.true in
    let so_far = flat_map zone_bytes (take j zones) in
    record {
      bytes =
          zone_more c.args.head.now c.add_number.new.head c.add_number-in-loop-start.new.head (number_bytes zone.0) (number_bytes zone.1) so_far
          (c.add_number.ensures.added ∙ ap (λ (xs : List ℕ). xs ++ number_bytes zone.0) c.loop-start.invariant.bytes)
          c.add_number-in-loop-start.ensures.added
          ∙ ap (λ (z : ℕ × ℕ). c.args.head.now ++ (so_far ++ zone_bytes z)) (sym at.zone_is)
          ∙ ap (λ (xs : List ℕ). c.args.head.now ++ xs) (sym (flat_map-take_more zone_bytes zones j (0, 0) at.within));
      len = omega (arith, c.add_number.ensures.len, c.add_number-in-loop-start.ensures.len, c.loop-start.invariant.len);
    }

pub returns-clause-bytes : goal.returns-clause-bytes
returns-clause-bytes c =
    let told = c.as_slice-start-items in
    c.loop-start.invariant.bytes
    ∙ ap (λ (zs : List (ℕ × ℕ)). c.args.head.now ++ flat_map zone_bytes zs) (all_zones c.args.zones.now told.result.now c.loop-start.start-index told.ensures.pairs c.loop-start-test.false)
