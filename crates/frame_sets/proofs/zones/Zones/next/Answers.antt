use Rattle.std.proofs.Common.{◌≡◌, ℕ, ◌<◌, ◌≤◌, max, List, length, Some, None, ap, inl, inr, arith}
use Rattle.std.proofs.lemmas.Bool.{cases_lt}
use Rattle.definitions.specs.Zones.{numbers, first_from, zone_end, zone_at}
use Rattle.definitions.specs.ZoneFacts.{AreZones}
use Rattle.definitions.proofs.Ascending.{first_from-some, first_from-none}
use Rattle.definitions.proofs.ZoneNumbers.{IsStrictlyIncreasing-numbers, Contains-numbers, zone_of, zones_apart}
use Rattle.frame_sets.specs.KeptZones.{kept_zones}
use Rattle.frame_sets.proofs.zones.Zones.next.Goals as goal

-- the zones before zone j lie below p, and zone j doesn't
first_in_zone : (zones : List (ℕ × ℕ)) (j p : ℕ) → AreZones zones → j < length zones → ((i : ℕ) → i < j → zone_end (zone_at zones i) ≤ p) → p < zone_end (zone_at zones j) → first_from (numbers zones) p ≡ Some (max p (zone_at zones j).0)
first_in_zone zones j p h l before here =
    let each = h.each j (0, 0) l in
    first_from-some (numbers zones) p (max p (zone_at zones j).0)
    (IsStrictlyIncreasing-numbers zones h.apart)
    (Contains-numbers zones j (max p (zone_at zones j).0) l (omega arith) (omega (arith, each.0)))
    (omega arith)
    (λ r in' le.
    let at = zone_of zones r in' in
    let i = at.0 in
    let from = at.1.from in
    let below = at.1.below in
    let within = at.1.within in
    elim (cases_lt i j) [
      | inl lt ↦ absurd (let no = before i lt in omega arith)
      | inr ge ↦ elim (cases_lt j i) [
        | inl lt ↦ let over = zones_apart zones h.apart j i lt within in omega arith
        | inr le' ↦ let same : i ≡ j = omega arith in let start = ap (λ k. (zone_at zones k).0) same in omega arith
      ]
    ])

none_in_zones : (zones : List (ℕ × ℕ)) (p : ℕ) → ((i : ℕ) → i < length zones → zone_end (zone_at zones i) ≤ p) → first_from (numbers zones) p ≡ None
none_in_zones zones p below =
    first_from-none (numbers zones) p (λ r in'.
    let at = zone_of zones r in' in
    let b = at.1.below in
    let no = below at.0 at.1.within in
    omega arith)

pub returns-then-p-start-clause-next : goal.returns-then-p-start-clause-next
returns-then-p-start-clause-next c =
    let zones = kept_zones c.self.inside in
    let found = first_in_zone zones c.loop-start.start-index c.args.p c.self.invariant.zones (omega arith) c.loop-start.invariant (omega arith) in
    cc

pub returns-clause-next : goal.returns-clause-next
returns-clause-next c =
    let zones = kept_zones c.self.inside in
    let none = none_in_zones zones c.args.p (λ i l. c.loop-start.invariant i (omega arith)) in
    cc
