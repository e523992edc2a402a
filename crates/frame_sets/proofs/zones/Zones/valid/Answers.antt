use Rattle.std.proofs.Common.{rules, tests, ℕ, ◌<◌, ◌≤◌, ◌↔◌, IsTrue, Bool, true, false, List, length, MatchBool, refl, arith}
use Rattle.std.specs.List.{Contains, HoldsAt, AllWithin}
use Rattle.std.proofs.lemmas.Iterator.{cases_from_any, YieldsList-from_slice}
use Rattle.definitions.specs.Zones.{numbers, zone_end}
use Rattle.definitions.proofs.ZoneNumbers.{Contains-numbers, zone_of}
use Rattle.frame_sets.proofs.zones.Zones.valid.Goals as goal

abbrev Has : ℕ → ℕ × ℕ → Type 0
Has p zone = (zone.0 ≤ p) × (p < zone_end zone)

some_zone_has : (zones : List (ℕ × ℕ)) (p : ℕ) (found : Bool) → MatchBool found ((j : ℕ) × (j < length zones) × HoldsAt (Has p) zones j) (AllWithin (λ zone. Has p zone → ⊥) zones 0 (length zones)) → IsTrue found ↔ Contains (numbers zones) p
some_zone_has zones p true h = (λ _. let at = h.2 (0, 0) in Contains-numbers zones h.0 p h.1 at.0 at.1, λ _. refl)
some_zone_has zones p false h = (λ e. cc, λ in'. let at = zone_of zones p in' in absurd (h at.0 (0, 0) (omega arith) at.1.within (at.1.from, at.1.below)))

pub returns-clause-valid : goal.returns-clause-valid
returns-clause-valid c =
    let p = c.args.p in
    let zones = c.args.self.now in
    some_zone_has zones p c.any.result
    (cases_from_any _ _ _ (Has p) (λ zone. Has p zone → ⊥) c.any.ensures.ran (YieldsList-from_slice zones cc) (λ x q k. search (rules, tests)) (λ x q k. search (rules, tests)))
