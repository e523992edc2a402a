-- Sets of page frames to which one is added.
use Rattle.std.proofs.Common.{◌≡◌, ℕ, [], length, get_or, subst, sym, ap, inl, inr, arith}
use Rattle.std.proofs.lemmas.List.{get_or_default}
use Rattle.std.proofs.lemmas.List.Elements.{All-contains}
use Rattle.std.specs.List.{Contains}
use Rattle.std.specs.List.Sorted.{IsStrictlyIncreasing}
use Rattle.definitions.specs.FrameSets.{inserted}
use Rattle.definitions.specs.Zones.{numbers}
use Rattle.definitions.specs.ZoneFacts.{AreZones}
use Rattle.definitions.proofs.FrameSets.{Contains-from_inserted, IsStrictlyIncreasing-inserted}
use Rattle.frame_sets.specs.FrameSet.{FrameSet, IsFrameSet}

pub no_members : (set : FrameSet) → AreZones set.zones → set.members ≡ [] → IsFrameSet set
no_members set zones none = record {
  zones = zones;
  ascending = subst IsStrictlyIncreasing (sym none) empty;
  valid = λ k d lt. absurd (let none_at = ap length none in let short : length set.members ≡ 0 = none_at in let r : ⊥ = omega arith in r);
} where
  empty : IsStrictlyIncreasing []
  empty = λ k lt. absurd (let r : ⊥ = omega arith in r)

pub one_added : (set : FrameSet) (p : ℕ) → IsFrameSet set → Contains (numbers set.zones) p →
    IsFrameSet (record set { members = inserted set.members p })
one_added set p is valid = record {
  zones = is.zones;
  ascending = IsStrictlyIncreasing-inserted set.members p is.ascending;
  valid = λ k d lt.
      let q = get_or (inserted set.members p) k d in
      elim (Contains-from_inserted set.members p q (k, lt, get_or_default (inserted set.members p) k q d lt)) [
        | inl here ↦ subst (Contains (numbers set.zones)) (sym here) valid
        | inr old ↦ All-contains (Contains (numbers set.zones)) set.members q is.valid old
      ];
}
