-- How far the page frames from a number on are valid, zone by zone.
use Rattle.std.proofs.Common.{◌≡◌, ℕ, ◌+◌, ◌<◌, ◌≤◌, List, length, ◌↔◌, sym, ap, subst, inl, inr, arith}
use Rattle.std.proofs.lemmas.Bool.{cases_lt}
use Rattle.std.specs.List.{Contains}
use Rattle.definitions.specs.Zones.{numbers, zone_at, zone_end}
use Rattle.definitions.specs.ZoneFacts.{AreZones}
use Rattle.definitions.proofs.ZoneNumbers.{Contains-numbers, zone_of, zones_apart}

-- the page frames from `first` to `end` are valid, and none of the first j zones has page frame `end`
pub record Reaches (zones : List (ℕ × ℕ)) (first end j : ℕ) : Type 0 where
  pub from : first ≤ end
  pub valid : (p : ℕ) → first ≤ p → p < end → Contains (numbers zones) p
  pub outside : (i : ℕ) → i < j → (zone_at zones i).0 ≤ end → end < zone_end (zone_at zones i) → ⊥

pub reaches_none : (zones : List (ℕ × ℕ)) (first : ℕ) → Reaches zones first first 0
reaches_none zones first = record {
  from = omega arith;
  valid = λ p from below. absurd (omega arith);
  outside = λ i lt from below. absurd (omega arith);
}

-- zone j has page frame `end`
inside : (zones : List (ℕ × ℕ)) (first end j : ℕ) → AreZones zones → j < length zones → Reaches zones first end j → (zone_at zones j).0 ≤ end → end < zone_end (zone_at zones j) → Reaches zones first (zone_end (zone_at zones j)) (j + 1)
inside zones first end j h within reaches from below =
    let start = reaches.from in
    record {
      from = omega arith;
      valid = λ p low high. elim (cases_lt p end) [
        | inl lt ↦ reaches.valid p low lt
        | inr ge ↦ Contains-numbers zones j p within (omega arith) high
      ];
      outside = λ i lt low high. elim (cases_lt i j) [
        | inl before ↦ let over = zones_apart zones h.apart i j before within in omega arith
        | inr ge ↦ let same : i ≡ j = omega arith in let end_is = ap (λ (k : ℕ). zone_end (zone_at zones k)) same in omega arith
      ];
    }

-- zone j doesn't have page frame `end`
outside : (zones : List (ℕ × ℕ)) (first end j : ℕ) → Reaches zones first end j → ((zone_at zones j).0 ≤ end → end < zone_end (zone_at zones j) → ⊥) → Reaches zones first end (j + 1)
outside zones first end j reaches out = record {
  from = reaches.from;
  valid = reaches.valid;
  outside = λ i lt. elim (cases_lt i j) [
    | inl before ↦ reaches.outside i before
    | inr ge ↦
        let same : j ≡ i = omega arith in
        subst (λ (k : ℕ). (zone_at zones k).0 ≤ end → end < zone_end (zone_at zones k) → ⊥) same out
  ];
}

pub reaches_more : (zones : List (ℕ × ℕ)) (first end end' j : ℕ) → AreZones zones → j < length zones → Reaches zones first end j →
    ((zone_at zones j).0 ≤ end → end < zone_end (zone_at zones j) → end' ≡ zone_end (zone_at zones j)) →
    (((zone_at zones j).0 ≤ end → end < zone_end (zone_at zones j) → ⊥) → end' ≡ end) → Reaches zones first end' (j + 1)
reaches_more zones first end end' j h within reaches if_inside if_outside =
    let P : ℕ → Type 0 = λ e. Reaches zones first e (j + 1) in
    elim (cases_lt end (zone_at zones j).0) [
      | inl low ↦ let out : (zone_at zones j).0 ≤ end → end < zone_end (zone_at zones j) → ⊥ = λ from below. omega arith in subst P (sym (if_outside out)) (outside zones first end j reaches out)
      | inr from ↦ elim (cases_lt end (zone_end (zone_at zones j))) [
        | inl below ↦ subst P (sym (if_inside from below)) (inside zones first end j h within reaches from below)
        | inr high ↦ let out : (zone_at zones j).0 ≤ end → end < zone_end (zone_at zones j) → ⊥ = λ from' below. omega arith in subst P (sym (if_outside out)) (outside zones first end j reaches out)
      ]
    ]

-- after the last zone: a run from `first` on is valid if and only if it ends at `end` or before
pub reaches_all : (zones : List (ℕ × ℕ)) (first count end j : ℕ) → length zones ≤ j → Reaches zones first end j → (first + count ≤ end) ↔ ((p : ℕ) → first ≤ p → p < first + count → Contains (numbers zones) p)
reaches_all zones first count end j over reaches = (
  λ le p from below. reaches.valid p from (omega arith),
  λ all. elim (cases_lt end (first + count)) [
    | inr le ↦ le
    | inl lt ↦
        let at = zone_of zones end (all end reaches.from lt) in
        let within = at.1.within in
        absurd (reaches.outside at.0 (omega arith) at.1.from at.1.below)
  ],
)
