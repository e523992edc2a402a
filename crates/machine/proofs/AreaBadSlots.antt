-- Whether an area's bad slots are exactly those of a slot table.
use Rattle.std.proofs.Common.{◌≡◌, ◌<◌, ℕ, Bool, true, false, not, eqb, cond, List, ◌∷◌, length, take, min, get_or, refl, sym, ap, ◌∙◌, subst, inl, inr, arith}
use Rattle.std.proofs.lemmas.Bool.{eqb-true, eq-eqb, false≢true}
use Rattle.std.proofs.lemmas.List.{get_or_default, take_min}
use Rattle.std.specs.List.{range_with_len}
use Rattle.definitions.proofs.Ascending.{Contains-tail, Contains-cons_cases}
use Rattle.definitions.proofs.ZoneNumbers.{Contains-range, range-bounds}
use Rattle.image_format.specs.declared.signature.area.Area.{Area}
use Rattle.plain_machine.specs.Loader.{has}
use Rattle.plain_machine.specs.Machine.{Hardware, Memory, bad_slot, raw_slot_entry}
use Rattle.plain_machine.specs.UsableArea.{bad_slots_of, has_bad_slots_of}
use Rattle.machine.proofs.ListTests.{all_each, each_all}
use Rattle.machine.proofs.Rows.{any_Contains, any_true}

-- each bad slot of the machine's slot table is in a list, and each slot of the list that the table has is bad there
abbrev pub AreNamed : Hardware → Memory → List ℕ → Type 0
AreNamed h m named = (s : ℕ) → s < h.slots → raw_slot_entry h m s ≡ bad_slot → has named s ≡ true

abbrev pub AreBad : Hardware → Memory → List ℕ → Type 0
AreBad h m named = (s : ℕ) → s < h.slots → has named s ≡ true → raw_slot_entry h m s ≡ bad_slot

-- two tests agree
agree : (a b : Bool) → (a ≡ true → b ≡ true) → (b ≡ true → a ≡ true) → cond a b (not b) ≡ true
agree true b there back = there refl
agree false true there back = absurd (false≢true (back refl))
agree false false there back = refl

agreeing : (a b : Bool) → cond a b (not b) ≡ true → (a ≡ true → b ≡ true) × (b ≡ true → a ≡ true)
agreeing true b e = (λ t. e, λ t. refl)
agreeing false true e = absurd (false≢true e)
agreeing false false e = (λ t. t, λ t. t)

is_bad_as_named : Hardware → Memory → List ℕ → ℕ → Bool
is_bad_as_named h m named s = cond (eqb (raw_slot_entry h m s) bad_slot) (has named s) (not (has named s))

has_just : (h : Hardware) (m : Memory) (area : Area) → AreNamed h m (bad_slots_of area) → AreBad h m (bad_slots_of area) → has_bad_slots_of h m area ≡ true
unfolding is_bad_as_named
has_just h m area named bad =
    each_all (is_bad_as_named h m (bad_slots_of area)) (range_with_len 0 h.slots) (λ s in'.
    let bounds = range-bounds 0 h.slots s in' in
    let below = bounds.1 in
    let lt : s < h.slots = omega arith in
    agree (eqb (raw_slot_entry h m s) bad_slot) (has (bad_slots_of area) s) (λ e. named s lt (eqb-true (raw_slot_entry h m s) bad_slot e)) (λ e. eq-eqb (raw_slot_entry h m s) bad_slot (bad s lt e)))

just_has : (h : Hardware) (m : Memory) (area : Area) → has_bad_slots_of h m area ≡ true → AreNamed h m (bad_slots_of area) × AreBad h m (bad_slots_of area)
unfolding is_bad_as_named
just_has h m area all =
    let here : (s : ℕ) → s < h.slots → is_bad_as_named h m (bad_slots_of area) s ≡ true =
    λ s lt. all_each (is_bad_as_named h m (bad_slots_of area)) (range_with_len 0 h.slots) s all (Contains-range 0 h.slots s (omega arith) (omega arith)) in (
      λ s lt e. (agreeing (eqb (raw_slot_entry h m s) bad_slot) (has (bad_slots_of area) s) (here s lt)).0 (eq-eqb (raw_slot_entry h m s) bad_slot e),
      λ s lt e. eqb-true (raw_slot_entry h m s) bad_slot ((agreeing (eqb (raw_slot_entry h m s) bad_slot) (has (bad_slots_of area) s) (here s lt)).1 e),
    )

-- both parts
pub decides_bad_slots : (h : Hardware) (m : Memory) (area : Area) (b : Bool) → (b ≡ true → AreNamed h m (bad_slots_of area) × AreBad h m (bad_slots_of area)) → (AreNamed h m (bad_slots_of area) → AreBad h m (bad_slots_of area) → b ≡ true) → b ≡ has_bad_slots_of h m area
decides_bad_slots h m area true sound whole = let both = sound refl in sym (has_just h m area both.0 both.1)
decides_bad_slots h m area false sound whole = not_true (has_bad_slots_of h m area) (λ e. let both = just_has h m area e in false≢true (whole both.0 both.1)) where
  not_true : (b : Bool) → (b ≡ true → ⊥) → false ≡ b
  not_true true never = absurd (never refl)
  not_true false never = refl

-- slot 0 and those of a list, by their places
pub bad_by_place : (h : Hardware) (m : Memory) (named : List ℕ) → (0 < h.slots → raw_slot_entry h m 0 ≡ bad_slot) →
    ((k : ℕ) → k < length named → get_or named k 0 < h.slots → raw_slot_entry h m (get_or named k 0) ≡ bad_slot) → AreBad h m (0 ∷ named)
bad_by_place h m named first rest s lt e =
    let P : ℕ → Type 0 = λ t. t < h.slots → raw_slot_entry h m t ≡ bad_slot in
    elim (Contains-cons_cases 0 named s (any_Contains (0 ∷ named) s e)) [
      | inl zero_is ↦ subst P zero_is first lt
      | inr at ↦ subst P (get_or_default named at.0 0 s at.1 ∙ at.2) (rest at.0 at.1) lt
    ]

-- a slot that isn't bad
pub place_is_named : (named : List ℕ) (k : ℕ) → k < length named → has (0 ∷ named) (get_or named k 0) ≡ true
place_is_named named k lt = any_true (0 ∷ named) (get_or named k 0) (Contains-tail 0 named (get_or named k 0) (k, lt, get_or_default named k (get_or named k 0) 0 lt))

-- the first of a list, of no more than it has
pub take_within : (count : ℕ) (bad : List ℕ) → length bad ≡ 630 → take (min count 630) bad ≡ take count bad
take_within count bad size = ap (λ (n : ℕ). take (min count n) bad) (sym size) ∙ take_min count bad
