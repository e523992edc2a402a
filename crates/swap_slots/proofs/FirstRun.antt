-- The first run of the slots from one on.
use Rattle.std.proofs.Common.{◌≡◌, ℕ, ◌+◌, ◌-◌, ◌<◌, ◌≤◌, zero, suc, List, [], ◌∷◌, ◌++◌, leb, Some, None, drop, refl, sym, ap, ◌∙◌, subst, inl, inr, arith}
use Rattle.std.proofs.lemmas.Bool.{cases_lt, le-leb, leb-true}
use Rattle.std.proofs.lemmas.List.Elements.{Contains-append_left, Contains-append_right, Contains-append_cases}
use Rattle.std.proofs.lemmas.List.Kept.{IsStrictlyIncreasing-filter}
use Rattle.std.specs.List.{Contains, range_with_len, slice_get}
use Rattle.std.specs.List.Sorted.{IsStrictlyIncreasing}
use Rattle.definitions.specs.FreeRuns.{runs_of}
use Rattle.definitions.proofs.Ascending.{Contains-nil, IsStrictlyIncreasing-append, same_members}
use Rattle.definitions.proofs.FrameSets.{Contains-filter, Contains-from_filter}
use Rattle.definitions.proofs.SlotRuns.{runs_of-first}
use Rattle.definitions.proofs.ZoneNumbers.{Contains-range, range-bounds, IsStrictlyIncreasing-range}
use Rattle.swap_slots.specs.Runs.{from_slot, IsFirstRun}

Contains-from_slot : (p : ℕ) (slots : List ℕ) (s : ℕ) → p ≤ s → Contains slots s → Contains (from_slot p slots) s
unfolding from_slot
Contains-from_slot p slots s le in' = Contains-filter (λ k. leb p k) slots s in' (le-leb p s le)

slot_from : (p : ℕ) (slots : List ℕ) (s : ℕ) → Contains (from_slot p slots) s → (p ≤ s) × Contains slots s
unfolding from_slot
slot_from p slots s in' = let kept = Contains-from_filter (λ k. leb p k) slots s in' in (leb-true p s kept.1, kept.0)

ascending : (p : ℕ) (slots : List ℕ) → IsStrictlyIncreasing slots → IsStrictlyIncreasing (from_slot p slots)
unfolding from_slot
ascending p slots up = IsStrictlyIncreasing-filter (λ k. leb p k) slots up

pub from_slot-none : (p : ℕ) (slots : List ℕ) → IsStrictlyIncreasing slots → ((s : ℕ) → p ≤ s → Contains slots s → ⊥) → from_slot p slots ≡ []
from_slot-none p slots up none =
    same_members (from_slot p slots) [] (ascending p slots up) (λ k h. absurd (omega arith))
    (λ s in'. let m = slot_from p slots s in' in absurd (none s m.0 m.1))
    (λ s in'. absurd (Contains-nil s in'))

pub from_slot-all : (slots : List ℕ) → IsStrictlyIncreasing slots → from_slot 0 slots ≡ slots
from_slot-all slots up =
    same_members (from_slot 0 slots) slots (ascending 0 slots up) up
    (λ s in'. (slot_from 0 slots s in').1)
    (λ s in'. Contains-from_slot 0 slots s (omega arith) in')

-- No slot from p up to `start` is free, each from there up to `end` is, and `end` isn't.
pub record IsRunFrom (slots : List ℕ) (p start end : ℕ) : Type 0 where
  pub up : IsStrictlyIncreasing slots
  pub at_or_after : p ≤ start
  pub some : start < end
  pub none_before : (s : ℕ) → p ≤ s → s < start → Contains slots s → ⊥
  pub within : (s : ℕ) → start ≤ s → s < end → Contains slots s
  pub none_here : Contains slots end → ⊥

from_slot-run : (slots : List ℕ) (p start end : ℕ) → IsRunFrom slots p start end → from_slot p slots ≡ range_with_len start (end - start) ++ from_slot end slots
from_slot-run slots p start end h =
    let run = range_with_len start (end - start) in
    let rest = from_slot end slots in
    let from = h.at_or_after in
    let some = h.some in
    same_members (from_slot p slots) (run ++ rest) (ascending p slots h.up)
    (IsStrictlyIncreasing-append run rest (IsStrictlyIncreasing-range start (end - start)) (ascending end slots h.up)
    (λ x y x_in y_in. let low = range-bounds start (end - start) x x_in in let high = (slot_from end slots y y_in).0 in omega arith))
    (λ s in'.
    let m = slot_from p slots s in' in
    elim (cases_lt s start) [
      | inl below ↦ absurd (h.none_before s m.0 below m.1)
      | inr ge ↦ elim (cases_lt s end) [
        | inl lt ↦ Contains-append_left run rest s (Contains-range start (end - start) s ge (omega arith))
        | inr past ↦ Contains-append_right run rest s (Contains-from_slot end slots s past m.1)
      ]
    ])
    (λ s in'. elim (Contains-append_cases run rest s in') [
      | inl in_run ↦ let low = range-bounds start (end - start) s in_run in Contains-from_slot p slots s (omega arith) (h.within s low.0 (omega arith))
      | inr in_rest ↦ let m = slot_from end slots s in_rest in Contains-from_slot p slots s (omega arith) m.1
    ])

pub is_first_run : (slots : List ℕ) (p room start end : ℕ) → IsRunFrom slots p start end → end ≤ room → IsFirstRun slots p room (start, end - start)
is_first_run slots p room start end h le =
    let some = h.some in
    let n = end - start - 1 in
    let size : end - start ≡ n + 1 = omega arith in
    let behind : start + (end - start) ≡ end = omega arith in
    let splits : runs_of (from_slot p slots) ≡ (start, end - start) ∷ runs_of (from_slot end slots) =
    ap runs_of (from_slot-run slots p start end h)
    ∙ ap (λ m. runs_of (range_with_len start m ++ from_slot end slots)) size
    ∙ runs_of-first start n (from_slot end slots)
    (λ y in'.
    let m = slot_from end slots y in' in
    elim (cases_lt end y) [
      | inl lt ↦ omega arith
      | inr ge ↦ let same : y ≡ end = let le = m.0 in omega arith in absurd (h.none_here (subst (λ (x : ℕ). Contains slots x) same m.1))
    ])
    ∙ ap (λ m. (start, m) ∷ runs_of (from_slot end slots)) (sym size) in
    record {
      within = omega arith;
      splits = splits ∙ ap (λ q. (start, end - start) ∷ runs_of (from_slot q slots)) (sym behind);
    }

-- Runs one after another.

-- what is left of a list from place i on begins with the element there
pub slice_get-drop : {X : Type 0} (xs : List X) (i : ℕ) (x : X) (rest : List X) → drop i xs ≡ x ∷ rest → slice_get xs i ≡ Some x
slice_get-drop [] zero x rest e = absurd (cc)
slice_get-drop [] (suc i) x rest e = absurd (cc)
slice_get-drop (y ∷ xs) zero x rest e = ap (λ zs. slice_get zs 0) e
slice_get-drop (y ∷ xs) (suc i) x rest e = slice_get-drop xs i x rest e

-- and nothing follows it where that is all
pub slice_get-past_last : {X : Type 0} (xs : List X) (i j : ℕ) (x : X) → drop i xs ≡ x ∷ [] → i < j → slice_get xs j ≡ None
slice_get-past_last [] i zero x e lt = absurd (omega arith)
slice_get-past_last [] i (suc j) x e lt = refl
slice_get-past_last (y ∷ xs) i zero x e lt = absurd (omega arith)
slice_get-past_last (y ∷ xs) zero (suc j) x e lt = let none : xs ≡ [] = cc in ap (λ zs. slice_get zs j) none
slice_get-past_last (y ∷ xs) (suc i) (suc j) x e lt = slice_get-past_last xs i j x e (omega arith)
