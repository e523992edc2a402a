-- The first extent of a list that isn't in order.
use Rattle.std.proofs.Common.{◌≡◌, ℕ, ◌+◌, ◌<◌, ◌≤◌, ◌⊎◌, Bool, true, false, not, eqb, leb, ltb, ◌&&◌, ◌||◌, List, length, refl, sym, inl, inr, ⊎_elim, arith}
use Rattle.std.proofs.lemmas.Bool.{cases_Bool, cases_eq, eq-eqb, ne_eqb}
use Rattle.std.proofs.lemmas.Bool.Decides.{Decides-and, Decides-or, Decides-not, Decides-like, Decides-ltb, Decides-eqb}
use Rattle.std.specs.Bool.{Decides}
use Rattle.definitions.specs.Slots.{extent_at, slots_before, slots_of}
use Rattle.definitions.specs.FileMaps.{LieApart, IsExtentFault, IsFileMap, IsInOrder}
use Rattle.machine.specs.HardFault.{each_below, is_extent, lie_apart}
use Rattle.machine.proofs.ListTests.{Decides-below, Decides-leb}

decides_apart : (e f : ℕ × ℕ × ℕ) → Decides (lie_apart e f) (LieApart e f)
decides_apart e f = Decides-or (leb (e.2 + e.1) f.2) (leb (f.2 + f.1) e.2) (Decides-leb (e.2 + e.1) f.2) (Decides-leb (f.2 + f.1) e.2)

abbrev InParts : List (ℕ × ℕ × ℕ) → ℕ → Type 0
InParts extents i =
    (((((extent_at extents i).0 ≡ slots_before extents i) × (0 < (extent_at extents i).1)) × ((extent_at extents i).2 + (extent_at extents i).1 ≤ 4294967295))
    × ((j : ℕ) → j < i → LieApart (extent_at extents j) (extent_at extents i)))
    × (((extent_at extents i).2 ≡ 0 → ⊥) ⊎ ((extent_at extents i).0 ≡ 0))

from_parts : (extents : List (ℕ × ℕ × ℕ)) (i : ℕ) → InParts extents i → IsInOrder extents i
from_parts extents i is = record {
  start = is.0.0.0.0;
  some = let some = is.0.0.0.1 in omega (arith, some);
  fits = is.0.0.1;
  apart = is.0.1;
  header = λ none. ⊎_elim (λ never. absurd (never none)) (λ first. first) is.1;
}

to_parts : (extents : List (ℕ × ℕ × ℕ)) (i : ℕ) → IsInOrder extents i → InParts extents i
to_parts extents i is = (
  (((is.start, (let some = is.some in let lt : 0 < (extent_at extents i).1 = omega (arith, some) in lt)), is.fits), is.apart),
  elim (cases_eq (extent_at extents i).2 0) [ inl none ↦ inr (is.header none) | inr some_block ↦ inl some_block ],
)

pub decides_order : (extents : List (ℕ × ℕ × ℕ)) (i : ℕ) → Decides (is_extent extents i) (IsInOrder extents i)
decides_order extents i =
    let e = extent_at extents i in
    let start = eqb e.0 (slots_before extents i) in
    let some = ltb 0 e.1 in
    let fits = leb (e.2 + e.1) 4294967295 in
    let apart = each_below i (λ j. lie_apart (extent_at extents j) e) in
    let header = not (eqb e.2 0) || eqb e.0 0 in
    Decides-like (is_extent extents i) (from_parts extents i) (to_parts extents i)
    (Decides-and (start && some && fits && apart) header
    (Decides-and (start && some && fits) apart
    (Decides-and (start && some) fits (Decides-and start some (Decides-eqb e.0 (slots_before extents i)) (Decides-ltb 0 e.1)) (Decides-leb (e.2 + e.1) 4294967295))
    (Decides-below i (λ j. lie_apart (extent_at extents j) e) (λ j. LieApart (extent_at extents j) e) (λ j lt. decides_apart (extent_at extents j) e)))
    (Decides-or (not (eqb e.2 0)) (eqb e.0 0) (Decides-not (eqb e.2 0) (Decides-eqb e.2 0)) (Decides-eqb e.0 0)))

order_false : (extents : List (ℕ × ℕ × ℕ)) (i : ℕ) → (IsInOrder extents i → ⊥) → is_extent extents i ≡ false
order_false extents i never = elim (cases_Bool (is_extent extents i)) [ inl is ↦ absurd (never ((decides_order extents i).0 is)) | inr is ↦ is ]

-- a file map's extents are in order
pub map_in_order : (extents : List (ℕ × ℕ × ℕ)) (slots : ℕ) → IsFileMap extents slots → (i : ℕ) → i < length extents → is_extent extents i ≡ true
map_in_order extents slots h i lt = (decides_order extents i).1 (h.each i lt)

-- what a fault of extents means, if there is at least one and at most 64 are there
pub fault_within : (extents : List (ℕ × ℕ × ℕ)) (slots at : ℕ) → length extents ≤ 64 → at < length extents → IsExtentFault extents slots at → is_extent extents at ≡ false
fault_within extents slots at few lt (inl h) = absurd (⊎_elim (λ none. omega (arith, none, lt)) (λ many. omega (arith, many, few)) h.0)
fault_within extents slots at few lt (inr (inl h)) = order_false extents at h.3
fault_within extents slots at few lt (inr (inr h)) = absurd (omega (arith, h.1, lt))

pub fault_behind : (extents : List (ℕ × ℕ × ℕ)) (slots at : ℕ) → length extents ≤ 64 → length extents ≤ at → IsExtentFault extents slots at → (j : ℕ) → j < length extents → is_extent extents j ≡ true
fault_behind extents slots at few le (inl h) j lt = absurd (⊎_elim (λ none. omega (arith, none, lt)) (λ many. omega (arith, many, few)) h.0)
fault_behind extents slots at few le (inr (inl h)) j lt = absurd (omega (arith, h.1, le))
fault_behind extents slots at few le (inr (inr h)) j lt = (decides_order extents j).1 (h.2 j (omega (arith, h.1, lt)))

-- where all are in order the fault is that they don't cover the slots
pub fault_of_cover : (extents : List (ℕ × ℕ × ℕ)) (slots at : ℕ) → 1 ≤ length extents → length extents ≤ 64 → length extents ≤ at → IsExtentFault extents slots at → (slots_of extents ≡ slots → ⊥)
fault_of_cover extents slots at some few le (inl h) = absurd (⊎_elim (λ none. omega (arith, none, some)) (λ many. omega (arith, many, few)) h.0)
fault_of_cover extents slots at some few le (inr (inl h)) = absurd (omega (arith, h.1, le))
fault_of_cover extents slots at some few le (inr (inr h)) = h.3

-- extents that are each in order are a file map if and only if they cover the slots
pub covers_is : (extents : List (ℕ × ℕ × ℕ)) (slots : ℕ) (b : Bool) → 1 ≤ length extents → length extents ≤ 64 → ((j : ℕ) → j < length extents → is_extent extents j ≡ true) → (b ≡ true → IsFileMap extents slots) → (IsFileMap extents slots → b ≡ true) → b ≡ eqb (slots_of extents) slots
covers_is extents slots true some few each sound whole = sym (eq-eqb (slots_of extents) slots ((sound refl).covers))
covers_is extents slots false some few each sound whole =
    sym (ne_eqb (slots_of extents) slots
    (λ e. let both : false ≡ true = whole (record { count = record { some = some; few = few }; each = λ i lt. (decides_order extents i).0 (each i lt); covers = e }) in absurd (grind (arith, both))))
