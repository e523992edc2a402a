-- Extents in order, one after another, and where a block lies in them.
use Rattle.std.proofs.Common.{◌≡◌, ℕ, ◌+◌, ◌-◌, ◌<◌, ◌≤◌, suc, List, [], ◌∷◌, ◌++◌, length, take, set, replicate, sym, ap, ◌∙◌, subst, arith, append_assoc}
use Rattle.std.proofs.lemmas.List.{length-take-le, get_or-take, take_more, set_at}
use Rattle.definitions.specs.Slots.{block_of, extent_at, slots_before}
use Rattle.definitions.specs.FileMaps.{LieApart, IsInOrder, IsFileMap}
use Rattle.definitions.proofs.FileMaps.{HasSlot, extent_of_slot, block_of-slot, slot_below}
use Rattle.swap_slots.specs.Extents.{Follows}

-- An extent in order, by what the code tests.

pub in_order : (extents : List (ℕ × ℕ × ℕ)) (i end : ℕ) → i < length extents → end ≡ slots_before extents i → Follows end (extent_at extents i) → ((j : ℕ) → j < length (take i extents) → LieApart (extent_at (take i extents) j) (extent_at extents i)) → IsInOrder extents i
in_order extents i end within is follows apart = record {
  start = follows.start ∙ is;
  some = follows.some;
  fits = follows.fits;
  apart = λ j lt.
      let size = length-take-le i extents (omega arith) in
      subst (λ (e : ℕ × ℕ × ℕ). LieApart e (extent_at extents i)) (get_or-take i extents j (0, 0, 0) lt) (apart j (omega arith));
  header = follows.header;
}

pub follows_from : (extents : List (ℕ × ℕ × ℕ)) (i end : ℕ) → end ≡ slots_before extents i → IsInOrder extents i → Follows end (extent_at extents i)
follows_from extents i end is h = record { start = h.start ∙ sym is; some = h.some; fits = h.fits; header = h.header }

pub apart_from : (extents : List (ℕ × ℕ × ℕ)) (i : ℕ) → i < length extents → IsInOrder extents i → (j : ℕ) → j < length (take i extents) → LieApart (extent_at (take i extents) j) (extent_at extents i)
apart_from extents i within h j lt =
    let size = length-take-le i extents (omega arith) in
    let below : j < i = omega arith in
    subst (λ (e : ℕ × ℕ × ℕ). LieApart e (extent_at extents i)) (sym (get_or-take i extents j (0, 0, 0) below)) (h.apart j below)

-- The extents that are kept so far, and zeros up to the end of the array.

pub kept_more : (n i : ℕ) (extents : List (ℕ × ℕ × ℕ)) → i < length extents → i < n → set (take i extents ++ replicate (n - i) (0, 0, 0)) i (extent_at extents i) ≡ take (i + 1) extents ++ replicate (n - (i + 1)) (0, 0, 0)
kept_more n i extents within lt =
    let no_extent : ℕ × ℕ × ℕ = (0, 0, 0) in
    let rest = replicate (n - (i + 1)) no_extent in
    let more : n - i ≡ suc (n - (i + 1)) = omega arith in
    let e = extent_at extents i in
    ap (λ (m : ℕ). set (take i extents ++ replicate m no_extent) i e) more
    ∙ set_at (take i extents) no_extent rest e i (length-take-le i extents (omega arith))
    ∙ sym (append_assoc (take i extents) (e ∷ []) rest)
    ∙ ap (λ (xs : List (ℕ × ℕ × ℕ)). xs ++ rest) (sym (take_more extents i no_extent within))

-- The slot on a block.

-- a block of extent i
pub slot_on : (extents : List (ℕ × ℕ × ℕ)) (slots i block : ℕ) → IsFileMap extents slots → i < length extents → (extent_at extents i).2 ≤ block → block - (extent_at extents i).2 < (extent_at extents i).1 → let s = (extent_at extents i).0 + (block - (extent_at extents i).2) in (s < slots) × (block_of extents s ≡ block)
slot_on extents slots i block h within from below =
    let s = (extent_at extents i).0 + (block - (extent_at extents i).2) in
    let at : HasSlot extents i s = record { within = within; from = omega arith; below = omega arith } in
    let is = block_of-slot extents slots i s h at in
    (slot_below extents slots i s h at, omega arith)

-- a block of no extent
pub no_slot_on : (extents : List (ℕ × ℕ × ℕ)) (slots block : ℕ) → IsFileMap extents slots → ((i : ℕ) → i < length extents → (extent_at extents i).2 ≤ block → block - (extent_at extents i).2 < (extent_at extents i).1 → ⊥) → (s : ℕ) → s < slots → block_of extents s ≡ block → ⊥
no_slot_on extents slots block h none s lt e =
    let at = extent_of_slot extents slots s h lt in
    let is = block_of-slot extents slots at.0 s h at.1 in
    let from = at.1.from in
    let below = at.1.below in
    none at.0 at.1.within (omega arith) (omega arith)
