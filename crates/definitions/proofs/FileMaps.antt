-- Laws of file maps: which extent a slot lies in, and on which block.
use Rattle.std.proofs.Common.{◌≡◌, ℕ, ◌+◌, ◌-◌, ◌<◌, ◌≤◌, ◌⊎◌, zero, suc, List, [], ◌∷◌, length, ltb, refl, sym, ap, ◌∙◌, subst, inl, inr, ⊎_elim, arith}
use Rattle.std.proofs.lemmas.Bool.{cases_lt, cases_order, cond-true, cond-false, lt-ltb, le-ltb}
use Rattle.definitions.specs.Slots.{block_of, extent_at, extent_end, slots_before, slots_of}
use Rattle.definitions.specs.FileMaps.{IsInOrder, IsFileMap, LieApart, AreFew, IsExtentFault}

-- A slot's block is given by the last extent that doesn't start above the slot.
pub block_of-extent : (extents : List (ℕ × ℕ × ℕ)) (i s : ℕ) → i < length extents → ((j : ℕ) → j < i → (extent_at extents (suc j)).0 ≤ s) → (suc i < length extents → s < (extent_at extents (suc i)).0) → block_of extents s ≡ (extent_at extents i).2 + (s - (extent_at extents i).0)
block_of-extent [] i s within below above = absurd (omega arith)
block_of-extent (e ∷ []) zero s within below above = refl
block_of-extent (e ∷ []) (suc i) s within below above = absurd (omega arith)
block_of-extent (e ∷ next ∷ extents) zero s within below above =
    cond-true (ltb s next.0) (e.2 + (s - e.0)) (block_of (next ∷ extents) s) (lt-ltb s next.0 (above (omega arith)))
block_of-extent (e ∷ next ∷ extents) (suc i) s within below above =
    cond-false (ltb s next.0) (e.2 + (s - e.0)) (block_of (next ∷ extents) s) (le-ltb s next.0 (below 0 (omega arith)))
    ∙ block_of-extent (next ∷ extents) i s (omega arith) (λ j lt. below (suc j) (omega arith)) (λ lt. above (omega arith))

-- Extents that are in order.

-- each begins at or above the end of an extent before
pub ends_before : (extents : List (ℕ × ℕ × ℕ)) (j i : ℕ) → ((k : ℕ) → k < length extents → IsInOrder extents k) → j < i → i < length extents → extent_end (extent_at extents j) ≤ (extent_at extents i).0
ends_before extents j zero each lt within = absurd (omega arith)
ends_before extents j (suc i) each lt within =
    let start = (each (suc i) within).start in
    elim (cases_lt j i) [
      | inl below ↦ let le = ends_before extents j i each below (omega arith) in omega arith
      | inr ge ↦ let same : j ≡ i = omega arith in let end = ap (λ (k : ℕ). extent_end (extent_at extents k)) same in omega arith
    ]

-- extent i has slot s
pub record HasSlot (extents : List (ℕ × ℕ × ℕ)) (i s : ℕ) : Type 0 where
  pub within : i < length extents
  pub from : (extent_at extents i).0 ≤ s
  pub below : s < extent_end (extent_at extents i)

-- each slot lies in an extent
has_slot : (extents : List (ℕ × ℕ × ℕ)) (n s : ℕ) → ((k : ℕ) → k < length extents → IsInOrder extents k) → n ≤ length extents → s < slots_before extents n → (i : ℕ) × HasSlot extents i s
has_slot extents zero s each le lt = absurd (omega arith)
has_slot extents (suc n) s each le lt =
    let start = (each n (omega arith)).start in
    elim (cases_lt s (extent_at extents n).0) [
      | inl low ↦ has_slot extents n s each (omega arith) (omega arith)
      | inr ge ↦ (n, record { within = omega arith; from = ge; below = lt })
    ]

pub extent_of_slot : (extents : List (ℕ × ℕ × ℕ)) (slots s : ℕ) → IsFileMap extents slots → s < slots → (i : ℕ) × HasSlot extents i s
extent_of_slot extents slots s h lt = has_slot extents (length extents) s h.each (omega arith) (let covers = h.covers in omega arith)

-- the block of a slot of extent i
pub block_of-slot : (extents : List (ℕ × ℕ × ℕ)) (slots i s : ℕ) → IsFileMap extents slots → HasSlot extents i s → block_of extents s ≡ (extent_at extents i).2 + (s - (extent_at extents i).0)
block_of-slot extents slots i s h at =
    let within = at.within in
    let from = at.from in
    let below = at.below in
    block_of-extent extents i s within
    (λ j lt. elim (cases_lt (suc j) i) [
      | inl low ↦
          let some = (h.each (suc j) (omega arith)).some in
          let le = ends_before extents (suc j) i h.each low within in
          omega arith
      | inr ge ↦ let same : suc j ≡ i = omega arith in let start = ap (λ (k : ℕ). (extent_at extents k).0) same in omega arith
    ])
    (λ more. let start = (h.each (suc i) more).start in omega arith)

-- a slot of an extent is one of the map's
pub slot_below : (extents : List (ℕ × ℕ × ℕ)) (slots i s : ℕ) → IsFileMap extents slots → HasSlot extents i s → s < slots
slot_below extents slots i s h at =
    let within = at.within in
    let below = at.below in
    let some = h.count.some in
    let n = length extents - 1 in
    let last : length extents ≡ suc n = omega arith in
    let covers : extent_end (extent_at extents n) ≡ slots = ap (slots_before extents) (sym last) ∙ h.covers in
    elim (cases_lt i n) [
      | inl lt ↦ let le = ends_before extents i n h.each lt (omega arith) in omega arith
      | inr ge ↦ let same : i ≡ n = omega arith in let end = ap (λ (k : ℕ). extent_end (extent_at extents k)) same in omega arith
    ]

-- two slots of a map don't share a block
pub block_of-injective : (extents : List (ℕ × ℕ × ℕ)) (slots s t : ℕ) → IsFileMap extents slots → s < slots → t < slots → block_of extents s ≡ block_of extents t → s ≡ t
block_of-injective extents slots s t h s_lt t_lt e =
    let a = extent_of_slot extents slots s h s_lt in
    let b = extent_of_slot extents slots t h t_lt in
    let s_from = a.1.from in
    let s_below = a.1.below in
    let t_from = b.1.from in
    let t_below = b.1.below in
    let s_is = block_of-slot extents slots a.0 s h a.1 in
    let t_is = block_of-slot extents slots b.0 t h b.1 in
    elim (cases_order a.0 b.0) [
      | inl same ↦
          let start = ap (λ (k : ℕ). (extent_at extents k).0) same in
          let block = ap (λ (k : ℕ). (extent_at extents k).2) same in
          omega arith
      | inr apart ↦ elim apart [
        | inl lt ↦ absurd (⊎_elim (λ x. omega arith) (λ x. omega arith) ((h.each b.0 b.1.within).apart a.0 lt))
        | inr gt ↦ absurd (⊎_elim (λ x. omega arith) (λ x. omega arith) ((h.each a.0 a.1.within).apart b.0 gt))
      ]
    ]

-- The fault of extents.

few_enough : (extents : List (ℕ × ℕ × ℕ)) → ((length extents ≡ 0) ⊎ (64 < length extents)) → AreFew extents → ⊥
few_enough extents h few = let some = few.some in let most = few.few in ⊎_elim (λ none. omega arith) (λ many. omega arith) h

-- a file map has none
pub no_fault : (extents : List (ℕ × ℕ × ℕ)) (slots at : ℕ) → IsFileMap extents slots → IsExtentFault extents slots at → ⊥
no_fault extents slots at h fault = elim fault [
  | inl count ↦ few_enough extents count.0 h.count
  | inr rest ↦ elim rest [ inl extent ↦ extent.3 (h.each at extent.1) | inr size ↦ size.3 h.covers ]
]

-- extents have at most one fault
pub same_fault : (extents : List (ℕ × ℕ × ℕ)) (slots a b : ℕ) → IsExtentFault extents slots a → IsExtentFault extents slots b → a ≡ b
same_fault extents slots a b (inl h) (inl g) = omega (arith, h.1, g.1)
same_fault extents slots a b (inl h) (inr (inl g)) = absurd (few_enough extents h.0 g.0)
same_fault extents slots a b (inl h) (inr (inr g)) = absurd (few_enough extents h.0 g.0)
same_fault extents slots a b (inr (inl h)) (inl g) = absurd (few_enough extents g.0 h.0)
same_fault extents slots a b (inr (inl h)) (inr (inl g)) = elim (cases_order a b) [
  | inl e ↦ e
  | inr apart ↦ elim apart [ inl lt ↦ absurd (h.3 (g.2 a lt)) | inr gt ↦ absurd (g.3 (h.2 b gt)) ]
]
same_fault extents slots a b (inr (inl h)) (inr (inr g)) = absurd (h.3 (g.2 a (omega (arith, h.1, g.1))))
same_fault extents slots a b (inr (inr h)) (inl g) = absurd (few_enough extents g.0 h.0)
same_fault extents slots a b (inr (inr h)) (inr (inl g)) = absurd (g.3 (h.2 b (omega (arith, h.1, g.1))))
same_fault extents slots a b (inr (inr h)) (inr (inr g)) = omega (arith, h.1, g.1)
