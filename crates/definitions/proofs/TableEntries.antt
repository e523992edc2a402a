-- Laws of the tables of 4-byte entries in page frames.
use Rattle.std.proofs.Common.{◌≡◌, ℕ, ◌+◌, ◌*◌, ◌/◌, ◌%◌, ◌^◌, ◌<◌, ◌≤◌, ◌⊎◌, List, [], ◌∷◌, ◌++◌, length, get_or, set, refl, sym, ap, ◌∙◌, subst, inl, inr, ⊎_elim, arith}
use Rattle.std.proofs.lemmas.Bool.{cases_eq, cases_lt}
use Rattle.std.proofs.lemmas.List.{length-set, get_or-set_same, get_or-set_other, set-get_or}
use Rattle.std.specs.List.{All, Contains}
use Rattle.definitions.specs.Bytes.{IsPage, number_at, with_number}
use Rattle.definitions.specs.Tables.{frame, with_frame, entry_at, with_entry, with_entries, table_frame_count, HasTable}
use Rattle.definitions.proofs.Ascending.{Contains-nil, Contains-head, Contains-tail, Contains-cons_cases}
use Rattle.definitions.proofs.PageBytes.{length-with_number, number_at-with_number, number_at-with_number_apart}

-- the page frame of an entry is one of memory's
pub entry_frame_within : (frames : List (List ℕ)) (table n k : ℕ) → HasTable frames table n → k < n → table + k / 1024 < length frames
entry_frame_within frames table n k h lt = omega arith

pub length-with_entry : (frames : List (List ℕ)) (table k v : ℕ) → length (with_entry frames table k v) ≡ length frames
unfolding with_entry
length-with_entry frames table k v = length-set frames (table + k / 1024) _

-- An entry that is set is read back, and the others stay.

pub entry_at-with_entry_same : (frames : List (List ℕ)) (table k v : ℕ) → table + k / 1024 < length frames → IsPage (frame frames (table + k / 1024)) → v < 2 ^ 32 → entry_at (with_entry frames table k v) table k ≡ v
unfolding with_entry entry_at
entry_at-with_entry_same frames table k v h page fits =
    let p = table + k / 1024 in
    let at = 4 * (k % 1024) in
    let old = frame frames p in
    ap (λ (bytes : List ℕ). number_at 4 bytes at) (get_or-set_same frames p (with_number 4 old at v) [] h)
    ∙ number_at-with_number 4 old at v (omega arith) (omega arith)

pub entry_at-with_entry_other : (frames : List (List ℕ)) (table k v j : ℕ) → table + k / 1024 < length frames → IsPage (frame frames (table + k / 1024)) → (j ≡ k → ⊥) → entry_at (with_entry frames table k v) table j ≡ entry_at frames table j
unfolding with_entry entry_at
entry_at-with_entry_other frames table k v j h page apart =
    let p = table + k / 1024 in
    let at = 4 * (k % 1024) in
    let new = with_number 4 (frame frames p) at v in
    elim (cases_eq (table + j / 1024) p) [
      | inl e ↦
          let elsewhere : (4 * (j % 1024) + 4 ≤ at) ⊎ (at + 4 ≤ 4 * (j % 1024)) =
          elim (cases_lt (j % 1024) (k % 1024)) [ inl lt ↦ inl (omega arith) | inr ge ↦ inr (omega arith) ] in
          ap (λ (q : ℕ). number_at 4 (frame (set frames p new) q) (4 * (j % 1024))) e
          ∙ ap (λ (bytes : List ℕ). number_at 4 bytes (4 * (j % 1024))) (get_or-set_same frames p new [] h)
          ∙ number_at-with_number_apart 4 4 (frame frames p) at v (4 * (j % 1024)) (omega arith) elsewhere
          ∙ ap (λ (q : ℕ). number_at 4 (frame frames q) (4 * (j % 1024))) (sym e)
      | inr ne ↦ ap (λ (bytes : List ℕ). number_at 4 bytes (4 * (j % 1024))) (get_or-set_other frames p (table + j / 1024) new [] ne)
    ]

-- the page frames other than the entry's stay
pub frame-with_entry_other : (frames : List (List ℕ)) (table k v p : ℕ) → (p ≡ table + k / 1024 → ⊥) → frame (with_entry frames table k v) p ≡ frame frames p
unfolding with_entry
frame-with_entry_other frames table k v p ne = get_or-set_other frames (table + k / 1024) p _ [] ne

-- memory stays pages of 4096 bytes
pub IsPage-with_entry : (frames : List (List ℕ)) (table k v : ℕ) → All IsPage frames → All IsPage (with_entry frames table k v)
unfolding with_entry
IsPage-with_entry frames table k v pages p d h =
    let q = table + k / 1024 in
    let at = 4 * (k % 1024) in
    let within : p < length frames = omega (arith, length-with_entry frames table k v) in
    elim (cases_eq p q) [
      | inl e ↦
          let here : q < length frames = omega arith in
          ap (λ (i : ℕ). length (get_or (set frames q (with_number 4 (frame frames q) at v)) i d)) e
          ∙ ap length (get_or-set_same frames q (with_number 4 (frame frames q) at v) d here)
          ∙ length-with_number 4 (frame frames q) at v (let page = pages q [] here in omega arith) ∙ pages q [] here
      | inr ne ↦ ap length (get_or-set_other frames q p (with_number 4 (frame frames q) at v) d ne) ∙ pages p d within
    ]

-- Several entries that are set.

pub with_entries-none : (frames : List (List ℕ)) (table v : ℕ) → with_entries frames table [] v ≡ frames
unfolding with_entries
with_entries-none frames table v = refl

pub with_entries-more : (frames : List (List ℕ)) (table : ℕ) (ks : List ℕ) (k v : ℕ) → with_entries frames table (ks ++ k ∷ []) v ≡ with_entry (with_entries frames table ks v) table k v
unfolding with_entries
with_entries-more frames table [] k v = refl
with_entries-more frames table (j ∷ ks) k v = with_entries-more (with_entry frames table j v) table ks k v

pub length-with_entries : (frames : List (List ℕ)) (table : ℕ) (ks : List ℕ) (v : ℕ) → length (with_entries frames table ks v) ≡ length frames
unfolding with_entries
length-with_entries frames table [] v = refl
length-with_entries frames table (k ∷ ks) v = length-with_entries (with_entry frames table k v) table ks v ∙ length-with_entry frames table k v

pub IsPage-with_entries : (frames : List (List ℕ)) (table : ℕ) (ks : List ℕ) (v : ℕ) → All IsPage frames → All IsPage (with_entries frames table ks v)
unfolding with_entries
IsPage-with_entries frames table [] v pages = pages
IsPage-with_entries frames table (k ∷ ks) v pages = IsPage-with_entries (with_entry frames table k v) table ks v (IsPage-with_entry frames table k v pages)

pub HasTable-with_entry : (frames : List (List ℕ)) (table n k v : ℕ) → HasTable frames table n → HasTable (with_entry frames table k v) table n
HasTable-with_entry frames table n k v h = omega (arith, length-with_entry frames table k v)

pub HasTable-with_entries : (frames : List (List ℕ)) (table n : ℕ) (ks : List ℕ) (v : ℕ) → HasTable frames table n → HasTable (with_entries frames table ks v) table n
HasTable-with_entries frames table n ks v h = omega (arith, length-with_entries frames table ks v)

-- the other entries stay
pub entry_at-with_entries_other : (frames : List (List ℕ)) (table n : ℕ) (ks : List ℕ) (v j : ℕ) → All IsPage frames → HasTable frames table n → ((k : ℕ) → Contains ks k → (k < n) × (k ≡ j → ⊥)) → entry_at (with_entries frames table ks v) table j ≡ entry_at frames table j
unfolding with_entries
entry_at-with_entries_other frames table n [] v j pages has others = refl
entry_at-with_entries_other frames table n (k ∷ ks) v j pages has others =
    let this = others k (Contains-head k ks) in
    let within = entry_frame_within frames table n k has this.0 in
    entry_at-with_entries_other (with_entry frames table k v) table n ks v j (IsPage-with_entry frames table k v pages) (HasTable-with_entry frames table n k v has)
    (λ i in'. others i (Contains-tail k ks i in'))
    ∙ entry_at-with_entry_other frames table k v j within (pages (table + k / 1024) [] within) (λ e. this.1 (sym e))

-- an entry that is v, or that is set to v
entry_at-with_entries : (frames : List (List ℕ)) (table n : ℕ) (ks : List ℕ) (v j : ℕ) → All IsPage frames → HasTable frames table n → v < 2 ^ 32 → ((k : ℕ) → Contains ks k → k < n) → (entry_at frames table j ≡ v) ⊎ Contains ks j → entry_at (with_entries frames table ks v) table j ≡ v
unfolding with_entries
entry_at-with_entries frames table n [] v j pages has fits below this = ⊎_elim (λ e. e) (λ in'. absurd (Contains-nil j in')) this
entry_at-with_entries frames table n (k ∷ ks) v j pages has fits below this =
    let within = entry_frame_within frames table n k has (below k (Contains-head k ks)) in
    let page = pages (table + k / 1024) [] within in
    let set_here : k ≡ j → entry_at (with_entry frames table k v) table j ≡ v = λ e.
    ap (entry_at (with_entry frames table k v) table) (sym e) ∙ entry_at-with_entry_same frames table k v within page fits in
    let next : (entry_at (with_entry frames table k v) table j ≡ v) ⊎ Contains ks j =
    elim (cases_eq k j) [
      | inl e ↦ inl (set_here e)
      | inr ne ↦ elim this [
        | inl was ↦ inl (entry_at-with_entry_other frames table k v j within page (λ e. ne (sym e)) ∙ was)
        | inr in' ↦ elim (Contains-cons_cases k ks j in') [ inl e ↦ absurd (ne e) | inr in_rest ↦ inr in_rest ]
      ]
    ] in
    entry_at-with_entries (with_entry frames table k v) table n ks v j (IsPage-with_entry frames table k v pages) (HasTable-with_entry frames table n k v has) fits
    (λ i in'. below i (Contains-tail k ks i in')) next

-- the entries that were set read as v
pub entry_at-with_entries_same : (frames : List (List ℕ)) (table n : ℕ) (ks : List ℕ) (v j : ℕ) → All IsPage frames → HasTable frames table n → v < 2 ^ 32 → ((k : ℕ) → Contains ks k → k < n) → Contains ks j → entry_at (with_entries frames table ks v) table j ≡ v
entry_at-with_entries_same frames table n ks v j pages has fits below in' = entry_at-with_entries frames table n ks v j pages has fits below (inr in')

-- the page frames outside the table stay
pub frame-with_entries_other : (frames : List (List ℕ)) (table n : ℕ) (ks : List ℕ) (v p : ℕ) → ((k : ℕ) → Contains ks k → k < n) → (p < table) ⊎ (table + table_frame_count n ≤ p) → frame (with_entries frames table ks v) p ≡ frame frames p
unfolding with_entries
frame-with_entries_other frames table n [] v p below outside = refl
frame-with_entries_other frames table n (k ∷ ks) v p below outside =
    let this = below k (Contains-head k ks) in
    frame-with_entries_other (with_entry frames table k v) table n ks v p (λ i in'. below i (Contains-tail k ks i in')) outside
    ∙ frame-with_entry_other frames table k v p (λ e. ⊎_elim (λ low. absurd (omega arith)) (λ high. absurd (omega arith)) outside)
