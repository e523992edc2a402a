-- Laws of a table whose entries are set by a rule.
use Rattle.std.proofs.Common.{◌≡◌, ℕ, zero, suc, ◌+◌, ◌/◌, ◌^◌, ◌<◌, ◌≤◌, ◌⊎◌, inl, inr, List, [], ◌∷◌, ◌++◌, length, refl, sym, ap, ◌∙◌, arith, ⊎_elim}
use Rattle.std.proofs.lemmas.Bool.{cases_eq}
use Rattle.std.specs.List.{All, Contains, range_with_len}
use Rattle.definitions.specs.Bytes.{IsPage}
use Rattle.definitions.specs.Tables.{frame, entry_at, with_entry, HasTable, table_frame_count}
use Rattle.definitions.proofs.Ascending.{Contains-nil, Contains-head, Contains-tail, Contains-cons_cases}
use Rattle.definitions.proofs.TableEntries.{entry_frame_within, length-with_entry, entry_at-with_entry_same, entry_at-with_entry_other, frame-with_entry_other, IsPage-with_entry, HasTable-with_entry}
use Rattle.plain_machine.specs.FreshMemory.{with_each_entry}

pub each-none : (e : ℕ → ℕ) (table : ℕ) (m : List (List ℕ)) → with_each_entry e [] table m ≡ m
unfolding with_each_entry
each-none e table m = refl

pub each-append : (e : ℕ → ℕ) (ks js : List ℕ) (table : ℕ) (m : List (List ℕ)) → with_each_entry e (ks ++ js) table m ≡ with_each_entry e js table (with_each_entry e ks table m)
unfolding with_each_entry
each-append e [] js table m = refl
each-append e (k ∷ ks) js table m = each-append e ks js table (with_entry m table k (e k))

pub each-more : (e : ℕ → ℕ) (ks : List ℕ) (k table : ℕ) (m : List (List ℕ)) → with_each_entry e (ks ++ k ∷ []) table m ≡ with_entry (with_each_entry e ks table m) table k (e k)
unfolding with_each_entry
each-more e [] k table m = refl
each-more e (j ∷ ks) k table m = each-more e ks k table (with_entry m table j (e j))

range-more : (a n : ℕ) → range_with_len a (n + 1) ≡ range_with_len a n ++ (a + n) ∷ []
range-more a zero = let same : a ≡ a + 0 = omega arith in ap (λ (x : ℕ). x ∷ []) same
range-more a (suc n) =
    let more : suc n + 1 ≡ suc (n + 1) = omega arith in
    let last : a + 1 + n ≡ a + suc n = omega arith in
    ap (range_with_len a) more ∙ ap (λ (t : List ℕ). a ∷ t) (range-more (a + 1) n)
    ∙ ap (λ (x : ℕ). a ∷ (range_with_len (a + 1) n ++ x ∷ [])) last

-- one number of a run more
pub each-range_more : (e : ℕ → ℕ) (a n p table : ℕ) (m : List (List ℕ)) → a + n ≡ p → with_entry (with_each_entry e (range_with_len a n) table m) table p (e p) ≡ with_each_entry e (range_with_len a (n + 1)) table m
each-range_more e a n p table m at =
    ap (λ (q : ℕ). with_entry (with_each_entry e (range_with_len a n) table m) table q (e q)) (sym at)
    ∙ sym (each-more e (range_with_len a n) (a + n) table m) ∙ ap (λ (ks : List ℕ). with_each_entry e ks table m) (sym (range-more a n))

pub length-each : (e : ℕ → ℕ) (ks : List ℕ) (table : ℕ) (m : List (List ℕ)) → length (with_each_entry e ks table m) ≡ length m
unfolding with_each_entry
length-each e [] table m = refl
length-each e (k ∷ ks) table m = length-each e ks table (with_entry m table k (e k)) ∙ length-with_entry m table k (e k)

pub IsPage-each : (e : ℕ → ℕ) (ks : List ℕ) (table : ℕ) (m : List (List ℕ)) → All IsPage m → All IsPage (with_each_entry e ks table m)
unfolding with_each_entry
IsPage-each e [] table m pages = pages
IsPage-each e (k ∷ ks) table m pages = IsPage-each e ks table (with_entry m table k (e k)) (IsPage-with_entry m table k (e k) pages)

-- an entry that is already by the rule, or that is set
entry_at-each_or : (e : ℕ → ℕ) (n : ℕ) (ks : List ℕ) (table : ℕ) (m : List (List ℕ)) (j : ℕ) → All IsPage m → HasTable m table n → ((k : ℕ) → Contains ks k → (k < n) × (e k < 2 ^ 32)) → (entry_at m table j ≡ e j) ⊎ Contains ks j → entry_at (with_each_entry e ks table m) table j ≡ e j
unfolding with_each_entry
entry_at-each_or e n [] table m j pages has below this = ⊎_elim (λ h. h) (λ in'. absurd (Contains-nil j in')) this
entry_at-each_or e n (k ∷ ks) table m j pages has below this =
    let first = below k (Contains-head k ks) in
    let within = entry_frame_within m table n k has first.0 in
    let page = pages (table + k / 1024) [] within in
    let here : k ≡ j → entry_at (with_entry m table k (e k)) table j ≡ e j = λ h.
    ap (entry_at (with_entry m table k (e k)) table) (sym h) ∙ entry_at-with_entry_same m table k (e k) within page first.1 ∙ ap e h in
    let next : (entry_at (with_entry m table k (e k)) table j ≡ e j) ⊎ Contains ks j =
    elim (cases_eq k j) [
      | inl h ↦ inl (here h)
      | inr ne ↦ elim this [
        | inl was ↦ inl (entry_at-with_entry_other m table k (e k) j within page (λ h. ne (sym h)) ∙ was)
        | inr in' ↦ elim (Contains-cons_cases k ks j in') [ inl h ↦ absurd (ne h) | inr in_rest ↦ inr in_rest ]
      ]
    ] in
    entry_at-each_or e n ks table (with_entry m table k (e k)) j (IsPage-with_entry m table k (e k) pages) (HasTable-with_entry m table n k (e k) has)
    (λ i in'. below i (Contains-tail k ks i in')) next

-- each entry that is set is read back
pub entry_at-each : (e : ℕ → ℕ) (n : ℕ) (ks : List ℕ) (table : ℕ) (m : List (List ℕ)) (j : ℕ) → All IsPage m → HasTable m table n → ((k : ℕ) → Contains ks k → (k < n) × (e k < 2 ^ 32)) → Contains ks j → entry_at (with_each_entry e ks table m) table j ≡ e j
entry_at-each e n ks table m j pages has below in' = entry_at-each_or e n ks table m j pages has below (inr in')

-- the page frames outside the table stay
pub frame-each_other : (e : ℕ → ℕ) (n : ℕ) (ks : List ℕ) (table : ℕ) (m : List (List ℕ)) (p : ℕ) → ((k : ℕ) → Contains ks k → k < n) → (p < table) ⊎ (table + table_frame_count n ≤ p) → frame (with_each_entry e ks table m) p ≡ frame m p
unfolding with_each_entry
frame-each_other e n [] table m p below outside = refl
frame-each_other e n (k ∷ ks) table m p below outside =
    let this = below k (Contains-head k ks) in
    frame-each_other e n ks table (with_entry m table k (e k)) p (λ i in'. below i (Contains-tail k ks i in')) outside
    ∙ frame-with_entry_other m table k (e k) p (λ h. ⊎_elim (λ low. absurd (omega arith)) (λ high. absurd (omega arith)) outside)

-- rules that say the same set the same
pub each-same : (e d : ℕ → ℕ) (ks : List ℕ) (table : ℕ) (m : List (List ℕ)) → ((k : ℕ) → e k ≡ d k) → with_each_entry e ks table m ≡ with_each_entry d ks table m
unfolding with_each_entry
each-same e d [] table m same = refl
each-same e d (k ∷ ks) table m same =
    each-same e d ks table (with_entry m table k (e k)) same ∙ ap (λ (v : ℕ). with_each_entry d ks table (with_entry m table k v)) (same k)
