-- How many page frames are saveable after the dropped ones became free.
use Rattle.std.proofs.Common.{◌≡◌, ◌≢◌, ℕ, zero, suc, ◌+◌, ◌-◌, ◌<◌, Bool, true, false, List, [], ◌∷◌, length, filter, take, Contains, All, refl, sym, ap, ◌∙◌, arith, cond, eqb, not, subst, inl, inr}
use Rattle.std.proofs.lemmas.Bool.{cases_Bool, and_parts, eqb-true}
use Rattle.definitions.specs.Bytes.{IsPage}
use Rattle.std.specs.List.Sorted.{IsStrictlyIncreasing}
use Rattle.definitions.specs.Tables.{saveable_frames}
use Rattle.definitions.specs.Tables.{HasTable, entry_at, page_flags, is_saveable, with_entries}
use Rattle.definitions.specs.Zones.{numbers, top}
use Rattle.definitions.specs.ZoneFacts.{AreZones}
use Rattle.definitions.proofs.FrameSets.{Contains-from_filter}
use Rattle.definitions.proofs.Ascending.{Contains-head, Contains-tail, Contains-nil, Contains-cons_cases, IsStrictlyIncreasing-tail, head_below}
use Rattle.definitions.proofs.TableEntries.{entry_at-with_entries_other, entry_at-with_entries_same}
use Rattle.definitions.proofs.ZoneNumbers.{below_top, IsStrictlyIncreasing-numbers}
use Rattle.frame_table.specs.Tests.{saveable_by_entry}
use Rattle.frame_table.specs.Drop.{is_in_runs, may_drop, dropped_frames}
use Rattle.frame_table.proofs.DropLaws.{filter_agrees, Contains-from_take}

one_if : Bool → ℕ
one_if b = cond b 1 0

picked_of : (p : ℕ → Bool) (x : ℕ) (xs : List ℕ) (b : Bool) → p x ≡ b → length (filter p (x ∷ xs)) ≡ one_if b + length (filter p xs)
unfolding one_if
picked_of p x xs true e = ap (λ (c : Bool). length (cond c (x ∷ filter p xs) (filter p xs))) e ∙ (let n = length (filter p xs) in let s : suc n ≡ 1 + n = omega arith in s)
picked_of p x xs false e = ap (λ (c : Bool). length (cond c (x ∷ filter p xs) (filter p xs))) e ∙ (let n = length (filter p xs) in let s : n ≡ 0 + n = omega arith in s)

counted : (g' g_rest f' f_rest d' d_rest : ℕ) → g' ≡ one_if false + g_rest → f' ≡ one_if true + f_rest → d' ≡ suc d_rest → g_rest + d_rest ≡ f_rest → g' + d' ≡ f'
unfolding one_if
counted g' g_rest f' f_rest d' d_rest eg ef ed e = omega arith

-- The first k that t picks are picked by f, and no more by g, which picks the same of the others.
pub record Unpicks (f g t : ℕ → Bool) (k : ℕ) (xs : List ℕ) : Type 0 where
  pub dropped : (x : ℕ) → Contains xs x → Contains (take k (filter t xs)) x → g x ≡ false
  pub others : (x : ℕ) → Contains xs x → (Contains (take k (filter t xs)) x → ⊥) → g x ≡ f x

none_dropped : (f g t : ℕ → Bool) (xs : List ℕ) → Unpicks f g t zero xs → length (filter g xs) + length (take zero (filter t xs)) ≡ length (filter f xs)
none_dropped f g t xs un =
    let same = ap length (filter_agrees g f xs (λ x in'. un.others x in' (λ none. Contains-nil x none))) in
    omega arith

-- g picks as many fewer as are dropped
abbrev Counts : (ℕ → Bool) → (ℕ → Bool) → (ℕ → Bool) → ℕ → List ℕ → Type 0
Counts f g t k xs = length (filter g xs) + length (take k (filter t xs)) ≡ length (filter f xs)

later : (x : ℕ) (xs : List ℕ) (y : ℕ) → IsStrictlyIncreasing (x ∷ xs) → Contains xs y → x ≢ y
later x xs y up in' e = let below = head_below x xs y up in' in absurd (omega arith)

in_picked : (t : ℕ → Bool) (k : ℕ) (xs : List ℕ) (y : ℕ) → Contains (take k (filter t xs)) y → Contains xs y
in_picked t k xs y at = (Contains-from_filter t xs y (Contains-from_take k (filter t xs) y at)).0

count_picked : (f g t : ℕ → Bool) (k x : ℕ) (xs : List ℕ) → IsStrictlyIncreasing (x ∷ xs) → f x ≡ true → t x ≡ true → Unpicks f g t (suc k) (x ∷ xs) → (Unpicks f g t k xs → Counts f g t k xs) → Counts f g t (suc k) (x ∷ xs)
count_picked f g t k x xs up saved is un ih =
    let D : take (suc k) (filter t (x ∷ xs)) ≡ x ∷ take k (filter t xs) = ap (λ (c : Bool). take (suc k) (cond c (x ∷ filter t xs) (filter t xs))) is in
    let here : g x ≡ false = un.dropped x (Contains-head x xs) (subst (λ (ds : List ℕ). Contains ds x) (sym D) (Contains-head x (take k (filter t xs)))) in
    let rest = ih (record {
      dropped = λ y in' at. un.dropped y (Contains-tail x xs y in') (subst (λ (ds : List ℕ). Contains ds y) (sym D) (Contains-tail x (take k (filter t xs)) y at));
      others = λ y in' out. un.others y (Contains-tail x xs y in') (λ at. elim (Contains-cons_cases x (take k (filter t xs)) y (subst (λ (ds : List ℕ). Contains ds y) D at)) [
        | inl e ↦ later x xs y up in' e
        | inr deep ↦ out deep
      ]);
    }) in
    counted (length (filter g (x ∷ xs))) (length (filter g xs)) (length (filter f (x ∷ xs))) (length (filter f xs)) (length (take (suc k) (filter t (x ∷ xs)))) (length (take k (filter t xs)))
    (picked_of g x xs false here) (picked_of f x xs true saved) (ap length D) rest

count_passed : (f g t : ℕ → Bool) (k x : ℕ) (xs : List ℕ) → IsStrictlyIncreasing (x ∷ xs) → t x ≡ false → Unpicks f g t k (x ∷ xs) → (Unpicks f g t k xs → Counts f g t k xs) → Counts f g t k (x ∷ xs)
count_passed f g t k x xs up is un ih =
    let D : take k (filter t (x ∷ xs)) ≡ take k (filter t xs) = ap (λ (c : Bool). take k (cond c (x ∷ filter t xs) (filter t xs))) is in
    let here : g x ≡ f x = un.others x (Contains-head x xs) (λ at. later x xs x up (in_picked t k xs x (subst (λ (ds : List ℕ). Contains ds x) D at)) refl) in
    let rest = ih (record {
      dropped = λ y in' at. un.dropped y (Contains-tail x xs y in') (subst (λ (ds : List ℕ). Contains ds y) (sym D) at);
      others = λ y in' out. un.others y (Contains-tail x xs y in') (λ at. out (subst (λ (ds : List ℕ). Contains ds y) D at));
    }) in
    let g_is = picked_of g x xs (f x) here in
    let f_is = picked_of f x xs (f x) refl in
    let d_is = ap length D in
    omega arith

pub count_left : (f g t : ℕ → Bool) (k : ℕ) (xs : List ℕ) → IsStrictlyIncreasing xs → ((x : ℕ) → t x ≡ true → f x ≡ true) → Unpicks f g t k xs → Counts f g t k xs
count_left f g t zero xs up picks un = none_dropped f g t xs un
count_left f g t (suc k) [] up picks un = refl
count_left f g t (suc k) (x ∷ xs) up picks un =
    let up_rest = IsStrictlyIncreasing-tail x xs up in
    elim (cases_Bool (t x)) [
      | inl is ↦ count_picked f g t k x xs up (picks x is) is un (λ rest. count_left f g t k xs up_rest picks rest)
      | inr isn't ↦ count_passed f g t (suc k) x xs up isn't un (λ rest. count_left f g t (suc k) xs up_rest picks rest)
    ]

-- a page frame whose one flag is CACHE is saveable
cached_saveable : (keep : List (ℕ × ℕ)) (table : ℕ) (frames : List (List ℕ)) (p : ℕ) → may_drop keep table frames p ≡ true → saveable_by_entry table frames p ≡ true
cached_saveable keep table frames p is = ap is_saveable (eqb-true (page_flags (entry_at frames table p)) 64 (and_parts (eqb (page_flags (entry_at frames table p)) 64) (not (is_in_runs keep p)) is).0)

-- as many fewer are saveable as were dropped
pub left_saveable : (zones : List (ℕ × ℕ)) (table : ℕ) (keep : List (ℕ × ℕ)) (want : ℕ) (frames : List (List ℕ)) → AreZones zones → All IsPage frames → HasTable frames table (top zones) →
    length (saveable_frames zones table (with_entries frames table (dropped_frames zones table keep want frames) 1)) ≡ length (saveable_frames zones table frames) - length (dropped_frames zones table keep want frames)
unfolding saveable_frames
left_saveable zones table keep want frames are pages has =
    let D = dropped_frames zones table keep want frames in
    let now = with_entries frames table D 1 in
    let f = saveable_by_entry table frames in
    let g = saveable_by_entry table now in
    let t = may_drop keep table frames in
    let most = length (saveable_frames zones table frames) - want in
    let below : (p : ℕ) → Contains (numbers zones) p → p < top zones = λ p in'. below_top zones p are.apart in' in
    let in_D : (p : ℕ) → Contains D p → Contains (numbers zones) p = λ p at. (Contains-from_filter t (numbers zones) p (Contains-from_take most (filter t (numbers zones)) p at)).0 in
    let sum = count_left f g t most (numbers zones) (IsStrictlyIncreasing-numbers zones are.apart) (λ x. cached_saveable keep table frames x) (record {
      dropped = λ p in' at. ap (λ (e : ℕ). is_saveable (page_flags e)) (entry_at-with_entries_same frames table (top zones) D 1 p pages has (omega arith) (λ k k_in. below k (in_D k k_in)) at);
      others = λ p in' out. ap (λ (e : ℕ). is_saveable (page_flags e)) (entry_at-with_entries_other frames table (top zones) D 1 p pages has (λ k k_in. (below k (in_D k k_in), λ e. out (subst (Contains D) e k_in))));
    }) in
    omega arith
