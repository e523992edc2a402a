-- The originals with data, as the numbers without data are taken out one by one.
use Rattle.std.proofs.Common.{◌≡◌, ℕ, ◌||◌, cond, eqb, Bool, true, false, List, [], ◌∷◌, ◌++◌, length, Some, not, refl, sym, ap, ◌∙◌, subst, inl, inr, arith}
use Rattle.std.proofs.lemmas.Bool.{eq-eqb, false≢true, not_from_true, not_from_false}
use Rattle.std.proofs.lemmas.List.Elements.{Contains-append_cases, Contains-append_left, Contains-append_right}
use Rattle.std.proofs.lemmas.List.Kept.{IsStrictlyIncreasing-filter}
use Rattle.std.specs.List.{Contains, list_any, zip}
use Rattle.std.specs.List.Sorted.{IsStrictlyIncreasing}
use Rattle.definitions.specs.FrameSets.{removed}
use Rattle.definitions.proofs.Ascending.{Contains-nil, Contains-head, Contains-cons_cases, same_members}
use Rattle.definitions.proofs.FrameSets.{Contains-filter, Contains-from_filter, Contains-removed, Contains-from_removed, IsStrictlyIncreasing-removed}
use Rattle.definitions.specs.Bytes.{zero_page}
use Rattle.definitions.specs.Tables.{frame}
use Rattle.placement.specs.Waiting.{Awaiting, with_data, waiting_pages, saved_page, page_or, restored_page}
use Rattle.placement.proofs.Members.{member_passes, passes_member, stranger_fails}

abbrev has_data : List ℕ → ℕ → Bool
has_data zeros p = not (list_any (λ q. eqb q p) zeros)

Contains-with_data : (origs zeros : List ℕ) (p : ℕ) → Contains origs p → (Contains zeros p → ⊥) → Contains (with_data origs zeros) p
unfolding with_data
Contains-with_data origs zeros p in' absent = Contains-filter (has_data zeros) origs p in' (not_from_false (list_any (λ q. eqb q p) zeros) (stranger_fails zeros p absent))

pub Contains-from_with_data : (origs zeros : List ℕ) (p : ℕ) → Contains (with_data origs zeros) p → Contains origs p × (Contains zeros p → ⊥)
unfolding with_data
Contains-from_with_data origs zeros p in' =
    let kept = Contains-from_filter (has_data zeros) origs p in' in
    (kept.0, λ none. false≢true (sym (not_from_true (list_any (λ q. eqb q p) zeros) (member_passes zeros p none)) ∙ kept.1))

pub IsStrictlyIncreasing-with_data : (origs zeros : List ℕ) → IsStrictlyIncreasing origs → IsStrictlyIncreasing (with_data origs zeros)
unfolding with_data
IsStrictlyIncreasing-with_data origs zeros up = IsStrictlyIncreasing-filter (has_data zeros) origs up

-- some of the numbers without data are taken out, and one more
module _ (origs taken : List ℕ) (z : ℕ) (up : IsStrictlyIncreasing origs) where
  abbrev more : List ℕ
  more = taken ++ z ∷ []

  goes : (q : ℕ) → Contains (with_data origs more) q → Contains (removed (with_data origs taken) z) q
  goes q in' =
      let is = Contains-from_with_data origs more q in' in
      Contains-removed (with_data origs taken) z q
      (Contains-with_data origs taken q is.0 (λ none. is.1 (Contains-append_left taken (z ∷ []) q none)))
      (λ e. is.1 (Contains-append_right taken (z ∷ []) q (subst (Contains (z ∷ [])) (sym e) (Contains-head z []))))

  comes : (q : ℕ) → Contains (removed (with_data origs taken) z) q → Contains (with_data origs more) q
  comes q in' =
      let other = Contains-from_removed (with_data origs taken) z q in' in
      let is = Contains-from_with_data origs taken q other.0 in
      Contains-with_data origs more q is.0 (λ none.
      elim (Contains-append_cases taken (z ∷ []) q none) [
        | inl before ↦ is.1 before
        | inr last ↦ elim (Contains-cons_cases z [] q last) [ inl e ↦ other.1 (sym e) | inr rest ↦ Contains-nil q rest ]
      ])

  pub with_one_less : with_data origs (taken ++ z ∷ []) ≡ removed (with_data origs taken) z
  with_one_less =
      same_members (with_data origs more) (removed (with_data origs taken) z)
      (IsStrictlyIncreasing-with_data origs more up)
      (IsStrictlyIncreasing-removed (with_data origs taken) z (IsStrictlyIncreasing-with_data origs taken up))
      goes comes

pub all_with_data : (origs : List ℕ) → with_data origs [] ≡ origs
unfolding with_data
all_with_data [] = refl
all_with_data (p ∷ ps) = ap (λ (qs : List ℕ). p ∷ qs) (all_with_data ps)

-- Once all pages wait, the originals without data are all that a restored memory has to know of the originals.

abbrev member : List ℕ → ℕ → Bool
member ps p = list_any (λ q. eqb q p) ps

same_rest : (a b : Bool) (free : Bool) (page other : List ℕ) → a ≡ b → cond (a || free) page other ≡ cond (b || free) page other
same_rest a b free page other is = ap (λ (c : Bool). cond (c || free) page other) is

some_page : (ps : List ℕ) (pages : List (List ℕ)) (p : ℕ) (x y : List ℕ) → length pages ≡ length ps → Contains ps p → page_or (saved_page (zip ps pages) p) x ≡ page_or (saved_page (zip ps pages) p) y
some_page [] pages p x y size in' = absurd (Contains-nil p in')
some_page (q ∷ ps) [] p x y size in' = absurd (omega arith)
some_page (q ∷ ps) (page ∷ pages) p x y size in' = here (eqb q p) refl (some_page ps pages p x y (omega arith)) where
  here : (b : Bool) → eqb q p ≡ b → (Contains ps p → page_or (saved_page (zip ps pages) p) x ≡ page_or (saved_page (zip ps pages) p) y) →
      page_or (cond b (Some page) (saved_page (zip ps pages) p)) x ≡ page_or (cond b (Some page) (saved_page (zip ps pages) p)) y
  here true e later = refl
  here false e later = later (elim (Contains-cons_cases q ps p in') [
    | inl is ↦ absurd (false≢true (sym e ∙ eq-eqb q p is))
    | inr rest ↦ rest
  ])

module _ (frames : List (List ℕ)) (w : Awaiting) (origs zeros : List ℕ) (p : ℕ) where
  by_zeros : (a b : Bool) → member zeros p ≡ a → member origs p ≡ b → length (waiting_pages frames w) ≡ length w.originals → w.originals ≡ with_data origs zeros →
      (Contains zeros p → Contains origs p) → restored_page frames w zeros p ≡ restored_page frames w origs p
  unfolding restored_page
  by_zeros true b none_is is size with within =
      ap (page_or (saved_page (zip w.originals (waiting_pages frames w)) p))
      (same_rest (member zeros p) (member origs p) (member w.free p) zero_page (frame frames p) (none_is ∙ sym (member_passes origs p (within (passes_member zeros p none_is)))))
  by_zeros false false none_is is size with within =
      ap (page_or (saved_page (zip w.originals (waiting_pages frames w)) p)) (same_rest (member zeros p) (member origs p) (member w.free p) zero_page (frame frames p) (none_is ∙ sym is))
  by_zeros false true none_is is size with within =
      some_page w.originals (waiting_pages frames w) p (cond (member zeros p || member w.free p) zero_page (frame frames p)) (cond (member origs p || member w.free p) zero_page (frame frames p)) size
      (subst (λ (ps : List ℕ). Contains ps p) (sym with)
      (Contains-with_data origs zeros p (passes_member origs p is) (λ in'. false≢true (sym none_is ∙ member_passes zeros p in'))))

  pub restored_by_zeros : length (waiting_pages frames w) ≡ length w.originals → w.originals ≡ with_data origs zeros → (Contains zeros p → Contains origs p) → restored_page frames w zeros p ≡ restored_page frames w origs p
  restored_by_zeros = by_zeros (member zeros p) (member origs p) refl refl
