-- Memory once all pages are at their page frames.
use Rattle.std.proofs.Common.{◌≡◌, ◌≢◌, ℕ, ◌≤◌, ◌||◌, Bool, cond, eqb, List, [], ◌∷◌, length, map, take, Option, Some, None, refl, sym, ap, ap₂, ◌∙◌, subst, inl, inr, arith}
use Rattle.std.proofs.lemmas.Bool.{cases_eq, cases_Bool, cond-true, cond-false, eq-eqb, ne_eqb, false≢true, or_left, or_right, or_from}
use Rattle.std.proofs.lemmas.List.{length-map, take_all}
use Rattle.std.proofs.lemmas.List.Elements.{All-contains}
use Rattle.std.specs.List.{Contains, list_any, zip}
use Rattle.definitions.specs.Bytes.{zero_page}
use Rattle.definitions.specs.Moves.{Move, move_into, page_from, assigned}
use Rattle.definitions.specs.Tables.{frame}
use Rattle.definitions.specs.Zones.{top}
use Rattle.placement.specs.Placed.{sources, targets, IsPlacement, TakesFrom}
use Rattle.placement.specs.Waiting.{Awaiting, saved_page, page_or, restored_page}
use Rattle.placement.proofs.Members.{member_passes, passes_member}
use Rattle.placement.proofs.Moving.{into-here, into-past, named_target, no_target, frame-assigned, assigned_apart, target_spared, bounce_spared, target_below}

-- The page that waits for a page frame is that which the move there brings.
page_or-saved : (frames : List (List ℕ)) (moves : List Move) (q : ℕ) (other : List ℕ) → page_or (saved_page (zip (targets moves) (map (frame frames) (sources moves))) q) other ≡ page_from frames (move_into moves q) other
page_or-saved frames [] q other = refl
page_or-saved frames (m ∷ moves) q other =
    let rest = saved_page (zip (targets moves) (map (frame frames) (sources moves))) q in
    elim (cases_eq m.1 q) [
      | inl is ↦
          ap (λ (o : Option (List ℕ)). page_or o other) (cond-true (eqb m.1 q) (Some (frame frames m.0)) rest (eq-eqb m.1 q is))
          ∙ sym (ap (λ (o : Option Move). page_from frames o other) (into-here m moves q is))
      | inr beside ↦
          ap (λ (o : Option (List ℕ)). page_or o other) (cond-false (eqb m.1 q) (Some (frame frames m.0)) rest (ne_eqb m.1 q beside))
          ∙ page_or-saved frames moves q other
          ∙ sym (ap (λ (o : Option Move). page_from frames o other) (into-past m moves q beside))
    ]

-- all pages wait
pub record AllWait (w : Awaiting) : Type 0 where
  pub placement : IsPlacement w.placement
  pub targets : targets w.placement.moves ≡ w.originals
  pub taken : TakesFrom w.free w.placement
  pub loaded : w.loaded ≡ length w.originals

all_taken : (w : Awaiting) → AllWait w → take w.loaded (sources w.placement.moves) ≡ sources w.placement.moves
all_taken w all =
    let moves = w.placement.moves in
    let of_sources = length-map moves (λ (m : Move). m.0) in
    let of_targets = length-map moves (λ (m : Move). m.1) in
    let same = ap length all.targets in
    let loaded = all.loaded in
    take_all w.loaded (sources moves) (omega arith)

restored-as_moved : (frames : List (List ℕ)) (w : Awaiting) (origs : List ℕ) (q : ℕ) → AllWait w → restored_page frames w origs q ≡ page_from frames (move_into w.placement.moves q) (cond (list_any (λ p. eqb p q) origs || list_any (λ p. eqb p q) w.free) zero_page (frame frames q))
unfolding restored_page
restored-as_moved frames w origs q all =
    let moves = w.placement.moves in
    let other = cond (list_any (λ p. eqb p q) origs || list_any (λ p. eqb p q) w.free) zero_page (frame frames q) in
    ap₂ (λ (ts ss : List ℕ). page_or (saved_page (zip ts (map (frame frames) ss)) q) other) (sym all.targets) (all_taken w all)
    ∙ page_or-saved frames moves q other

-- the page frames of a set are set to zero, but for those of another set
pub record Clears (set kept : List ℕ) (old new : List (List ℕ)) : Type 0 where
  pub zero : (p : ℕ) → Contains set p → (Contains kept p → ⊥) → frame new p ≡ zero_page
  pub stays : (p : ℕ) → Contains kept p → frame new p ≡ frame old p
  pub others : (p : ℕ) → (Contains set p → ⊥) → frame new p ≡ frame old p

-- the moves are made, and then the two sets are cleared
pub record Finishes (w : Awaiting) (origs : List ℕ) (frames moved cleared finished : List (List ℕ)) : Type 0 where
  pub fits : top w.placement.zones ≤ length frames
  pub moves : (q : ℕ) → (Contains w.placement.list q → ⊥) → q ≢ w.placement.bounce → frame moved q ≡ frame (assigned frames w.placement.moves) q
  pub first : Clears w.free w.originals moved cleared
  pub second : Clears origs w.originals cleared finished

module _ (w : Awaiting) (origs : List ℕ) (frames moved cleared finished : List (List ℕ)) (all : AllWait w) (h : Finishes w origs frames moved cleared finished) where
  -- an original with data
  at_original : (q : ℕ) (m : Move) → move_into w.placement.moves q ≡ Some m → frame finished q ≡ frame frames m.0
  at_original q m into =
      let p = w.placement in
      let is = all.placement in
      let member = subst (λ (xs : List ℕ). Contains xs q) all.targets (named_target p.moves q m into) in
      let below = target_below p is q m into in
      let fits = h.fits in
      h.second.stays q member ∙ h.first.stays q member ∙ h.moves q (target_spared p is q m into) (bounce_spared p is q m into)
      ∙ frame-assigned frames p.moves q (omega arith) ∙ ap (λ (o : Option Move). page_from frames o (frame frames q)) into

  abbrev is_cleared : ℕ → Bool
  is_cleared q = list_any (λ p. eqb p q) origs || list_any (λ p. eqb p q) w.free

  -- what is neither free nor an original stays
  untouched : (q : ℕ) → move_into w.placement.moves q ≡ None → (Contains origs q → ⊥) → (Contains w.free q → ⊥) → frame finished q ≡ frame frames q
  untouched q none no_orig occupied =
      let p = w.placement in
      h.second.others q no_orig ∙ h.first.others q occupied
      ∙ h.moves q (λ in'. occupied (All-contains (Contains w.free) p.list q all.taken.list_in in')) (λ same. occupied (subst (Contains w.free) (sym same) all.taken.bounce_in))
      ∙ assigned_apart frames p.moves q none

  -- a page frame without a page that waited for it
  at_other : (q : ℕ) → move_into w.placement.moves q ≡ None → frame finished q ≡ cond (is_cleared q) zero_page (frame frames q)
  at_other q none =
      let apart : Contains w.originals q → ⊥ = λ in'. no_target w.placement.moves q none (subst (λ (xs : List ℕ). Contains xs q) (sym all.targets) in') in
      elim (cases_Bool (list_any (λ p. eqb p q) origs)) [
        | inl orig ↦
            h.second.zero q (passes_member origs q orig) apart
            ∙ sym (cond-true (is_cleared q) zero_page (frame frames q) (or_left (list_any (λ p. eqb p q) origs) (list_any (λ p. eqb p q) w.free) orig))
        | inr no_orig ↦
            let out : Contains origs q → ⊥ = λ in'. false≢true (sym no_orig ∙ member_passes origs q in') in
            elim (cases_Bool (list_any (λ p. eqb p q) w.free)) [
              | inl free ↦
                  h.second.others q out ∙ h.first.zero q (passes_member w.free q free) apart
                  ∙ sym (cond-true (is_cleared q) zero_page (frame frames q) (or_right (list_any (λ p. eqb p q) origs) (list_any (λ p. eqb p q) w.free) free))
              | inr occupied ↦
                  untouched q none out (λ in'. false≢true (sym occupied ∙ member_passes w.free q in'))
                  ∙ sym (cond-false (is_cleared q) zero_page (frame frames q) (or_from (list_any (λ p. eqb p q) origs) (list_any (λ p. eqb p q) w.free) no_orig occupied))
            ]
      ]

  by_move : (q : ℕ) (o : Option Move) → move_into w.placement.moves q ≡ o → frame finished q ≡ page_from frames o (cond (is_cleared q) zero_page (frame frames q))
  by_move q None none = at_other q none
  by_move q (Some m) into = at_original q m into

  pub finishes : (q : ℕ) → frame finished q ≡ restored_page frames w origs q
  finishes q = by_move q (move_into w.placement.moves q) refl ∙ sym (restored-as_moved frames w origs q all)
