-- The moves of a placement made at once.
use Rattle.std.proofs.Common.{◌≡◌, ◌≢◌, ℕ, ◌<◌, ◌≤◌, eqb, List, [], ◌∷◌, length, Option, Some, None, refl, sym, ap, ◌∙◌, subst, zero-add, inl, inr, arith}
use Rattle.std.proofs.lemmas.Bool.{cases_eq, cases_lt, cond-true, cond-false, eq-eqb, ne_eqb}
use Rattle.std.proofs.lemmas.List.{get_or_past}
use Rattle.std.proofs.lemmas.List.Elements.{All-contains}
use Rattle.std.proofs.lemmas.List.FromFn.{length-map-range_with_len, get_or-map-range_with_len}
use Rattle.std.specs.List.{Contains}
use Rattle.definitions.specs.Moves.{Move, move_into, page_from, assigned}
use Rattle.definitions.specs.Tables.{frame}
use Rattle.definitions.specs.Zones.{numbers, top}
use Rattle.definitions.proofs.Ascending.{Contains-head, Contains-tail, Contains-cons_cases, Contains-nil}
use Rattle.definitions.proofs.ZoneNumbers.{below_top}
use Rattle.placement.specs.Placed.{Placed, sources, targets, IsPlacement, IsUnnamed}

-- The move into a page frame.

pub into-here : (m : Move) (moves : List Move) (p : ℕ) → m.1 ≡ p → move_into (m ∷ moves) p ≡ Some m
into-here m moves p is = cond-true (eqb m.1 p) (Some m) (move_into moves p) (eq-eqb m.1 p is)

pub into-past : (m : Move) (moves : List Move) (p : ℕ) → (m.1 ≡ p → ⊥) → move_into (m ∷ moves) p ≡ move_into moves p
into-past m moves p other = cond-false (eqb m.1 p) (Some m) (move_into moves p) (ne_eqb m.1 p other)

not_none : (m : Move) → None ≡ Some m → ⊥
not_none m e = cc

same_some : (m n : Move) → Some m ≡ Some n → m ≡ n
same_some m n e = cc

named_source : (moves : List Move) (p : ℕ) (m : Move) → move_into moves p ≡ Some m → Contains (sources moves) m.0
named_source [] p m into = absurd (not_none m into)
named_source (n ∷ moves) p m into = elim (cases_eq n.1 p) [
  | inl is ↦
      let same = same_some n m (sym (into-here n moves p is) ∙ into) in
      subst (λ (s : ℕ). Contains (sources (n ∷ moves)) s) (ap (λ (k : Move). k.0) same) (Contains-head n.0 (sources moves))
  | inr other ↦ Contains-tail n.0 (sources moves) m.0 (named_source moves p m (sym (into-past n moves p other) ∙ into))
]

pub named_target : (moves : List Move) (p : ℕ) (m : Move) → move_into moves p ≡ Some m → Contains (targets moves) p
named_target [] p m into = absurd (not_none m into)
named_target (n ∷ moves) p m into = elim (cases_eq n.1 p) [
  | inl is ↦ subst (λ (t : ℕ). Contains (targets (n ∷ moves)) t) is (Contains-head n.1 (targets moves))
  | inr other ↦ Contains-tail n.1 (targets moves) p (named_target moves p m (sym (into-past n moves p other) ∙ into))
]

pub no_target : (moves : List Move) (p : ℕ) → move_into moves p ≡ None → Contains (targets moves) p → ⊥
no_target [] p none in' = Contains-nil p in'
no_target (n ∷ moves) p none in' = elim (cases_eq n.1 p) [
  | inl is ↦ not_none n (sym none ∙ into-here n moves p is)
  | inr other ↦ elim (Contains-cons_cases n.1 (targets moves) p in') [
    | inl same ↦ other same
    | inr rest ↦ no_target moves p (sym (into-past n moves p other) ∙ none) rest
  ]
]

-- What the moves do at once.

pub frame-assigned : (frames : List (List ℕ)) (moves : List Move) (p : ℕ) → p < length frames → frame (assigned frames moves) p ≡ page_from frames (move_into moves p) (frame frames p)
unfolding assigned
frame-assigned frames moves p lt = get_or-map-range_with_len (λ q. page_from frames (move_into moves q) (frame frames q)) 0 (length frames) p p [] lt (zero-add p)

frame-assigned_past : (frames : List (List ℕ)) (moves : List Move) (p : ℕ) → length frames ≤ p → frame (assigned frames moves) p ≡ []
unfolding assigned
frame-assigned_past frames moves p le =
    get_or_past (assigned frames moves) p [] (omega (arith, length-map-range_with_len (λ q. page_from frames (move_into moves q) (frame frames q)) 0 (length frames)))

pub assigned_apart : (frames : List (List ℕ)) (moves : List Move) (p : ℕ) → move_into moves p ≡ None → frame (assigned frames moves) p ≡ frame frames p
assigned_apart frames moves p none = elim (cases_lt p (length frames)) [
  | inl within ↦ frame-assigned frames moves p within ∙ ap (λ (o : Option Move). page_from frames o (frame frames p)) none
  | inr past ↦ frame-assigned_past frames moves p past ∙ sym (get_or_past frames p [] past)
]

-- No move names a list frame or the bounce frame.

pub source_spared : (p : Placed) → IsPlacement p → (q : ℕ) (m : Move) → move_into p.moves q ≡ Some m → Contains p.list m.0 → ⊥
source_spared p is q m into in' = (All-contains (IsUnnamed p.moves) p.list m.0 is.list_unnamed in').no_source (named_source p.moves q m into)

pub target_spared : (p : Placed) → IsPlacement p → (q : ℕ) (m : Move) → move_into p.moves q ≡ Some m → Contains p.list q → ⊥
target_spared p is q m into in' = (All-contains (IsUnnamed p.moves) p.list q is.list_unnamed in').no_target (named_target p.moves q m into)

pub bounce_spared : (p : Placed) → IsPlacement p → (q : ℕ) (m : Move) → move_into p.moves q ≡ Some m → q ≢ p.bounce
bounce_spared p is q m into same = is.bounce_unnamed.no_target (subst (λ (t : ℕ). Contains (targets p.moves) t) same (named_target p.moves q m into))

pub target_below : (p : Placed) → IsPlacement p → (q : ℕ) (m : Move) → move_into p.moves q ≡ Some m → q < top p.zones
target_below p is q m into = below_top p.zones q is.zones.apart (All-contains (Contains (numbers p.zones)) (targets p.moves) q is.targets_valid (named_target p.moves q m into))

-- The moves bring the same pages where memory differs in list frames alone.

page_from_same : (p : Placed) → IsPlacement p → (before after : List (List ℕ)) → ((q : ℕ) → (Contains p.list q → ⊥) → frame after q ≡ frame before q) → (q : ℕ) → (Contains p.list q → ⊥) → (o : Option Move) → move_into p.moves q ≡ o → page_from after o (frame after q) ≡ page_from before o (frame before q)
page_from_same p is before after others q apart None into = others q apart
page_from_same p is before after others q apart (Some m) into = others m.0 (source_spared p is q m into)

pub same_assigned : (p : Placed) → IsPlacement p → (before after : List (List ℕ)) → length after ≡ length before → ((q : ℕ) → (Contains p.list q → ⊥) → frame after q ≡ frame before q) → (q : ℕ) → (Contains p.list q → ⊥) → frame (assigned after p.moves) q ≡ frame (assigned before p.moves) q
same_assigned p is before after size others q apart = elim (cases_lt q (length before)) [
  | inl within ↦
      frame-assigned after p.moves q (omega arith) ∙ page_from_same p is before after others q apart (move_into p.moves q) refl
      ∙ sym (frame-assigned before p.moves q within)
  | inr past ↦ frame-assigned_past after p.moves q (omega arith) ∙ sym (frame-assigned_past before p.moves q past)
]
