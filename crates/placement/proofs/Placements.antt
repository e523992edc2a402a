-- The moves of a placement can be put in order.
use Rattle.std.proofs.Common.{◌≡◌, ℕ, ◌<◌, ◌≤◌, zero, suc, false, nat_eq, List, [], ◌∷◌, length, map, get_or, All, Contains, Some, None, refl, sym, ap, ◌∙◌, inl, inr, arith, subst}
use Rattle.std.specs.List.{IsDistinct, AllByRecursion}
use Rattle.std.proofs.lemmas.List.{length-map}
use Rattle.std.proofs.lemmas.Bool.{cases_eq, eqb-false}
use Rattle.definitions.specs.Moves.{Move, move_into}
use Rattle.definitions.specs.Zones.{numbers, top}
use Rattle.definitions.proofs.ZoneNumbers.{below_top, top_at_most}
use Rattle.placement.specs.Placed.{Placed, IsPlacement, sources, targets}
use Rattle.placement.specs.Pending.{TargetsOnce, IsMovable}
use Rattle.placement.proofs.Pending.{move_into-here, move_into-past, not_none, same_some, target-move_into}
use Rattle.placement.proofs.Emitting.{none_into}

-- where a move stands in the list
record StandsAt (moves : List Move) (m : Move) : Type 0 where
  at : ℕ
  within : at < length moves
  is : (d : Move) → get_or moves at d ≡ m

stands_at : (moves : List Move) (p : ℕ) (m : Move) → move_into moves p ≡ Some m → StandsAt moves m
stands_at [] p m into = absurd (not_none m into)
stands_at (n ∷ moves) p m into = elim (cases_eq n.1 p) [
  | inl is ↦ record { at = 0; within = omega arith; is = λ d. same_some n m (sym (move_into-here n moves p is) ∙ into) }
  | inr other ↦
      let rest = stands_at moves p m (sym (move_into-past n moves p other) ∙ into) in
      let within = rest.within in
      record { at = suc rest.at; within = omega arith; is = rest.is }
]

pub at-map : (f : Move → ℕ) (moves : List Move) (k : ℕ) (d : ℕ) (e : Move) → k < length moves → get_or (map f moves) k d ≡ f (get_or moves k e)
at-map f [] k d e lt = absurd (omega arith)
at-map f (m ∷ moves) zero d e lt = refl
at-map f (m ∷ moves) (suc k) d e lt = at-map f moves k d e (omega arith)

named : (f : Move → ℕ) (moves : List Move) (p : ℕ) (m : Move) → move_into moves p ≡ Some m → Contains (map f moves) (f m)
named f moves p m into =
    let stands = stands_at moves p m into in
    let size = length-map moves f in
    let within = stands.within in
    (stands.at, omega arith, at-map f moves stands.at (f m) m stands.within ∙ ap f (stands.is m))

all_meet : (f : Move → ℕ) (P : ℕ → Type 0) (moves : List Move) (p : ℕ) (m : Move) → All P (map f moves) → move_into moves p ≡ Some m → P (f m)
all_meet f P moves p m all into =
    let stands = stands_at moves p m into in
    let size = length-map moves f in
    let within = stands.within in
    subst P (at-map f moves stands.at 0 m stands.within ∙ ap f (stands.is m)) (all stands.at 0 (omega arith))

-- Distinct targets and sources.

not_among : (t : ℕ) (moves : List Move) → AllByRecursion (λ y. nat_eq t y ≡ false) (map (λ m. m.1) moves) → move_into moves t ≡ None
not_among t [] none = refl
not_among t (m ∷ moves) none =
    let other : m.1 ≡ t → ⊥ = λ is. eqb-false t m.1 none.0 (sym is) in
    move_into-past m moves t other ∙ not_among t moves none.1

once : (moves : List Move) → IsDistinct nat_eq (map (λ m. m.1) moves) → TargetsOnce moves
unfolding IsDistinct
once [] distinct = tt
once (m ∷ moves) distinct = (not_among m.1 moves distinct.0, once moves distinct.1)

other_source : (s : ℕ) (moves : List Move) (p : ℕ) (m : Move) → AllByRecursion (λ y. nat_eq s y ≡ false) (map (λ k. k.0) moves) → move_into moves p ≡ Some m → s ≡ m.0 → ⊥
other_source s [] p m none into is = not_none m into
other_source s (n ∷ moves) p m none into is = elim (cases_eq n.1 p) [
  | inl at ↦
      let same = ap (λ (k : Move). k.0) (same_some n m (sym (move_into-here n moves p at) ∙ into)) in
      absurd (eqb-false s n.0 none.0 (is ∙ sym same))
  | inr beside ↦ absurd (other_source s moves p m none.1 (sym (move_into-past n moves p beside) ∙ into) is)
]

sources_once : (moves : List Move) → IsDistinct nat_eq (map (λ m. m.0) moves) → (p q : ℕ) (m n : Move) → move_into moves p ≡ Some m → move_into moves q ≡ Some n → m.0 ≡ n.0 → p ≡ q
unfolding IsDistinct
sources_once [] distinct p q m n into_p into_q same = absurd (not_none m into_p)
sources_once (k ∷ moves) distinct p q m n into_p into_q same = elim (cases_eq k.1 p) [
  | inl is_p ↦ elim (cases_eq k.1 q) [
    | inl is_q ↦ sym is_p ∙ is_q
    | inr beside ↦
        let first = ap (λ (x : Move). x.0) (same_some k m (sym (move_into-here k moves p is_p) ∙ into_p)) in
        absurd (other_source k.0 moves q n distinct.0 (sym (move_into-past k moves q beside) ∙ into_q) (first ∙ same))
  ]
  | inr beside ↦ elim (cases_eq k.1 q) [
    | inl is_q ↦
        let first = ap (λ (x : Move). x.0) (same_some k n (sym (move_into-here k moves q is_q) ∙ into_q)) in
        absurd (other_source k.0 moves p m distinct.0 (sym (move_into-past k moves p beside) ∙ into_p) (first ∙ sym same))
    | inr apart ↦ sources_once moves distinct.1 p q m n (sym (move_into-past k moves p beside) ∙ into_p) (sym (move_into-past k moves q apart) ∙ into_q) same
  ]
]

pub placement_movable : (p : Placed) (wide : ℕ) → IsPlacement p → top p.zones ≤ wide → IsMovable wide p.bounce p.moves
placement_movable p wide is high = record {
  pending = record { targets = once p.moves is.targets_distinct; sources = sources_once p.moves is.sources_distinct };
  below = λ q m into.
      let source = below_top p.zones m.0 is.zones.apart (all_meet (λ k. k.0) (Contains (numbers p.zones)) p.moves q m is.sources_valid into) in
      let target = below_top p.zones m.1 is.zones.apart (all_meet (λ k. k.1) (Contains (numbers p.zones)) p.moves q m is.targets_valid into) in
      (omega arith, omega arith);
  source = λ q m into e. is.bounce_unnamed.no_source (subst (Contains (sources p.moves)) e (named (λ k. k.0) p.moves q m into));
  target = none_into p.moves p.bounce (λ m into.
      is.bounce_unnamed.no_target (subst (Contains (targets p.moves)) (target-move_into p.moves p.bounce m into) (named (λ k. k.1) p.moves p.bounce m into)));
}

pub bounce_below : (p : Placed) → IsPlacement p → p.bounce < top p.zones
bounce_below p is = below_top p.zones p.bounce is.zones.apart is.bounce_valid

pub top_below : (p : Placed) → IsPlacement p → top p.zones ≤ 65536
top_below p is = top_at_most p.zones is.zones

-- no target is a list frame
pub target_spared : (p : Placed) → IsPlacement p → (q : ℕ) (m : Move) → move_into p.moves q ≡ Some m → Contains p.list m.1 → ⊥
target_spared p is q m into among =
    let unnamed = is.list_unnamed among.0 m.1 among.1 in
    unnamed.no_target (subst (Contains (targets p.moves)) (sym among.2) (named (λ k. k.1) p.moves q m into))

-- no source is a list frame
pub source_spared : (p : Placed) → IsPlacement p → (q : ℕ) (m : Move) → move_into p.moves q ≡ Some m → Contains p.list m.0 → ⊥
source_spared p is q m into among =
    let unnamed = is.list_unnamed among.0 m.0 among.1 in
    unnamed.no_source (subst (Contains (sources p.moves)) (sym among.2) (named (λ k. k.0) p.moves q m into))
