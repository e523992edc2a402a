-- Moves that are made pending, one after another.
use Rattle.std.proofs.Common.{◌≡◌, ℕ, ◌+◌, ◌*◌, ◌<◌, ◌≤◌, zero, suc, Bool, true, false, eqb, not, ◌||◌, List, [], ◌∷◌, ◌++◌, length, length-append, take, drop, set, get_or, length-set, map, Option, Some, None, refl, sym, ap, ap₂, ◌∙◌, inl, inr, arith, subst}
use Rattle.std.specs.List.{range_with_len}
use Rattle.std.proofs.lemmas.Bool.{cases_eq, eq-eqb, ne_eqb, or_left, or_right}
use Rattle.std.proofs.lemmas.List.{get_or-set_same, get_or-set_other, take_more, take-append-drop}
use Rattle.std.proofs.lemmas.List.FromFn.{length-map-range_with_len}
use Rattle.std.proofs.lemmas.List.Elements.{filter-append}
use Rattle.std.proofs.lemmas.List.Folds.{list_any-append}
use Rattle.definitions.specs.Moves.{Move, move_into, is_source}
use Rattle.placement.specs.declared.relocation.order.Order.{Order}
use Rattle.placement.specs.Pending.{TargetsOnce, IsPending, IsMovable, begun}
use Rattle.placement.specs.Performing.{real_moves}
use Rattle.placement.specs.Tables.{source_of, IsAt, IsSized}
use Rattle.placement.proofs.Pending.{move_into-here, move_into-past, not_none, target-move_into, fewer_targets}
use Rattle.placement.proofs.Emitting.{none_into}
use Rattle.placement.proofs.Sequencing.{into-real, IsPending-real, real-itself, real-other}

-- The first moves of a list.

front-kept : (xs ys : List Move) (p : ℕ) (m : Move) → move_into xs p ≡ Some m → move_into (xs ++ ys) p ≡ Some m
front-kept [] ys p m into = absurd (not_none m into)
front-kept (x ∷ xs) ys p m into = elim (cases_eq x.1 p) [
  | inl is ↦ move_into-here x (xs ++ ys) p is ∙ sym (move_into-here x xs p is) ∙ into
  | inr other ↦ move_into-past x (xs ++ ys) p other ∙ front-kept xs ys p m (sym (move_into-past x xs p other) ∙ into)
]

front-once : (xs ys : List Move) → TargetsOnce (xs ++ ys) → TargetsOnce xs
front-once [] ys once = tt
front-once (x ∷ xs) ys once =
    let first : move_into xs x.1 ≡ None = none_into xs x.1 (λ m into. not_none m (sym once.0 ∙ front-kept xs ys x.1 m into)) in
    (first, front-once xs ys once.1)

front-pending : (xs ys : List Move) → IsPending (xs ++ ys) → IsPending xs
front-pending xs ys pending = record {
  targets = front-once xs ys pending.targets;
  sources = λ p q m n into_p into_q same. pending.sources p q m n (front-kept xs ys p m into_p) (front-kept xs ys q n into_q) same;
}

-- the last move's target is not one before
last-new : (xs : List Move) (m : Move) → TargetsOnce (xs ++ m ∷ []) → move_into xs m.1 ≡ None
last-new [] m once = refl
last-new (x ∷ xs) m once =
    let apart : x.1 ≡ m.1 → ⊥ = λ is. not_found xs m x.1 is once.0 in
    move_into-past x xs m.1 apart ∙ last-new xs m once.1 where
      not_found : (ys : List Move) (k : Move) (t : ℕ) → t ≡ k.1 → move_into (ys ++ k ∷ []) t ≡ None → ⊥
      not_found [] k t is none = not_none k (sym none ∙ move_into-here k [] t (sym is))
      not_found (y ∷ ys) k t is none = elim (cases_eq y.1 t) [
        | inl here ↦ not_none y (sym none ∙ move_into-here y (ys ++ k ∷ []) t here)
        | inr past ↦ not_found ys k t is (sym (move_into-past y (ys ++ k ∷ []) t past) ∙ none)
      ]

push-same : (xs : List Move) (m : Move) (p : ℕ) → move_into xs p ≡ None → m.1 ≡ p → move_into (xs ++ m ∷ []) p ≡ Some m
push-same [] m p none is = move_into-here m [] p is
push-same (x ∷ xs) m p none is = elim (cases_eq x.1 p) [
  | inl here ↦ absurd (not_none x (sym none ∙ move_into-here x xs p here))
  | inr past ↦ move_into-past x (xs ++ m ∷ []) p past ∙ push-same xs m p (sym (move_into-past x xs p past) ∙ none) is
]

push-other : (xs : List Move) (m : Move) (p : ℕ) → (m.1 ≡ p → ⊥) → move_into (xs ++ m ∷ []) p ≡ move_into xs p
push-other [] m p other = move_into-past m [] p other
push-other (x ∷ xs) m p other = elim (cases_eq x.1 p) [
  | inl here ↦ move_into-here x (xs ++ m ∷ []) p here ∙ sym (move_into-here x xs p here)
  | inr past ↦ move_into-past x (xs ++ m ∷ []) p past ∙ push-other xs m p other ∙ sym (move_into-past x xs p past)
]

source-push_same : (xs : List Move) (m : Move) (s : ℕ) → m.0 ≡ s → is_source (xs ++ m ∷ []) s ≡ true
source-push_same xs m s is =
    list_any-append (λ (k : Move). eqb k.0 s) xs (m ∷ []) ∙ or_right (is_source xs s) (is_source (m ∷ []) s) (or_left (eqb m.0 s) false (eq-eqb m.0 s is))

or-false : (b : Bool) → (b || false) ≡ b
or-false true = refl
or-false false = refl

source-push_other : (xs : List Move) (m : Move) (s : ℕ) → (m.0 ≡ s → ⊥) → is_source (xs ++ m ∷ []) s ≡ is_source xs s
source-push_other xs m s other =
    list_any-append (λ (k : Move). eqb k.0 s) xs (m ∷ [])
    ∙ ap (λ (b : Bool). is_source xs s || (b || false)) (ne_eqb m.0 s other) ∙ or-false (is_source xs s)

-- one move more
real-more : (moves : List Move) (i : ℕ) (d : Move) → i < length moves → real_moves (take (i + 1) moves) ≡ real_moves (take i moves) ++ real_moves (get_or moves i d ∷ [])
real-more moves i d lt =
    ap real_moves (take_more moves i d lt) ∙ filter-append (λ (m : Move). not (eqb m.0 m.1)) (take i moves) (get_or moves i d ∷ [])

pub IsPending-front : (moves : List Move) (i : ℕ) → IsPending moves → IsPending (take i moves)
IsPending-front moves i pending = front-pending (take i moves) (drop i moves) (subst IsPending (sym (take-append-drop i moves)) pending)

pub front-into : (moves : List Move) (i p : ℕ) (m : Move) → move_into (take i moves) p ≡ Some m → move_into moves p ≡ Some m
front-into moves i p m into = ap (λ (ms : List Move). move_into ms p) (sym (take-append-drop i moves)) ∙ front-kept (take i moves) (drop i moves) p m into

-- A move of a page frame to itself changes nothing.
pub loaded_itself : (o : Order) (moves : List Move) (i : ℕ) (d : Move) → i < length moves → (get_or moves i d).0 ≡ (get_or moves i d).1 → IsAt o (begun (take i moves)) → IsAt o (begun (take (i + 1) moves))
loaded_itself o moves i d lt itself at =
    let same : real_moves (take i moves) ≡ real_moves (take (i + 1) moves) =
    sym (real-more moves i d lt ∙ ap (λ (ms : List Move). real_moves (take i moves) ++ ms) (real-itself (get_or moves i d) [] itself) ∙ nothing (real_moves (take i moves))) in
    subst (λ (ms : List Move). IsAt o (record { emitted = []; pending = ms })) same at where
      nothing : (xs : List Move) → xs ++ [] ≡ xs
      nothing [] = refl
      nothing (x ∷ xs) = ap (λ (ys : List Move). x ∷ ys) (nothing xs)

pub record IsLoaded (old new : Order) (m : Move) : Type 0 where
  pub sources : new.sources.items ≡ set old.sources.items m.1 (Some m.0)
  pub leaves : new.leaves.items ≡ set old.leaves.items m.0 true
  pub pending : new.pending ≡ old.pending + 1
  pub moves : new.moves.items ≡ old.moves.items
  pub len : new.len ≡ old.len
  pub top : new.top ≡ old.top

pub sized_loaded : (old new : Order) (m : Move) → IsLoaded old new m → IsSized old → IsSized new
sized_loaded old new m loaded sized = record {
  sources = ap length loaded.sources ∙ length-set old.sources.items m.1 (Some m.0) ∙ sized.sources ∙ sym loaded.top;
  leaves = ap length loaded.leaves ∙ length-set old.leaves.items m.0 true ∙ sized.leaves ∙ sym loaded.top;
  moves = ap length loaded.moves ∙ sized.moves ∙ ap (λ (n : ℕ). 2 * n) (sym loaded.top);
}

-- the i-th move is among the first i + 1
pub into-at : (moves : List Move) (i : ℕ) (d : Move) → i < length moves → TargetsOnce moves → move_into moves (get_or moves i d).1 ≡ Some (get_or moves i d)
into-at [] i d lt once = absurd (omega arith)
into-at (m ∷ moves) zero d lt once = move_into-here m moves m.1 refl
into-at (m ∷ moves) (suc i) d lt once =
    let rest = into-at moves i d (omega arith) once.1 in
    let other : m.1 ≡ (get_or moves i d).1 → ⊥ = λ is. not_none (get_or moves i d) (sym once.0 ∙ ap (move_into moves) is ∙ rest) in
    move_into-past m moves (get_or moves i d).1 other ∙ rest

pub loaded_more : (old new : Order) (moves : List Move) (i : ℕ) (d : Move) → i < length moves → IsPending moves → ((p : ℕ) (m : Move) → move_into moves p ≡ Some m → (m.0 < old.top) × (m.1 < old.top)) → ((get_or moves i d).0 ≡ (get_or moves i d).1 → ⊥) → IsLoaded old new (get_or moves i d) → IsAt old (begun (take i moves)) → IsAt new (begun (take (i + 1) moves))
loaded_more old new moves i d lt pending below other loaded at =
    let m = get_or moves i d in
    let before = real_moves (take i moves) in
    let more : before ++ m ∷ [] ≡ real_moves (take (i + 1) moves) =
    sym (real-more moves i d lt ∙ ap (λ (ms : List Move). before ++ ms) (real-other m [] other)) in
    let ends = below m.1 m (into-at moves i d lt pending.targets) in
    let source_below = ends.0 in
    let target_below = ends.1 in
    let after = IsPending-real (take (i + 1) moves) (IsPending-front moves (i + 1) pending) in
    let after_push : IsPending (before ++ m ∷ []) = subst IsPending (sym more) after in
    let new_target = last-new before m after_push.targets in
    let targets_size = at.targets_size in
    let sources_size = at.sources_size in
    let top = loaded.top in
    let count = at.count in
    let one_more = length-append before (m ∷ []) in
    let pending_more = loaded.pending in
    let room = ap length loaded.moves in
    let same_len = loaded.len in
    let fits = at.len in
    let whole : IsAt new (record { emitted = []; pending = before ++ m ∷ [] }) = record {
      sources = λ p within.
          ap (λ (xs : List (Option ℕ)). get_or xs p None) loaded.sources
          ∙ elim (cases_eq p m.1) as (λ _. get_or (set old.sources.items m.1 (Some m.0)) p None ≡ source_of (move_into (before ++ m ∷ []) p)) [
            | inl is ↦
                ap (λ (q : ℕ). get_or (set old.sources.items m.1 (Some m.0)) q None) is ∙ get_or-set_same old.sources.items m.1 (Some m.0) None (omega arith)
                ∙ sym (ap source_of (ap (move_into (before ++ m ∷ [])) is ∙ push-same before m m.1 new_target refl))
            | inr past ↦
                get_or-set_other old.sources.items m.1 p (Some m.0) None past ∙ at.sources p (omega arith)
                ∙ sym (ap source_of (push-other before m p (λ e. past (sym e))))
          ];
      leaves = λ p within.
          ap (λ (xs : List Bool). get_or xs p false) loaded.leaves
          ∙ elim (cases_eq p m.0) as (λ _. get_or (set old.leaves.items m.0 true) p false ≡ is_source (before ++ m ∷ []) p) [
            | inl is ↦
                ap (λ (q : ℕ). get_or (set old.leaves.items m.0 true) q false) is ∙ get_or-set_same old.leaves.items m.0 true false (omega arith)
                ∙ sym (source-push_same before m p (sym is))
            | inr past ↦
                get_or-set_other old.leaves.items m.0 p true false past ∙ at.leaves p (omega arith)
                ∙ sym (source-push_other before m p (λ e. past (sym e)))
          ];
      count = omega arith;
      emitted = ap₂ (λ (n : ℕ) (xs : List Move). take n xs) loaded.len loaded.moves ∙ at.emitted;
      len = omega arith;
      pending = after_push;
      below = λ p n into.
          let there = front-into moves (i + 1) p n (into-real (take (i + 1) moves) (IsPending-front moves (i + 1) pending).targets p n (ap (λ (ms : List Move). move_into ms p) (sym more) ∙ into)).0 in
          let both = below p n there in
          (omega arith, omega arith);
      targets_size =
          let same = ap length loaded.sources ∙ length-set old.sources.items m.1 (Some m.0) in
          omega arith;
      sources_size =
          let same = ap length loaded.leaves ∙ length-set old.leaves.items m.0 true in
          omega arith;
    } in
    subst (λ (ms : List Move). IsAt new (record { emitted = []; pending = ms })) more whole

-- There are no more moves than page frames below the top.

abbrev itself_at : ℕ → Move
itself_at p = (p, p)

abbrev stays : ℕ → ℕ → List Move
stays a n = map itself_at (range_with_len a n)

stays-source : (a n p : ℕ) → a ≤ p → p < a + n → is_source (stays a n) p ≡ true
stays-source a zero p le lt = absurd (omega arith)
stays-source a (suc n) p le lt = elim (cases_eq a p) [
  | inl is ↦ or_left (eqb a p) (is_source (stays (a + 1) n) p) (eq-eqb a p is)
  | inr other ↦ or_right (eqb a p) (is_source (stays (a + 1) n) p) (stays-source (a + 1) n p (omega arith) (omega arith))
]

pub moves_at_most : (top bounce : ℕ) (moves : List Move) → IsMovable top bounce moves → length moves ≤ top
moves_at_most top bounce moves movable =
    let fewer = fewer_targets moves (stays 0 top) movable.pending.targets (λ p m into.
    let ends = movable.below p m into in
    let target = target-move_into moves p m into in
    let below = ends.1 in
    stays-source 0 top p (omega arith) (omega arith)) in
    let same = length-map-range_with_len itself_at 0 top in
    omega arith

length-real_le : (moves : List Move) → length (real_moves moves) ≤ length moves
length-real_le [] = omega arith
length-real_le (m ∷ moves) =
    let before = length-real_le moves in
    elim (cases_eq m.0 m.1) [
      | inl is ↦ let same = ap length (real-itself m moves is) in omega arith
      | inr other ↦ let same = ap length (real-other m moves other) in omega arith
    ]

-- at most `top` moves are pending after i moves
pub pending_at_most : (o : Order) (moves : List Move) (i top bounce : ℕ) → IsAt o (begun (take i moves)) → IsMovable top bounce moves → o.pending ≤ top
pending_at_most o moves i top bounce at movable =
    let most = moves_at_most top bounce moves movable in
    let count = at.count in
    let few = length-real_le (take i moves) in
    let split = ap length (take-append-drop i moves) in
    let sum = length-append (take i moves) (drop i moves) in
    omega arith
