-- Moves that are emitted one after another: what they do, and then the pending moves at once, is what all moves do at once.
use Rattle.std.proofs.Common.{◌≡◌, ◌≢◌, ℕ, ◌+◌, ◌<◌, ◌≤◌, ◌⊎◌, zero, suc, Bool, true, false, cond, eqb, not, ◌&&◌, List, [], ◌∷◌, ◌++◌, length, length-append, Option, Some, None, refl, sym, ap, ◌∙◌, inl, inr, arith, subst}
use Rattle.std.specs.List.{range_with_len}
use Rattle.std.proofs.lemmas.Bool.{cases_eq, cases_Bool, cond-true, cond-false, eq-eqb, ne_eqb, both_ways, or_left, or_right, and_parts, and_cases, not-true, not-false}
use Rattle.definitions.specs.Moves.{Move, Pass, move_into, is_source, is_target, without_target, emit, pass_over, path_from, paths_over}
use Rattle.placement.specs.Pending.{IsPending}
use Rattle.placement.proofs.Pending.{not_none, same_some, target-move_into, move_into-without_same, move_into-without_other, move_into-from_without, length-without, IsPending-without, is_source-move_into, is_source-without_same, is_source-without_other, no_source_without}

-- The page frame whose page lies in q after one move, and in p after moves one after another.

abbrev pub before_move : Move → ℕ → ℕ
before_move m q = cond (eqb q m.1) m.0 q

abbrev pub origin : List Move → ℕ → ℕ
origin [] p = p
origin (m ∷ moves) p = before_move m (origin moves p)

pub origin-push : (moves : List Move) (m : Move) (p : ℕ) → origin (moves ++ m ∷ []) p ≡ origin moves (before_move m p)
origin-push [] m p = refl
origin-push (n ∷ moves) m p = ap (before_move n) (origin-push moves m p)

-- The page frame whose page lies in p after these moves at once.

abbrev pub source_or : Option Move → ℕ → ℕ
source_or None p = p
source_or (Some m) p = m.0

abbrev pub at_once : List Move → ℕ → ℕ
at_once moves p = source_or (move_into moves p) p

-- A move doesn't overwrite the source of a later one, unless in the bounce frame.

abbrev pub SparesAll : ℕ → Move → List Move → Type 0
SparesAll bounce m [] = Unit {0}
SparesAll bounce m (n ∷ moves) = (m.1 ≡ n.0 → m.1 ≡ bounce) × SparesAll bounce m moves

abbrev pub InOrder : ℕ → List Move → Type 0
InOrder bounce [] = Unit {0}
InOrder bounce (m ∷ moves) = SparesAll bounce m moves × InOrder bounce moves

-- the targets of these moves, but for the bounce frame, are no sources of pending moves
abbrev pub Settled : ℕ → List Move → List Move → Type 0
Settled bounce pending [] = Unit {0}
Settled bounce pending (m ∷ moves) = (m.1 ≢ bounce → is_source pending m.1 ≡ false) × Settled bounce pending moves

-- the page frames of these moves are below `size`
abbrev pub LieBelow : ℕ → List Move → Type 0
LieBelow size [] = Unit {0}
LieBelow size (m ∷ moves) = (m.0 < size) × (m.1 < size) × LieBelow size moves

-- the targets of these moves all meet T
abbrev pub Meet : (ℕ → Type 0) → List Move → Type 0
Meet T [] = Unit {0}
Meet T (m ∷ moves) = T m.1 × Meet T moves

SparesAll-push : (bounce : ℕ) (m : Move) (moves : List Move) (n : Move) → SparesAll bounce m moves → (m.1 ≡ n.0 → m.1 ≡ bounce) → SparesAll bounce m (moves ++ n ∷ [])
SparesAll-push bounce m [] n spares one = (one, tt)
SparesAll-push bounce m (k ∷ moves) n spares one = (spares.0, SparesAll-push bounce m moves n spares.1 one)

pub InOrder-push : (bounce : ℕ) (pending moves : List Move) (n : Move) → Settled bounce pending moves → is_source pending n.0 ≡ true → InOrder bounce moves → InOrder bounce (moves ++ n ∷ [])
InOrder-push bounce pending [] n settled source ordered = (tt, tt)
InOrder-push bounce pending (m ∷ moves) n settled source ordered =
    let one : m.1 ≡ n.0 → m.1 ≡ bounce =
    λ same.
    elim (cases_eq m.1 bounce) [
      | inl is ↦ is
      | inr other ↦ absurd (both_ways (is_source pending n.0) (ap (is_source pending) (sym same) ∙ settled.0 other) source)
    ] in
    (SparesAll-push bounce m moves n ordered.0 one, InOrder-push bounce pending moves n settled.1 source ordered.1)

pub Settled-push : (bounce : ℕ) (pending rest moves : List Move) (n : Move) → Settled bounce pending moves → ((s : ℕ) → s ≢ bounce → is_source pending s ≡ false → is_source rest s ≡ false) → (n.1 ≢ bounce → is_source rest n.1 ≡ false) → Settled bounce rest (moves ++ n ∷ [])
Settled-push bounce pending rest [] n settled fewer one = (one, tt)
Settled-push bounce pending rest (m ∷ moves) n settled fewer one =
    let here : m.1 ≢ bounce → is_source rest m.1 ≡ false = λ other. fewer m.1 other (settled.0 other) in
    (here, Settled-push bounce pending rest moves n settled.1 fewer one)

pub LieBelow-push : (size : ℕ) (moves : List Move) (n : Move) → LieBelow size moves → n.0 < size → n.1 < size → LieBelow size (moves ++ n ∷ [])
LieBelow-push size [] n below from to = (from, to, tt)
LieBelow-push size (m ∷ moves) n below from to = (below.0, below.1, LieBelow-push size moves n below.2 from to)

pub Meet-push : (T : ℕ → Type 0) (moves : List Move) (n : Move) → Meet T moves → T n.1 → Meet T (moves ++ n ∷ [])
Meet-push T [] n meet one = (one, tt)
Meet-push T (m ∷ moves) n meet one = (meet.0, Meet-push T moves n meet.1 one)

-- What was emitted, and then the pending moves at once, is what all moves do at once.
pub record Emitting (T : ℕ → Type 0) (size bounce : ℕ) (moves : List Move) (pass : Pass) : Type 0 where
  pub does : (p : ℕ) → p ≢ bounce → origin pass.emitted (at_once pass.pending p) ≡ at_once moves p
  pub ordered : InOrder bounce pass.emitted
  pub settled : Settled bounce pass.pending pass.emitted
  pub below : LieBelow size pass.emitted
  pub pending_below : (p : ℕ) (m : Move) → move_into pass.pending p ≡ Some m → (m.0 < size) × (m.1 < size)
  pub meet : Meet T pass.emitted
  pub pending_meet : (p : ℕ) (m : Move) → move_into pass.pending p ≡ Some m → T m.1

at_once-apart : (pending : List Move) (t p : ℕ) (o : Option Move) → move_into pending p ≡ o → p ≢ t → is_source pending t ≡ false → source_or o p ≡ t → ⊥
at_once-apart pending t p None e apart free is = apart is
at_once-apart pending t p (Some n) e apart free is =
    both_ways (is_source pending t) free (subst (λ (s : ℕ). is_source pending s ≡ true) is (is_source-move_into pending p n e))

before_move-here : (m : Move) (q : ℕ) → q ≡ m.1 → before_move m q ≡ m.0
before_move-here m q is = cond-true (eqb q m.1) m.0 q (eq-eqb q m.1 is)

before_move-other : (m : Move) (q : ℕ) → (q ≡ m.1 → ⊥) → before_move m q ≡ q
before_move-other m q other = cond-false (eqb q m.1) m.0 q (ne_eqb q m.1 other)

-- A move is emitted whose target is the source of no other pending move.
abbrev pub after_move : Pass → Move → ℕ → Pass
after_move pass m t = record { emitted = pass.emitted ++ m ∷ []; pending = without_target pass.pending t }

does_after : (T : ℕ → Type 0) (size bounce : ℕ) (moves : List Move) (pass : Pass) (t : ℕ) (m : Move) → IsPending pass.pending → Emitting T size bounce moves pass → move_into pass.pending t ≡ Some m → is_source (without_target pass.pending t) t ≡ false → (p : ℕ) → p ≢ bounce → origin (pass.emitted ++ m ∷ []) (at_once (without_target pass.pending t) p) ≡ at_once moves p
does_after T size bounce moves pass t m pending emitting into free p apart =
    let rest = without_target pass.pending t in
    let target = target-move_into pass.pending t m into in
    origin-push pass.emitted m (at_once rest p)
    ∙ elim (cases_eq p t) as (λ _. origin pass.emitted (before_move m (at_once rest p)) ≡ at_once moves p) [
      | inl is ↦
          let none : at_once rest p ≡ m.1 = ap (λ (o : Option Move). source_or o p) (ap (move_into rest) is ∙ move_into-without_same pass.pending t) ∙ is ∙ sym target in
          let here : at_once pass.pending p ≡ m.0 = ap (λ (o : Option Move). source_or o p) (ap (move_into pass.pending) is ∙ into) in
          ap (origin pass.emitted) (before_move-here m (at_once rest p) none ∙ sym here) ∙ emitting.does p apart
      | inr other ↦
          let same : at_once rest p ≡ at_once pass.pending p = ap (λ (o : Option Move). source_or o p) (move_into-without_other pass.pending t p other) in
          let past = at_once-apart rest t p (move_into rest p) refl other free in
          ap (origin pass.emitted) (before_move-other m (at_once rest p) (λ e. past (e ∙ target)) ∙ same) ∙ emitting.does p apart
    ]

pub emitting_after : (T : ℕ → Type 0) (size bounce : ℕ) (moves : List Move) (pass : Pass) (t : ℕ) (m : Move) → IsPending pass.pending → Emitting T size bounce moves pass → move_into pass.pending t ≡ Some m → is_source (without_target pass.pending t) t ≡ false → Emitting T size bounce moves (after_move pass m t)
emitting_after T size bounce moves pass t m pending emitting into free =
    let rest = without_target pass.pending t in
    let target = target-move_into pass.pending t m into in
    let ends = emitting.pending_below t m into in
    record {
      does = does_after T size bounce moves pass t m pending emitting into free;
      ordered = InOrder-push bounce pass.pending pass.emitted m emitting.settled (is_source-move_into pass.pending t m into) emitting.ordered;
      settled =
          Settled-push bounce pass.pending rest pass.emitted m emitting.settled (λ s _ none. no_source_without pass.pending t s pending.targets none)
          (λ _. ap (is_source rest) target ∙ free);
      below = LieBelow-push size pass.emitted m emitting.below ends.0 ends.1;
      pending_below = λ p n into_p. emitting.pending_below p n (move_into-from_without pass.pending t p n into_p).1;
      meet = Meet-push T pass.emitted m emitting.meet (emitting.pending_meet t m into);
      pending_meet = λ p n into_p. emitting.pending_meet p n (move_into-from_without pass.pending t p n into_p).1;
    }

-- From one pass to a later one.
pub record Progress (T : ℕ → Type 0) (size bounce : ℕ) (moves : List Move) (before after : Pass) : Type 0 where
  pub emitting : Emitting T size bounce moves after
  pub pending : IsPending after.pending
  pub count : length after.emitted + length after.pending ≡ length before.emitted + length before.pending
  pub fewer : length after.pending ≤ length before.pending
  pub kept : (q : ℕ) (m : Move) → move_into after.pending q ≡ Some m → move_into before.pending q ≡ Some m

pub no_progress : (T : ℕ → Type 0) (size bounce : ℕ) (moves : List Move) (pass : Pass) → IsPending pass.pending → Emitting T size bounce moves pass → Progress T size bounce moves pass pass
no_progress T size bounce moves pass pending emitting = record {
  emitting = emitting;
  pending = pending;
  count = refl;
  fewer = omega arith;
  kept = λ q m into. into;
}

pub more_progress : (T : ℕ → Type 0) (size bounce : ℕ) (moves : List Move) (a b c : Pass) → Progress T size bounce moves a b → Progress T size bounce moves b c → Progress T size bounce moves a c
more_progress T size bounce moves a b c first second =
    let one = first.count in
    let two = second.count in
    let less = first.fewer in
    let lesser = second.fewer in
    record {
      emitting = second.emitting;
      pending = second.pending;
      count = two ∙ one;
      fewer = omega arith;
      kept = λ q m into. first.kept q m (second.kept q m into);
    }

pub progress_after : (T : ℕ → Type 0) (size bounce : ℕ) (moves : List Move) (pass : Pass) (t : ℕ) (m : Move) → IsPending pass.pending → Emitting T size bounce moves pass → move_into pass.pending t ≡ Some m → is_source (without_target pass.pending t) t ≡ false → Progress T size bounce moves pass (after_move pass m t)
progress_after T size bounce moves pass t m pending emitting into free =
    let size_after = length-without pass.pending t m pending.targets into in
    let one_more = length-append pass.emitted (m ∷ []) in
    record {
      emitting = emitting_after T size bounce moves pass t m pending emitting into free;
      pending = IsPending-without pass.pending t pending;
      count = omega arith;
      fewer = omega arith;
      kept = λ q n into_q. (move_into-from_without pass.pending t q n into_q).1;
    }

-- A pass over targets.

emit_progress : (T : ℕ → Type 0) (size bounce : ℕ) (moves : List Move) (pass : Pass) (p : ℕ) (o : Option Move) → move_into pass.pending p ≡ o → IsPending pass.pending → Emitting T size bounce moves pass → Progress T size bounce moves pass (emit pass o)
emit_progress T size bounce moves pass p None into pending emitting = no_progress T size bounce moves pass pending emitting
emit_progress T size bounce moves pass p (Some m) into pending emitting =
    let target = target-move_into pass.pending p m into in
    let here : move_into pass.pending m.1 ≡ Some m = ap (move_into pass.pending) target ∙ into in
    elim (cases_Bool (is_source pass.pending m.1)) [
      | inl source ↦
          subst (Progress T size bounce moves pass) (sym (cond-true (is_source pass.pending m.1) pass (after_move pass m m.1) source)) (no_progress T size bounce moves pass pending emitting)
      | inr free ↦
          subst (Progress T size bounce moves pass) (sym (cond-false (is_source pass.pending m.1) pass (after_move pass m m.1) free))
          (progress_after T size bounce moves pass m.1 m pending emitting here (no_source_without pass.pending m.1 m.1 pending.targets free))
    ]

pub pass_progress : (T : ℕ → Type 0) (size bounce : ℕ) (moves : List Move) (ps : List ℕ) (pass : Pass) → IsPending pass.pending → Emitting T size bounce moves pass → Progress T size bounce moves pass (pass_over ps pass)
pass_progress T size bounce moves [] pass pending emitting = no_progress T size bounce moves pass pending emitting
pass_progress T size bounce moves (p ∷ ps) pass pending emitting =
    let next = emit pass (move_into pass.pending p) in
    let first = emit_progress T size bounce moves pass p (move_into pass.pending p) refl pending emitting in
    more_progress T size bounce moves pass next (pass_over ps next) first (pass_progress T size bounce moves ps next first.pending first.emitting)

-- A path from page frame x.

-- each target of a pending move is the source of one, but for those that A names
abbrev pub ClosedBut : (ℕ → Type 0) → List Move → Type 0
ClosedBut A pending = (q : ℕ) (m : Move) → move_into pending q ≡ Some m → (is_source pending q ≡ true) ⊎ A q

pub record PathDone (T : ℕ → Type 0) (size bounce : ℕ) (moves : List Move) (A : ℕ → Type 0) (x : ℕ) (before after : Pass) : Type 0 where
  pub progress : Progress T size bounce moves before after
  pub closed : ClosedBut A after.pending
  pub gone : move_into after.pending x ≡ None
  pub shorter : (m : Move) → move_into before.pending x ≡ Some m → length after.pending + 1 ≤ length before.pending
  pub two : (m k : Move) → move_into before.pending x ≡ Some m → move_into before.pending m.0 ≡ Some k → m.0 ≢ x → length after.pending + 2 ≤ length before.pending

none_pending : (pending : List Move) (q : ℕ) (m : Move) → length pending ≤ 0 → move_into pending q ≡ Some m → ⊥
none_pending [] q m none e = not_none m e
none_pending (n ∷ pending) q m none e = absurd (omega arith)

pub none_into : (pending : List Move) (q : ℕ) → ((m : Move) → move_into pending q ≡ Some m → ⊥) → move_into pending q ≡ None
none_into pending q none = go (move_into pending q) refl where
  go : (o : Option Move) → move_into pending q ≡ o → o ≡ None
  go None e = refl
  go (Some m) e = absurd (none m e)

pub path_done : (T : ℕ → Type 0) (size bounce : ℕ) (moves : List Move) (A : ℕ → Type 0) (n x : ℕ) (o : Option Move) (pass : Pass) → length pass.pending ≤ n → move_into pass.pending x ≡ o → is_source pass.pending x ≡ false → IsPending pass.pending → Emitting T size bounce moves pass → ClosedBut (λ q. (q ≡ x) ⊎ A q) pass.pending → PathDone T size bounce moves A x pass (path_from n o pass)
path_done T size bounce moves A zero x o pass enough into free pending emitting closed = record {
  progress = no_progress T size bounce moves pass pending emitting;
  closed = λ q m here. absurd (none_pending pass.pending q m enough here);
  gone = none_into pass.pending x (λ m here. none_pending pass.pending x m enough here);
  shorter = λ m here. absurd (none_pending pass.pending x m enough here);
  two = λ m k here _ _. absurd (none_pending pass.pending x m enough here);
}
path_done T size bounce moves A (suc n) x None pass enough into free pending emitting closed = record {
  progress = no_progress T size bounce moves pass pending emitting;
  closed = λ q m here.
      elim (closed q m here) [
        | inl source ↦ inl source
        | inr (inl is) ↦ absurd (not_none m (sym into ∙ ap (move_into pass.pending) (sym is) ∙ here))
        | inr (inr named) ↦ inr named
      ];
  gone = into;
  shorter = λ m here. absurd (not_none m (sym into ∙ here));
  two = λ m k here _ _. absurd (not_none m (sym into ∙ here));
}
path_done T size bounce moves A (suc n) x (Some m) pass enough into free pending emitting closed =
    let target = target-move_into pass.pending x m into in
    let here : move_into pass.pending m.1 ≡ Some m = ap (move_into pass.pending) target ∙ into in
    let rest = without_target pass.pending m.1 in
    let next = after_move pass m m.1 in
    let less = length-without pass.pending m.1 m pending.targets here in
    let unused = no_source_without pass.pending m.1 m.1 pending.targets (ap (is_source pass.pending) target ∙ free) in
    let first = progress_after T size bounce moves pass m.1 m pending emitting here unused in
    let closed_next : ClosedBut (λ q. (q ≡ m.0) ⊎ A q) rest =
    λ q k into_q.
    let kept = move_into-from_without pass.pending m.1 q k into_q in
    elim (closed q k kept.1) [
      | inl source ↦ elim (cases_eq q m.0) [
        | inl is ↦ inr (inl is)
        | inr other ↦ inl (is_source-without_other pass.pending m.1 q m pending here other ∙ source)
      ]
      | inr (inl is) ↦ absurd (kept.0 (is ∙ sym target))
      | inr (inr named) ↦ inr (inr named)
    ] in
    let done = path_done T size bounce moves A n m.0 (move_into rest m.0) next (omega arith) refl (is_source-without_same pass.pending m.1 m pending here) first.pending first.emitting closed_next in
    let fewer = done.progress.fewer in
    let after = path_from n (move_into rest m.0) next in
    record {
      progress = more_progress T size bounce moves pass next after first done.progress;
      closed = done.closed;
      gone = none_into after.pending x (λ k still.
          not_none k (sym (move_into-without_same pass.pending m.1) ∙ ap (move_into rest) target ∙ done.progress.kept x k still));
      shorter = λ _ _. omega arith;
      two = λ k l into_k into_l apart.
          let same : k ≡ m = same_some k m (sym into_k ∙ into) in
          let source = ap (λ (y : Move). y.0) same in
          let apart_m : m.0 ≢ m.1 = λ e. apart (source ∙ e ∙ target) in
          let second = done.shorter l (move_into-without_other pass.pending m.1 m.0 apart_m ∙ ap (move_into pass.pending) (sym source) ∙ into_l) in
          omega arith;
    }

-- Paths from all page frames.

abbrev pub Among : List ℕ → ℕ → Type 0
Among [] q = ⊥
Among (p ∷ ps) q = (q ≡ p) ⊎ Among ps q

pub Among-range : (a n q : ℕ) → a ≤ q → q < a + n → Among (range_with_len a n) q
Among-range a zero q le lt = absurd (omega arith)
Among-range a (suc n) q le lt = elim (cases_eq q a) [ inl is ↦ inl is | inr other ↦ inr (Among-range (a + 1) n q (omega arith) (omega arith)) ]

pub is_target-move_into : (pending : List Move) (p : ℕ) (m : Move) → move_into pending p ≡ Some m → is_target pending p ≡ true
is_target-move_into [] p m e = absurd (not_none m e)
is_target-move_into (n ∷ pending) p m e = elim (cases_eq n.1 p) [
  | inl is ↦ or_left (eqb n.1 p) (is_target pending p) (eq-eqb n.1 p is)
  | inr other ↦
      or_right (eqb n.1 p) (is_target pending p)
      (is_target-move_into pending p m (sym (cond-false (eqb n.1 p) (Some n) (move_into pending p) (ne_eqb n.1 p other)) ∙ e))
]

abbrev starts_path : List Move → ℕ → Bool
starts_path pending p = is_target pending p && not (is_source pending p)

pub record PathsDone (T : ℕ → Type 0) (size bounce : ℕ) (moves : List Move) (before after : Pass) : Type 0 where
  pub progress : Progress T size bounce moves before after
  pub closed : (q : ℕ) (m : Move) → move_into after.pending q ≡ Some m → is_source after.pending q ≡ true

pub paths_done : (T : ℕ → Type 0) (size bounce : ℕ) (moves : List Move) (ps : List ℕ) (pass : Pass) → IsPending pass.pending → Emitting T size bounce moves pass → ClosedBut (Among ps) pass.pending → PathsDone T size bounce moves pass (paths_over ps pass)
paths_done T size bounce moves [] pass pending emitting closed = record {
  progress = no_progress T size bounce moves pass pending emitting;
  closed = λ q m here. elim (closed q m here) [ inl source ↦ source | inr none ↦ absurd none ];
}
paths_done T size bounce moves (p ∷ ps) pass pending emitting closed =
    let along = path_from (length pass.pending) (move_into pass.pending p) pass in
    elim (cases_Bool (starts_path pass.pending p)) [
      | inl starts ↦
          let parts = and_parts (is_target pass.pending p) (not (is_source pass.pending p)) starts in
          let done = path_done T size bounce moves (Among ps) (length pass.pending) p (move_into pass.pending p) pass (omega arith) refl (not-true (is_source pass.pending p) parts.1) pending emitting closed in
          let rest = paths_done T size bounce moves ps along done.progress.pending done.progress.emitting done.closed in
          let all : PathsDone T size bounce moves pass (paths_over ps along) =
          record { progress = more_progress T size bounce moves pass along (paths_over ps along) done.progress rest.progress; closed = rest.closed } in
          subst (λ (next : Pass). PathsDone T size bounce moves pass (paths_over ps next)) (sym (cond-true (starts_path pass.pending p) along pass starts)) all
      | inr stays ↦
          let closed_next : ClosedBut (Among ps) pass.pending =
          λ q m here.
          elim (closed q m here) [
            | inl source ↦ inl source
            | inr (inl is) ↦
                elim (and_cases (is_target pass.pending p) (not (is_source pass.pending p)) stays) [
                  | inl untouched ↦ absurd (both_ways (is_target pass.pending p) untouched (is_target-move_into pass.pending p m (ap (move_into pass.pending) (sym is) ∙ here)))
                  | inr source ↦ inl (ap (is_source pass.pending) is ∙ not-false (is_source pass.pending p) source)
                ]
            | inr (inr named) ↦ inr named
          ] in
          let all = paths_done T size bounce moves ps pass pending emitting closed_next in
          subst (λ (next : Pass). PathsDone T size bounce moves pass (paths_over ps next)) (sym (cond-false (starts_path pass.pending p) along pass stays)) all
    ]
