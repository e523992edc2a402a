-- What the order of moves does, how long it is, and which page frames it names.
use Rattle.std.proofs.Common.{◌≡◌, ◌≢◌, ℕ, ◌*◌, ◌<◌, ◌≤◌, eqb, not, List, [], ◌∷◌, length, Option, Some, None, refl, sym, ap, ◌∙◌, inl, inr, arith, subst}
use Rattle.std.proofs.lemmas.Bool.{cases_eq, cond-true, cond-false, eq-eqb, ne_eqb, not_from_true, not_from_false}
use Rattle.definitions.specs.Moves.{Move, Pass, move_into, pass_over, paths_over, cycles_over, ascending, descending, sequence}
use Rattle.placement.specs.Performing.{real_moves}
use Rattle.placement.specs.Pending.{TargetsOnce, IsPending, IsMovable, begun}
use Rattle.placement.proofs.Pending.{move_into-here, move_into-past, not_none, target-move_into}
use Rattle.placement.proofs.Emitting.{origin, source_or, at_once, InOrder, LieBelow, Meet, Emitting, Progress, ClosedBut, Among, Among-range, none_into, pass_progress, more_progress, PathsDone, paths_done}
use Rattle.placement.proofs.Cycles.{IsApart, IsApart-kept, Cyclic, AllDone, cycles_done}

-- Moves of a page frame to itself are left out.

pub real-itself : (m : Move) (moves : List Move) → m.0 ≡ m.1 → real_moves (m ∷ moves) ≡ real_moves moves
real-itself m moves is = cond-false (not (eqb m.0 m.1)) (m ∷ real_moves moves) (real_moves moves) (not_from_true (eqb m.0 m.1) (eq-eqb m.0 m.1 is))

pub real-other : (m : Move) (moves : List Move) → (m.0 ≡ m.1 → ⊥) → real_moves (m ∷ moves) ≡ m ∷ real_moves moves
real-other m moves other = cond-true (not (eqb m.0 m.1)) (m ∷ real_moves moves) (real_moves moves) (not_from_false (eqb m.0 m.1) (ne_eqb m.0 m.1 other))

pub into-real : (moves : List Move) → TargetsOnce moves → (p : ℕ) (m : Move) → move_into (real_moves moves) p ≡ Some m → (move_into moves p ≡ Some m) × (m.0 ≢ m.1)
into-real [] once p m into = absurd (not_none m into)
into-real (n ∷ moves) once p m into = elim (cases_eq n.0 n.1) [
  | inl is ↦
      let found = into-real moves once.1 p m (ap (λ (ms : List Move). move_into ms p) (sym (real-itself n moves is)) ∙ into) in
      let past : n.1 ≡ p → ⊥ = λ same. not_none m (sym once.0 ∙ ap (move_into moves) same ∙ found.0) in
      (move_into-past n moves p past ∙ found.0, found.1)
  | inr other ↦
      let rest = ap (λ (ms : List Move). move_into ms p) (sym (real-other n moves other)) ∙ into in
      elim (cases_eq n.1 p) [
        | inl here ↦
            let first = sym (move_into-here n (real_moves moves) p here) ∙ rest in
            let same : n ≡ m = cc in
            (move_into-here n moves p here ∙ first, subst (λ (k : Move). k.0 ≢ k.1) same other)
        | inr past ↦
            let found = into-real moves once.1 p m (sym (move_into-past n (real_moves moves) p past) ∙ rest) in
            (move_into-past n moves p past ∙ found.0, found.1)
      ]
]

itself_or_real : (moves : List Move) (p : ℕ) (m : Move) → move_into (real_moves moves) p ≡ None → move_into moves p ≡ Some m → m.0 ≡ m.1
itself_or_real [] p m none into = absurd (not_none m into)
itself_or_real (n ∷ moves) p m none into = elim (cases_eq n.0 n.1) [
  | inl is ↦ elim (cases_eq n.1 p) [
    | inl here ↦
        let first = sym (move_into-here n moves p here) ∙ into in
        let same : n ≡ m = cc in
        subst (λ (k : Move). k.0 ≡ k.1) same is
    | inr past ↦ itself_or_real moves p m (ap (λ (ms : List Move). move_into ms p) (sym (real-itself n moves is)) ∙ none) (sym (move_into-past n moves p past) ∙ into)
  ]
  | inr other ↦
      let rest = ap (λ (ms : List Move). move_into ms p) (sym (real-other n moves other)) ∙ none in
      elim (cases_eq n.1 p) [
        | inl here ↦ absurd (not_none n (sym rest ∙ move_into-here n (real_moves moves) p here))
        | inr past ↦ itself_or_real moves p m (sym (move_into-past n (real_moves moves) p past) ∙ rest) (sym (move_into-past n moves p past) ∙ into)
      ]
]

targets-real : (moves : List Move) → TargetsOnce moves → TargetsOnce (real_moves moves)
targets-real [] once = tt
targets-real (n ∷ moves) once = elim (cases_eq n.0 n.1) [
  | inl is ↦ subst TargetsOnce (sym (real-itself n moves is)) (targets-real moves once.1)
  | inr other ↦
      let first : move_into (real_moves moves) n.1 ≡ None = none_into (real_moves moves) n.1 (λ m into. not_none m (sym once.0 ∙ (into-real moves once.1 n.1 m into).0)) in
      let both : TargetsOnce (n ∷ real_moves moves) = (first, targets-real moves once.1) in
      subst TargetsOnce (sym (real-other n moves other)) both
]

pub IsPending-real : (moves : List Move) → IsPending moves → IsPending (real_moves moves)
IsPending-real moves pending = record {
  targets = targets-real moves pending.targets;
  sources = λ p q m n into_p into_q same.
      pending.sources p q m n (into-real moves pending.targets p m into_p).0 (into-real moves pending.targets q n into_q).0 same;
}

at_once-real : (moves : List Move) (p : ℕ) → TargetsOnce moves → at_once (real_moves moves) p ≡ at_once moves p
at_once-real moves p once = go (move_into (real_moves moves) p) refl (move_into moves p) refl where
  go : (r : Option Move) → move_into (real_moves moves) p ≡ r → (o : Option Move) → move_into moves p ≡ o → at_once (real_moves moves) p ≡ at_once moves p
  go (Some m) real o into = ap (λ (k : Option Move). source_or k p) (real ∙ sym (into-real moves once p m real).0)
  go None none None into = ap (λ (k : Option Move). source_or k p) (none ∙ sym into)
  go None none (Some m) into =
      let to = target-move_into moves p m into in
      let from = itself_or_real moves p m none into in
      let at : m.0 ≡ p = from ∙ to in
      ap (λ (k : Option Move). source_or k p) none ∙ sym at ∙ sym (ap (λ (k : Option Move). source_or k p) into)

-- The passes of the order of moves.

abbrev pub passed : ℕ → List Move → Pass
passed top moves = pass_over (ascending top) (pass_over (descending top) (begun moves))

abbrev pub all_passes : ℕ → ℕ → List Move → Pass
all_passes top bounce moves = cycles_over bounce (ascending top) (paths_over (ascending top) (passed top moves))

pub sequence-passes : (top bounce : ℕ) (moves : List Move) → sequence top bounce moves ≡ (all_passes top bounce moves).emitted
unfolding sequence
sequence-passes top bounce moves = refl

module _ (T : ℕ → Type 0) (top size bounce : ℕ) (moves : List Move) (movable : IsMovable top bounce moves) (high : top ≤ size) (room : bounce < size) (meets : (p : ℕ) (m : Move) → move_into moves p ≡ Some m → T m.1) (meets_bounce : T bounce) where
  pub is_begun : Emitting T size bounce moves (begun moves)
  is_begun = record {
    does = λ p past. at_once-real moves p movable.pending.targets;
    ordered = tt;
    settled = tt;
    below = tt;
    pending_below = λ p m into.
        let ends = movable.below p m (into-real moves movable.pending.targets p m into).0 in
        (omega arith, omega arith);
    meet = tt;
    pending_meet = λ p m into. meets p m (into-real moves movable.pending.targets p m into).0;
  }

  apart_begun : IsApart bounce (real_moves moves)
  apart_begun = record {
    source = λ p m into. movable.source p m (into-real moves movable.pending.targets p m into).0;
    target = none_into (real_moves moves) bounce (λ m into. not_none m (sym movable.target ∙ (into-real moves movable.pending.targets bounce m into).0));
    itself = λ p m into is.
        let found = into-real moves movable.pending.targets p m into in
        found.1 (is ∙ sym (target-move_into moves p m found.0));
  }

  pub after_passes : Progress T size bounce moves (begun moves) (passed top moves)
  after_passes =
      let down = pass_progress T size bounce moves (descending top) (begun moves) (IsPending-real moves movable.pending) is_begun in
      let half = pass_over (descending top) (begun moves) in
      let up = pass_progress T size bounce moves (ascending top) half down.pending down.emitting in
      more_progress T size bounce moves (begun moves) half (passed top moves) down up

  among_begun : (q : ℕ) (m : Move) → move_into (real_moves moves) q ≡ Some m → Among (ascending top) q
  among_begun q m into =
      let found = (into-real moves movable.pending.targets q m into).0 in
      let target = target-move_into moves q m found in
      let below = (movable.below q m found).1 in
      Among-range 0 top q (omega arith) (omega arith)

  after_paths : PathsDone T size bounce moves (passed top moves) (paths_over (ascending top) (passed top moves))
  after_paths =
      let closed : ClosedBut (Among (ascending top)) (passed top moves).pending = λ q m into. inr (among_begun q m (after_passes.kept q m into)) in
      paths_done T size bounce moves (ascending top) (passed top moves) after_passes.pending after_passes.emitting closed

  pub before_cycles : Progress T size bounce moves (begun moves) (paths_over (ascending top) (passed top moves))
  before_cycles = more_progress T size bounce moves (begun moves) (passed top moves) (paths_over (ascending top) (passed top moves)) after_passes after_paths.progress

  cyclic : Cyclic T size bounce moves (3 * length (real_moves moves)) (paths_over (ascending top) (passed top moves))
  cyclic =
      let count = before_cycles.count in
      let fewer = before_cycles.fewer in
      record {
        emitting = before_cycles.emitting;
        pending = before_cycles.pending;
        apart = IsApart-kept bounce (real_moves moves) (paths_over (ascending top) (passed top moves)).pending before_cycles.kept apart_begun;
        closed = after_paths.closed;
        cost = omega arith;
      }

  pub passes_done : AllDone T size bounce moves (3 * length (real_moves moves)) (all_passes top bounce moves)
  passes_done =
      cycles_done T size bounce moves (3 * length (real_moves moves)) meets_bounce room (ascending top) (paths_over (ascending top) (passed top moves)) cyclic
      (λ q m into. among_begun q m (before_cycles.kept q m into))

  -- after the moves in this order each page frame but the bounce frame has the page that it has after all at once
  pub sequence_does : (p : ℕ) → p ≢ bounce → origin (sequence top bounce moves) p ≡ at_once moves p
  sequence_does p past =
      ap (λ (ms : List Move). origin ms p) (sequence-passes top bounce moves)
      ∙ ap (λ (ms : List Move). origin (all_passes top bounce moves).emitted (at_once ms p)) (sym passes_done.none)
      ∙ passes_done.cyclic.emitting.does p past

  pub sequence_in_order : InOrder bounce (sequence top bounce moves)
  sequence_in_order = subst (InOrder bounce) (sym (sequence-passes top bounce moves)) passes_done.cyclic.emitting.ordered

  pub sequence_below : LieBelow size (sequence top bounce moves)
  sequence_below = subst (LieBelow size) (sym (sequence-passes top bounce moves)) passes_done.cyclic.emitting.below

  pub sequence_meets : Meet T (sequence top bounce moves)
  sequence_meets = subst (Meet T) (sym (sequence-passes top bounce moves)) passes_done.cyclic.emitting.meet

  pub sequence_cost : 2 * length (sequence top bounce moves) ≤ 3 * length (real_moves moves)
  sequence_cost =
      let cost = passes_done.cyclic.cost in
      let same = ap length (sequence-passes top bounce moves) in
      omega arith
