-- Pending moves: a list of moves with distinct targets is a map from page frames to sources.
use Rattle.std.proofs.Common.{◌≡◌, ◌≢◌, ℕ, ◌+◌, ◌≤◌, Bool, true, false, eqb, not, ◌||◌, List, [], ◌∷◌, length, filter, Some, None, refl, sym, ap, ◌∙◌, inl, inr, arith, subst}
use Rattle.std.proofs.lemmas.Bool.{cases_eq, cases_Bool, cond-true, cond-false, eq-eqb, ne_eqb, or_left, or_right, both_ways, not_from_true, not_from_false}
use Rattle.definitions.specs.Moves.{Move, move_into, is_source, without_target}
use Rattle.placement.specs.Pending.{TargetsOnce, IsPending}

-- The first move of a list.

pub move_into-here : (m : Move) (moves : List Move) (p : ℕ) → m.1 ≡ p → move_into (m ∷ moves) p ≡ Some m
move_into-here m moves p is = cond-true (eqb m.1 p) (Some m) (move_into moves p) (eq-eqb m.1 p is)

pub move_into-past : (m : Move) (moves : List Move) (p : ℕ) → (m.1 ≡ p → ⊥) → move_into (m ∷ moves) p ≡ move_into moves p
move_into-past m moves p other = cond-false (eqb m.1 p) (Some m) (move_into moves p) (ne_eqb m.1 p other)

is_source-here : (m : Move) (moves : List Move) (s : ℕ) → m.0 ≡ s → is_source (m ∷ moves) s ≡ true
is_source-here m moves s is = or_left (eqb m.0 s) (is_source moves s) (eq-eqb m.0 s is)

is_source-past : (m : Move) (moves : List Move) (s : ℕ) → (m.0 ≡ s → ⊥) → is_source (m ∷ moves) s ≡ is_source moves s
is_source-past m moves s other = ap (λ (b : Bool). b || is_source moves s) (ne_eqb m.0 s other)

without-here : (m : Move) (moves : List Move) (t : ℕ) → m.1 ≡ t → without_target (m ∷ moves) t ≡ without_target moves t
without-here m moves t is = cond-false (not (eqb m.1 t)) (m ∷ without_target moves t) (without_target moves t) (not_from_true (eqb m.1 t) (eq-eqb m.1 t is))

without-past : (m : Move) (moves : List Move) (t : ℕ) → (m.1 ≡ t → ⊥) → without_target (m ∷ moves) t ≡ m ∷ without_target moves t
without-past m moves t other = cond-true (not (eqb m.1 t)) (m ∷ without_target moves t) (without_target moves t) (not_from_false (eqb m.1 t) (ne_eqb m.1 t other))

pub not_none : {A : Type 0} (a : A) → None ≡ Some a → ⊥
not_none a e = cc

pub same_some : {A : Type 0} (a b : A) → Some a ≡ Some b → a ≡ b
same_some a b e = cc

-- The move into a page frame.

pub target-move_into : (moves : List Move) (p : ℕ) (m : Move) → move_into moves p ≡ Some m → m.1 ≡ p
target-move_into [] p m e = absurd (not_none m e)
target-move_into (n ∷ moves) p m e = elim (cases_eq n.1 p) [
  | inl is ↦ ap (λ (x : Move). x.1) (same_some m n (sym e ∙ move_into-here n moves p is)) ∙ is
  | inr other ↦ target-move_into moves p m (sym (move_into-past n moves p other) ∙ e)
]

pub move_into-without_same : (moves : List Move) (t : ℕ) → move_into (without_target moves t) t ≡ None
move_into-without_same [] t = refl
move_into-without_same (n ∷ moves) t = elim (cases_eq n.1 t) [
  | inl is ↦ ap (λ (ms : List Move). move_into ms t) (without-here n moves t is) ∙ move_into-without_same moves t
  | inr other ↦
      ap (λ (ms : List Move). move_into ms t) (without-past n moves t other)
      ∙ move_into-past n (without_target moves t) t other ∙ move_into-without_same moves t
]

pub move_into-without_other : (moves : List Move) (t p : ℕ) → (p ≡ t → ⊥) → move_into (without_target moves t) p ≡ move_into moves p
move_into-without_other [] t p apart = refl
move_into-without_other (n ∷ moves) t p apart = elim (cases_eq n.1 t) [
  | inl is ↦
      ap (λ (ms : List Move). move_into ms p) (without-here n moves t is) ∙ move_into-without_other moves t p apart
      ∙ sym (move_into-past n moves p (λ e. apart (sym e ∙ is)))
  | inr other ↦
      ap (λ (ms : List Move). move_into ms p) (without-past n moves t other)
      ∙ elim (cases_eq n.1 p) as (λ _. move_into (n ∷ without_target moves t) p ≡ move_into (n ∷ moves) p) [
        | inl is ↦ move_into-here n (without_target moves t) p is ∙ sym (move_into-here n moves p is)
        | inr past ↦
            move_into-past n (without_target moves t) p past ∙ move_into-without_other moves t p apart ∙ sym (move_into-past n moves p past)
      ]
]

-- what a list without a target moves, the list moves
pub move_into-from_without : (moves : List Move) (t p : ℕ) (m : Move) → move_into (without_target moves t) p ≡ Some m → (p ≢ t) × (move_into moves p ≡ Some m)
move_into-from_without moves t p m e =
    let apart : p ≢ t = λ is. not_none m (sym (ap (λ (q : ℕ). move_into (without_target moves t) q) is ∙ move_into-without_same moves t) ∙ e) in
    (apart, sym (move_into-without_other moves t p apart) ∙ e)

pub without_none : (moves : List Move) (t : ℕ) → move_into moves t ≡ None → without_target moves t ≡ moves
without_none [] t e = refl
without_none (n ∷ moves) t e = elim (cases_eq n.1 t) [
  | inl is ↦ absurd (not_none n (sym e ∙ move_into-here n moves t is))
  | inr other ↦ without-past n moves t other ∙ ap (λ (ms : List Move). n ∷ ms) (without_none moves t (sym (move_into-past n moves t other) ∙ e))
]

pub length-without : (moves : List Move) (t : ℕ) (m : Move) → TargetsOnce moves → move_into moves t ≡ Some m → length (without_target moves t) + 1 ≡ length moves
length-without [] t m once e = absurd (not_none m e)
length-without (n ∷ moves) t m once e = elim (cases_eq n.1 t) [
  | inl is ↦
      let same = without-here n moves t is ∙ without_none moves t (ap (move_into moves) (sym is) ∙ once.0) in
      let size = ap length same in
      omega arith
  | inr other ↦
      let before = length-without moves t m once.1 (sym (move_into-past n moves t other) ∙ e) in
      let size = ap length (without-past n moves t other) in
      omega arith
]

pub move_into-none_without : (moves : List Move) (t p : ℕ) → move_into moves p ≡ None → move_into (without_target moves t) p ≡ None
move_into-none_without moves t p none = elim (cases_eq p t) [
  | inl is ↦ ap (λ (q : ℕ). move_into (without_target moves t) q) is ∙ move_into-without_same moves t
  | inr apart ↦ move_into-without_other moves t p apart ∙ none
]

targets-without : (moves : List Move) (t : ℕ) → TargetsOnce moves → TargetsOnce (without_target moves t)
targets-without [] t once = tt
targets-without (n ∷ moves) t once = elim (cases_eq n.1 t) [
  | inl is ↦ subst TargetsOnce (sym (without-here n moves t is)) (targets-without moves t once.1)
  | inr other ↦
      let both : TargetsOnce (n ∷ without_target moves t) = (move_into-none_without moves t n.1 once.0, targets-without moves t once.1) in
      subst TargetsOnce (sym (without-past n moves t other)) both
]

pub IsPending-without : (moves : List Move) (t : ℕ) → IsPending moves → IsPending (without_target moves t)
IsPending-without moves t pending = record {
  targets = targets-without moves t pending.targets;
  sources = λ p q m n into_p into_q same.
      pending.sources p q m n (move_into-from_without moves t p m into_p).1 (move_into-from_without moves t q n into_q).1 same;
}

-- Sources.

pub is_source-move_into : (moves : List Move) (p : ℕ) (m : Move) → move_into moves p ≡ Some m → is_source moves m.0 ≡ true
is_source-move_into [] p m e = absurd (not_none m e)
is_source-move_into (n ∷ moves) p m e = elim (cases_eq n.1 p) [
  | inl is ↦ is_source-here n moves m.0 (ap (λ (x : Move). x.0) (same_some n m (sym (move_into-here n moves p is) ∙ e)))
  | inr other ↦ or_right (eqb n.0 m.0) (is_source moves m.0) (is_source-move_into moves p m (sym (move_into-past n moves p other) ∙ e))
]

-- the pending move from a page frame
pub record MoveFrom (moves : List Move) (s : ℕ) : Type 0 where
  pub move : Move
  pub into : move_into moves move.1 ≡ Some move
  pub from : move.0 ≡ s

pub move_from : (moves : List Move) (s : ℕ) → TargetsOnce moves → is_source moves s ≡ true → MoveFrom moves s
move_from [] s once e = absurd (both_ways false refl e)
move_from (n ∷ moves) s once e = elim (cases_eq n.0 s) [
  | inl is ↦ record { move = n; into = move_into-here n moves n.1 refl; from = is }
  | inr other ↦
      let found = move_from moves s once.1 (sym (is_source-past n moves s other) ∙ e) in
      let past : n.1 ≡ found.move.1 → ⊥ = λ same. not_none found.move (sym (ap (move_into moves) (sym same) ∙ once.0) ∙ found.into) in
      record { move = found.move; into = move_into-past n moves found.move.1 past ∙ found.into; from = found.from }
]

-- The source of a move that was taken away is none any more.
pub is_source-without_same : (moves : List Move) (t : ℕ) (m : Move) → IsPending moves → move_into moves t ≡ Some m → is_source (without_target moves t) m.0 ≡ false
is_source-without_same moves t m pending into = elim (cases_Bool (is_source (without_target moves t) m.0)) [
  | inr hasnt ↦ hasnt
  | inl has ↦
      let found = move_from (without_target moves t) m.0 (targets-without moves t pending.targets) has in
      let kept = move_into-from_without moves t found.move.1 found.move found.into in
      absurd (kept.0 (pending.sources found.move.1 t found.move m kept.1 into found.from))
]

pub is_source-without_other : (moves : List Move) (t s : ℕ) (m : Move) → IsPending moves → move_into moves t ≡ Some m → (s ≡ m.0 → ⊥) → is_source (without_target moves t) s ≡ is_source moves s
is_source-without_other moves t s m pending into apart = elim (cases_Bool (is_source moves s)) [
  | inl has ↦
      let found = move_from moves s pending.targets has in
      let other : found.move.1 ≡ t → ⊥ = λ is. apart (sym found.from ∙ ap (λ (x : Move). x.0) (same_some found.move m (sym found.into ∙ ap (move_into moves) is ∙ into))) in
      let kept = move_into-without_other moves t found.move.1 other ∙ found.into in
      subst (λ (q : ℕ). is_source (without_target moves t) q ≡ true) found.from (is_source-move_into (without_target moves t) found.move.1 found.move kept) ∙ sym has
  | inr hasnt ↦
      elim (cases_Bool (is_source (without_target moves t) s)) as (λ _. is_source (without_target moves t) s ≡ is_source moves s) [
        | inr none ↦ none ∙ sym hasnt
        | inl has ↦
            let found = move_from (without_target moves t) s (targets-without moves t pending.targets) has in
            let kept = move_into-from_without moves t found.move.1 found.move found.into in
            absurd (both_ways (is_source moves s) hasnt (subst (λ (q : ℕ). is_source moves q ≡ true) found.from (is_source-move_into moves found.move.1 found.move kept.1)))
      ]
]

pub no_source_without : (moves : List Move) (t s : ℕ) → TargetsOnce moves → is_source moves s ≡ false → is_source (without_target moves t) s ≡ false
no_source_without moves t s once hasnt = elim (cases_Bool (is_source (without_target moves t) s)) [
  | inr none ↦ none
  | inl has ↦
      let found = move_from (without_target moves t) s (targets-without moves t once) has in
      let kept = move_into-from_without moves t found.move.1 found.move found.into in
      absurd (both_ways (is_source moves s) hasnt (subst (λ (q : ℕ). is_source moves q ≡ true) found.from (is_source-move_into moves found.move.1 found.move kept.1)))
]

-- Where every target is a source, every source is a target, since there are as many of both.

abbrev without_source : List Move → ℕ → List Move
without_source moves s = filter (λ m. not (eqb m.0 s)) moves

length-without_source_le : (moves : List Move) (s : ℕ) → length (without_source moves s) ≤ length moves
length-without_source_le [] s = omega arith
length-without_source_le (n ∷ moves) s =
    let before = length-without_source_le moves s in
    elim (cases_eq n.0 s) [
      | inl is ↦
          let size = ap length (cond-false (not (eqb n.0 s)) (n ∷ without_source moves s) (without_source moves s) (not_from_true (eqb n.0 s) (eq-eqb n.0 s is))) in
          omega arith
      | inr other ↦
          let size = ap length (cond-true (not (eqb n.0 s)) (n ∷ without_source moves s) (without_source moves s) (not_from_false (eqb n.0 s) (ne_eqb n.0 s other))) in
          omega arith
    ]

length-without_source : (moves : List Move) (s : ℕ) → is_source moves s ≡ true → length (without_source moves s) + 1 ≤ length moves
length-without_source [] s e = absurd (both_ways false refl e)
length-without_source (n ∷ moves) s e = elim (cases_eq n.0 s) [
  | inl is ↦
      let before = length-without_source_le moves s in
      let size = ap length (cond-false (not (eqb n.0 s)) (n ∷ without_source moves s) (without_source moves s) (not_from_true (eqb n.0 s) (eq-eqb n.0 s is))) in
      omega arith
  | inr other ↦
      let before = length-without_source moves s (sym (is_source-past n moves s other) ∙ e) in
      let size = ap length (cond-true (not (eqb n.0 s)) (n ∷ without_source moves s) (without_source moves s) (not_from_false (eqb n.0 s) (ne_eqb n.0 s other))) in
      omega arith
]

is_source-without_source : (moves : List Move) (s q : ℕ) → (q ≡ s → ⊥) → is_source moves q ≡ true → is_source (without_source moves s) q ≡ true
is_source-without_source [] s q apart e = e
is_source-without_source (n ∷ moves) s q apart e = elim (cases_eq n.0 s) [
  | inl is ↦
      ap (λ (ms : List Move). is_source ms q) (cond-false (not (eqb n.0 s)) (n ∷ without_source moves s) (without_source moves s) (not_from_true (eqb n.0 s) (eq-eqb n.0 s is)))
      ∙ is_source-without_source moves s q apart (sym (is_source-past n moves q (λ same. apart (sym same ∙ is))) ∙ e)
  | inr other ↦
      ap (λ (ms : List Move). is_source ms q) (cond-true (not (eqb n.0 s)) (n ∷ without_source moves s) (without_source moves s) (not_from_false (eqb n.0 s) (ne_eqb n.0 s other)))
      ∙ elim (cases_eq n.0 q) as (λ _. is_source (n ∷ without_source moves s) q ≡ true) [
        | inl here ↦ is_source-here n (without_source moves s) q here
        | inr past ↦
            is_source-past n (without_source moves s) q past
            ∙ is_source-without_source moves s q apart (sym (is_source-past n moves q past) ∙ e)
      ]
]

-- as many sources as distinct targets, at least, where each target is a source of the other list
pub fewer_targets : (xs ys : List Move) → TargetsOnce xs → ((p : ℕ) (m : Move) → move_into xs p ≡ Some m → is_source ys p ≡ true) → length xs ≤ length ys
fewer_targets [] ys once among = omega arith
fewer_targets (x ∷ xs) ys once among =
    let size = length-without_source ys x.1 (among x.1 x (move_into-here x xs x.1 refl)) in
    let rest : (p : ℕ) (m : Move) → move_into xs p ≡ Some m → is_source (without_source ys x.1) p ≡ true =
    λ p m into.
    let apart : p ≡ x.1 → ⊥ = λ is. not_none m (sym (ap (move_into xs) is ∙ once.0) ∙ into) in
    is_source-without_source ys x.1 p apart (among p m (move_into-past x xs p (λ e. apart (sym e)) ∙ into)) in
    let before = fewer_targets xs (without_source ys x.1) once.1 rest in
    omega arith

pub target_of_source : (moves : List Move) (s : ℕ) → TargetsOnce moves → ((p : ℕ) (m : Move) → move_into moves p ≡ Some m → is_source moves p ≡ true) → is_source moves s ≡ true → move_into moves s ≡ None → ⊥
target_of_source moves s once closed source none =
    let x : Move = (s, s) in
    let both : TargetsOnce (x ∷ moves) = (none, once) in
    let among : (p : ℕ) (m : Move) → move_into (x ∷ moves) p ≡ Some m → is_source moves p ≡ true =
    λ p m into.
    elim (cases_eq s p) [
      | inl is ↦ ap (is_source moves) (sym is) ∙ source
      | inr other ↦ closed p m (sym (move_into-past x moves p other) ∙ into)
    ] in
    let more = fewer_targets (x ∷ moves) moves both among in
    absurd (omega arith)
