-- Passes over more page frames than the moves name do the same.
use Rattle.std.proofs.Common.{◌≡◌, ℕ, ◌+◌, ◌≤◌, zero, suc, not, ◌&&◌, List, [], ◌∷◌, ◌++◌, length, reverse, Some, None, refl, sym, ap, ◌∙◌, arith}
use Rattle.std.specs.List.{range_with_len}
use Rattle.std.proofs.lemmas.Bool.{cond-false, and_left}
use Rattle.std.proofs.lemmas.List.{reverse-append}
use Rattle.definitions.specs.Moves.{Move, Pass, move_into, is_source, is_target, emit, pass_over, path_from, paths_over, cycle_from, cycles_over, ascending, descending, sequence}
use Rattle.placement.specs.Pending.{IsMovable, begun}
use Rattle.placement.specs.Performing.{real_moves}
use Rattle.placement.proofs.Pending.{not_none, target-move_into}
use Rattle.placement.proofs.Emitting.{none_into, pass_progress}
use Rattle.placement.proofs.Cycles.{no_target}
use Rattle.placement.proofs.Sequencing.{passed, all_passes, sequence-passes, into-real, IsPending-real, is_begun, after_passes, before_cycles, passes_done}
use Rattle.placement.proofs.Walking.{pass_over-append, paths_over-append, cycles_over-append}

-- no pending move goes into page frames from a on
abbrev NoneFrom : ℕ → List Move → Type 0
NoneFrom a pending = (p : ℕ) → a ≤ p → move_into pending p ≡ None

emits_none : (pass : Pass) (p : ℕ) → move_into pass.pending p ≡ None → emit pass (move_into pass.pending p) ≡ pass
emits_none pass p none = ap (emit pass) none

pass_none : (k n : ℕ) (a : ℕ) (pass : Pass) → a ≤ k → NoneFrom a pass.pending → pass_over (range_with_len k n) pass ≡ pass
pass_none k zero a pass le none = refl
pass_none k (suc n) a pass le none =
    ap (pass_over (range_with_len (k + 1) n)) (emits_none pass k (none k le)) ∙ pass_none (k + 1) n a pass (omega arith) none

back_none : (n k a : ℕ) (pass : Pass) → a ≤ k → NoneFrom a pass.pending → pass_over (reverse (range_with_len k n)) pass ≡ pass
back_none zero k a pass le none = refl
back_none (suc n) k a pass le none =
    ap (λ (ps : List ℕ). pass_over ps pass) (reverse-append (k ∷ []) (range_with_len (k + 1) n))
    ∙ pass_over-append (reverse (range_with_len (k + 1) n)) (k ∷ []) pass
    ∙ ap (pass_over (k ∷ [])) (back_none n (k + 1) a pass (omega arith) none) ∙ emits_none pass k (none k le)

paths_none : (k n : ℕ) (a : ℕ) (pass : Pass) → a ≤ k → NoneFrom a pass.pending → paths_over (range_with_len k n) pass ≡ pass
paths_none k zero a pass le none = refl
paths_none k (suc n) a pass le none =
    let starts = and_left (is_target pass.pending k) (not (is_source pass.pending k)) (no_target pass.pending k (none k le)) in
    let along = path_from (length pass.pending) (move_into pass.pending k) pass in
    ap (paths_over (range_with_len (k + 1) n)) (cond-false (is_target pass.pending k && not (is_source pass.pending k)) along pass starts)
    ∙ paths_none (k + 1) n a pass (omega arith) none

cycles_none : (bounce k n : ℕ) (a : ℕ) (pass : Pass) → a ≤ k → NoneFrom a pass.pending → cycles_over bounce (range_with_len k n) pass ≡ pass
cycles_none bounce k zero a pass le none = refl
cycles_none bounce k (suc n) a pass le none =
    let round = cycle_from (length pass.pending) bounce k (move_into pass.pending k) (record { emitted = pass.emitted ++ (k, bounce) ∷ []; pending = pass.pending }) in
    ap (cycles_over bounce (range_with_len (k + 1) n)) (cond-false (is_target pass.pending k) round pass (no_target pass.pending k (none k le)))
    ∙ cycles_none bounce (k + 1) n a pass (omega arith) none

range-split : (a k n : ℕ) → range_with_len a (k + n) ≡ range_with_len a k ++ range_with_len (a + k) n
range-split a zero n =
    let count : 0 + n ≡ n = omega arith in
    let start : a ≡ a + 0 = omega arith in
    ap (range_with_len a) count ∙ ap (λ b. range_with_len b n) start
range-split a (suc k) n =
    let count : suc k + n ≡ suc (k + n) = omega arith in
    let start : a + 1 + k ≡ a + suc k = omega arith in
    ap (range_with_len a) count ∙ ap (λ (t : List ℕ). a ∷ t) (range-split (a + 1) k n)
    ∙ ap (λ b. a ∷ (range_with_len (a + 1) k ++ range_with_len b n)) start

split_top : (top more : ℕ) → ascending (top + more) ≡ ascending top ++ range_with_len top more
split_top top more =
    let start : 0 + top ≡ top = omega arith in
    range-split 0 top more ∙ ap (λ b. range_with_len 0 top ++ range_with_len b more) start

module _ (top bounce more : ℕ) (moves : List Move) (movable : IsMovable top bounce moves) where
  abbrev any : ℕ → Type 0
  any p = Unit {0}

  abbrev size : ℕ
  size = top + bounce + 1

  none_begun : NoneFrom top (real_moves moves)
  none_begun p le = none_into (real_moves moves) p (λ m into.
      let found = (into-real moves movable.pending.targets p m into).0 in
      let target = target-move_into moves p m found in
      let below = (movable.below p m found).1 in
      absurd (omega arith))

  none_kept : (after : List Move) → ((q : ℕ) (m : Move) → move_into after q ≡ Some m → move_into (real_moves moves) q ≡ Some m) → NoneFrom top after
  none_kept after kept p le = none_into after p (λ m into. not_none m (sym (none_begun p le) ∙ kept p m into))

  pub passes_wide : passed (top + more) moves ≡ passed top moves
  passes_wide =
      let down = pass_over (descending top) (begun moves) in
      let begins = is_begun any top size bounce moves movable (omega arith) (omega arith) (λ _ _ _. tt) tt in
      let progress = pass_progress any size bounce moves (descending top) (begun moves) (IsPending-real moves movable.pending) begins in
      let after = after_passes any top size bounce moves movable (omega arith) (omega arith) (λ _ _ _. tt) tt in
      let down_wide : pass_over (descending (top + more)) (begun moves) ≡ down =
      ap (λ (ps : List ℕ). pass_over ps (begun moves)) (ap reverse (split_top top more) ∙ reverse-append (ascending top) (range_with_len top more))
      ∙ pass_over-append (reverse (range_with_len top more)) (descending top) (begun moves)
      ∙ ap (pass_over (descending top)) (back_none more top top (begun moves) (omega arith) none_begun) in
      ap (pass_over (ascending (top + more))) down_wide
      ∙ ap (λ (ps : List ℕ). pass_over ps down) (split_top top more)
      ∙ pass_over-append (ascending top) (range_with_len top more) down
      ∙ pass_none top more top (passed top moves) (omega arith) (none_kept (passed top moves).pending after.kept)

  pub sequence_wide : sequence (top + more) bounce moves ≡ sequence top bounce moves
  sequence_wide =
      let before = before_cycles any top size bounce moves movable (omega arith) (omega arith) (λ _ _ _. tt) tt in
      let all = passes_done any top size bounce moves movable (omega arith) (omega arith) (λ _ _ _. tt) tt in
      let paths = paths_over (ascending top) (passed top moves) in
      let paths_wide : paths_over (ascending (top + more)) (passed (top + more) moves) ≡ paths =
      ap (paths_over (ascending (top + more))) passes_wide
      ∙ ap (λ (ps : List ℕ). paths_over ps (passed top moves)) (split_top top more)
      ∙ paths_over-append (ascending top) (range_with_len top more) (passed top moves)
      ∙ paths_none top more top paths (omega arith) (none_kept paths.pending before.kept) in
      let cycles_wide : all_passes (top + more) bounce moves ≡ all_passes top bounce moves =
      ap (cycles_over bounce (ascending (top + more))) paths_wide
      ∙ ap (λ (ps : List ℕ). cycles_over bounce ps paths) (split_top top more)
      ∙ cycles_over-append bounce (ascending top) (range_with_len top more) paths
      ∙ cycles_none bounce top more top (all_passes top bounce moves) (omega arith)
      (λ p _. ap (λ (ms : List Move). move_into ms p) all.none) in
      sequence-passes (top + more) bounce moves ∙ ap (λ (pass : Pass). pass.emitted) cycles_wide ∙ sym (sequence-passes top bounce moves)
