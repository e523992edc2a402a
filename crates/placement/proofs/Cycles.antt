-- Cycles of moves, each broken through the bounce frame: a cycle through t is a path of the moves with t's place as a
-- source taken by the bounce frame.
use Rattle.std.proofs.Common.{◌≡◌, ◌≢◌, ℕ, ◌+◌, ◌*◌, ◌<◌, ◌≤◌, ◌⊎◌, zero, suc, Bool, true, false, cond, eqb, not, ◌||◌, List, [], ◌∷◌, ◌++◌, length, length-append, map, Option, Some, None, refl, sym, ap, ap₂, ◌∙◌, inl, inr, arith, subst}
use Rattle.std.proofs.lemmas.List.{length-map}
use Rattle.std.proofs.lemmas.Bool.{cases_eq, cases_Bool, cond-true, cond-false, eq-eqb, ne_eqb, both_ways}
use Rattle.definitions.specs.Moves.{Move, Pass, move_into, is_source, is_target, without_target, path_from, with_bounce, cycle_from, cycles_over}
use Rattle.placement.specs.Pending.{TargetsOnce, IsPending}
use Rattle.placement.proofs.Pending.{not_none, same_some, target-move_into, move_into-without_same, move_into-from_without, is_source-move_into, move_from, target_of_source}
use Rattle.placement.proofs.Emitting.{origin, origin-push, before_move, source_or, at_once, InOrder-push, Settled-push, LieBelow-push, Meet-push, Emitting, PathDone, path_done, none_into, Among, is_target-move_into}

-- Moves with t's place as a source taken by the bounce frame.

abbrev pub renamed : ℕ → ℕ → List Move → List Move
renamed bounce t pending = map (with_bounce bounce t) pending

abbrev pub renamed_move : ℕ → ℕ → Option Move → Option Move
renamed_move bounce t None = None
renamed_move bounce t (Some m) = Some (with_bounce bounce t m)

bounce-here : (bounce t : ℕ) (m : Move) → m.0 ≡ t → with_bounce bounce t m ≡ (bounce, m.1)
bounce-here bounce t m is = cond-true (eqb m.0 t) (bounce, m.1) m (eq-eqb m.0 t is)

bounce-other : (bounce t : ℕ) (m : Move) → (m.0 ≡ t → ⊥) → with_bounce bounce t m ≡ m
bounce-other bounce t m other = cond-false (eqb m.0 t) (bounce, m.1) m (ne_eqb m.0 t other)

target-with_bounce : (bounce t : ℕ) (m : Move) → (with_bounce bounce t m).1 ≡ m.1
target-with_bounce bounce t m = elim (cases_eq m.0 t) [
  | inl is ↦ ap (λ (k : Move). k.1) (bounce-here bounce t m is)
  | inr other ↦ ap (λ (k : Move). k.1) (bounce-other bounce t m other)
]

move_into-renamed : (bounce t : ℕ) (pending : List Move) (p : ℕ) → move_into (renamed bounce t pending) p ≡ renamed_move bounce t (move_into pending p)
move_into-renamed bounce t [] p = refl
move_into-renamed bounce t (m ∷ pending) p =
    ap (λ (q : ℕ). cond (eqb q p) (Some (with_bounce bounce t m)) (move_into (renamed bounce t pending) p)) (target-with_bounce bounce t m)
    ∙ elim (cases_eq m.1 p) as (λ _. cond (eqb m.1 p) (Some (with_bounce bounce t m)) (move_into (renamed bounce t pending) p) ≡ renamed_move bounce t (move_into (m ∷ pending) p)) [
      | inl is ↦
          cond-true (eqb m.1 p) (Some (with_bounce bounce t m)) (move_into (renamed bounce t pending) p) (eq-eqb m.1 p is)
          ∙ ap (renamed_move bounce t) (sym (cond-true (eqb m.1 p) (Some m) (move_into pending p) (eq-eqb m.1 p is)))
      | inr other ↦
          cond-false (eqb m.1 p) (Some (with_bounce bounce t m)) (move_into (renamed bounce t pending) p) (ne_eqb m.1 p other)
          ∙ move_into-renamed bounce t pending p
          ∙ ap (renamed_move bounce t) (sym (cond-false (eqb m.1 p) (Some m) (move_into pending p) (ne_eqb m.1 p other)))
    ]

without-renamed : (bounce t : ℕ) (pending : List Move) (x : ℕ) → without_target (renamed bounce t pending) x ≡ renamed bounce t (without_target pending x)
without-renamed bounce t [] x = refl
without-renamed bounce t (m ∷ pending) x =
    let first = with_bounce bounce t m in
    ap₂ (λ (q : ℕ) (ms : List Move). cond (not (eqb q x)) (first ∷ ms) ms) (target-with_bounce bounce t m) (without-renamed bounce t pending x)
    ∙ elim (cases_Bool (not (eqb m.1 x))) as (λ _. cond (not (eqb m.1 x)) (first ∷ renamed bounce t (without_target pending x)) (renamed bounce t (without_target pending x)) ≡ renamed bounce t (without_target (m ∷ pending) x)) [
      | inl stays ↦
          cond-true (not (eqb m.1 x)) (first ∷ renamed bounce t (without_target pending x)) (renamed bounce t (without_target pending x)) stays
          ∙ ap (renamed bounce t) (sym (cond-true (not (eqb m.1 x)) (m ∷ without_target pending x) (without_target pending x) stays))
      | inr goes ↦
          cond-false (not (eqb m.1 x)) (first ∷ renamed bounce t (without_target pending x)) (renamed bounce t (without_target pending x)) goes
          ∙ ap (renamed bounce t) (sym (cond-false (not (eqb m.1 x)) (m ∷ without_target pending x) (without_target pending x) goes))
    ]

-- the pending move that was renamed
record Unrenamed (bounce t : ℕ) (pending : List Move) (p : ℕ) (n : Move) : Type 0 where
  move : Move
  into : move_into pending p ≡ Some move
  is : n ≡ with_bounce bounce t move

unrenamed : (bounce t : ℕ) (pending : List Move) (p : ℕ) (n : Move) → move_into (renamed bounce t pending) p ≡ Some n → Unrenamed bounce t pending p n
unrenamed bounce t pending p n e = go (move_into pending p) refl where
  go : (o : Option Move) → move_into pending p ≡ o → Unrenamed bounce t pending p n
  go None none = absurd (not_none n (ap (renamed_move bounce t) (sym none) ∙ sym (move_into-renamed bounce t pending p) ∙ e))
  go (Some m) some = record {
    move = m;
    into = some;
    is = same_some n (with_bounce bounce t m) (sym e ∙ move_into-renamed bounce t pending p ∙ ap (renamed_move bounce t) some);
  }

into-renamed : (bounce t : ℕ) (pending : List Move) (p : ℕ) (o : Option Move) → move_into pending p ≡ o → move_into (renamed bounce t pending) p ≡ renamed_move bounce t o
into-renamed bounce t pending p o into = move_into-renamed bounce t pending p ∙ ap (renamed_move bounce t) into

targets-renamed : (bounce t : ℕ) (pending : List Move) → TargetsOnce pending → TargetsOnce (renamed bounce t pending)
targets-renamed bounce t [] once = tt
targets-renamed bounce t (m ∷ pending) once =
    let first = ap (move_into (renamed bounce t pending)) (target-with_bounce bounce t m) ∙ into-renamed bounce t pending m.1 None once.0 in
    (first, targets-renamed bounce t pending once.1)

targets-from_renamed : (bounce t : ℕ) (pending : List Move) → TargetsOnce (renamed bounce t pending) → TargetsOnce pending
targets-from_renamed bounce t [] once = tt
targets-from_renamed bounce t (m ∷ pending) once =
    let first : move_into pending m.1 ≡ None =
    none_into pending m.1 (λ k here.
    not_none (with_bounce bounce t k) (sym once.0 ∙ ap (move_into (renamed bounce t pending)) (target-with_bounce bounce t m) ∙ into-renamed bounce t pending m.1 (Some k) here)) in
    (first, targets-from_renamed bounce t pending once.1)

-- the bounce frame is no source and no target, and no page frame moves to itself
pub record IsApart (bounce : ℕ) (pending : List Move) : Type 0 where
  pub source : (p : ℕ) (m : Move) → move_into pending p ≡ Some m → m.0 ≢ bounce
  pub target : move_into pending bounce ≡ None
  pub itself : (p : ℕ) (m : Move) → move_into pending p ≡ Some m → m.0 ≢ p

pub IsApart-kept : (bounce : ℕ) (before after : List Move) → ((q : ℕ) (m : Move) → move_into after q ≡ Some m → move_into before q ≡ Some m) → IsApart bounce before → IsApart bounce after
IsApart-kept bounce before after kept apart = record {
  source = λ p m into. apart.source p m (kept p m into);
  target = none_into after bounce (λ m into. not_none m (sym apart.target ∙ kept bounce m into));
  itself = λ p m into. apart.itself p m (kept p m into);
}

same_renamed : (bounce t : ℕ) (m n : Move) → m.0 ≢ bounce → n.0 ≢ bounce → (with_bounce bounce t m).0 ≡ (with_bounce bounce t n).0 → m.0 ≡ n.0
same_renamed bounce t m n apart_m apart_n same = elim (cases_eq m.0 t) [
  | inl is_m ↦ elim (cases_eq n.0 t) [
    | inl is_n ↦ is_m ∙ sym is_n
    | inr other ↦
        let left = ap (λ (k : Move). k.0) (bounce-here bounce t m is_m) in
        let right = ap (λ (k : Move). k.0) (bounce-other bounce t n other) in
        absurd (apart_n (sym right ∙ sym same ∙ left))
  ]
  | inr past ↦ elim (cases_eq n.0 t) [
    | inl is_n ↦
        let left = ap (λ (k : Move). k.0) (bounce-other bounce t m past) in
        let right = ap (λ (k : Move). k.0) (bounce-here bounce t n is_n) in
        absurd (apart_m (sym left ∙ same ∙ right))
    | inr other ↦
        let left = ap (λ (k : Move). k.0) (bounce-other bounce t m past) in
        let right = ap (λ (k : Move). k.0) (bounce-other bounce t n other) in
        sym left ∙ same ∙ right
  ]
]

IsPending-renamed : (bounce t : ℕ) (pending : List Move) → IsPending pending → IsApart bounce pending → IsPending (renamed bounce t pending)
IsPending-renamed bounce t pending is apart = record {
  targets = targets-renamed bounce t pending is.targets;
  sources = λ p q m n into_p into_q same.
      let one = unrenamed bounce t pending p m into_p in
      let other = unrenamed bounce t pending q n into_q in
      let sources = ap (λ (k : Move). k.0) (sym one.is) ∙ same ∙ ap (λ (k : Move). k.0) other.is in
      is.sources p q one.move other.move one.into other.into
      (same_renamed bounce t one.move other.move (apart.source p one.move one.into) (apart.source q other.move other.into) sources);
}

-- t itself is a source no more
no_source-renamed : (bounce t : ℕ) (pending : List Move) → IsPending pending → IsApart bounce pending → t ≢ bounce → is_source (renamed bounce t pending) t ≡ false
no_source-renamed bounce t pending is apart past = elim (cases_Bool (is_source (renamed bounce t pending) t)) [
  | inr free ↦ free
  | inl source ↦
      let found = move_from (renamed bounce t pending) t (targets-renamed bounce t pending is.targets) source in
      let old = unrenamed bounce t pending found.move.1 found.move found.into in
      let from : (with_bounce bounce t old.move).0 ≡ t = ap (λ (k : Move). k.0) (sym old.is) ∙ found.from in
      elim (cases_eq old.move.0 t) [
        | inl here ↦ absurd (past (sym from ∙ ap (λ (k : Move). k.0) (bounce-here bounce t old.move here)))
        | inr other ↦ absurd (other (sym (ap (λ (k : Move). k.0) (bounce-other bounce t old.move other)) ∙ from))
      ]
]

-- every other source is one still
source-renamed : (bounce t : ℕ) (pending : List Move) (s : ℕ) → IsPending pending → s ≢ t → is_source pending s ≡ true → is_source (renamed bounce t pending) s ≡ true
source-renamed bounce t pending s is past source =
    let found = move_from pending s is.targets source in
    let other : found.move.0 ≢ t = λ e. past (sym found.from ∙ e) in
    let same = bounce-other bounce t found.move other in
    let into = into-renamed bounce t pending found.move.1 (Some found.move) found.into in
    subst (λ (q : ℕ). is_source (renamed bounce t pending) q ≡ true) (ap (λ (k : Move). k.0) same ∙ found.from)
    (is_source-move_into (renamed bounce t pending) found.move.1 (with_bounce bounce t found.move) into)

-- what is no source stays none, but for the bounce frame
no_source-stays : (bounce t : ℕ) (pending : List Move) (s : ℕ) → IsPending pending → s ≢ bounce → is_source pending s ≡ false → is_source (renamed bounce t pending) s ≡ false
no_source-stays bounce t pending s is past free = elim (cases_Bool (is_source (renamed bounce t pending) s)) [
  | inr none ↦ none
  | inl source ↦
      let found = move_from (renamed bounce t pending) s (targets-renamed bounce t pending is.targets) source in
      let old = unrenamed bounce t pending found.move.1 found.move found.into in
      let from : (with_bounce bounce t old.move).0 ≡ s = ap (λ (k : Move). k.0) (sym old.is) ∙ found.from in
      elim (cases_eq old.move.0 t) [
        | inl here ↦ absurd (past (sym from ∙ ap (λ (k : Move). k.0) (bounce-here bounce t old.move here)))
        | inr other ↦
            let same = sym (ap (λ (k : Move). k.0) (bounce-other bounce t old.move other)) ∙ from in
            absurd (both_ways (is_source pending s) free (subst (λ (q : ℕ). is_source pending q ≡ true) same (is_source-move_into pending found.move.1 old.move old.into)))
      ]
]

-- The page of t waits in the bounce frame.

abbrev pub waiting : ℕ → ℕ → Pass → Pass
waiting bounce t pass = record { emitted = pass.emitted ++ (t, bounce) ∷ []; pending = renamed bounce t pass.pending }

-- where what lies at t, or in the bounce frame after the move, comes from
waits : (bounce t : ℕ) (pending : List Move) (p : ℕ) (o : Option Move) → move_into pending p ≡ o → p ≢ bounce → IsApart bounce pending → before_move (t, bounce) (source_or (renamed_move bounce t o) p) ≡ source_or o p
waits bounce t pending p None into past apart = cond-false (eqb p bounce) t p (ne_eqb p bounce past)
waits bounce t pending p (Some m) into past apart = elim (cases_eq m.0 t) [
  | inl is ↦
      let from = ap (λ (k : Move). k.0) (bounce-here bounce t m is) in
      cond-true (eqb (with_bounce bounce t m).0 bounce) t (with_bounce bounce t m).0 (eq-eqb (with_bounce bounce t m).0 bounce from) ∙ sym is
  | inr other ↦
      let from = ap (λ (k : Move). k.0) (bounce-other bounce t m other) in
      let clear : (with_bounce bounce t m).0 ≢ bounce = λ e. apart.source p m into (sym from ∙ e) in
      cond-false (eqb (with_bounce bounce t m).0 bounce) t (with_bounce bounce t m).0 (ne_eqb (with_bounce bounce t m).0 bounce clear) ∙ from
]

renamed_below : (size bounce t : ℕ) (m : Move) → bounce < size → m.0 < size → m.1 < size → ((with_bounce bounce t m).0 < size) × ((with_bounce bounce t m).1 < size)
renamed_below size bounce t m room from to =
    let target = target-with_bounce bounce t m in
    elim (cases_eq m.0 t) [
      | inl is ↦ let source = ap (λ (k : Move). k.0) (bounce-here bounce t m is) in (omega arith, omega arith)
      | inr other ↦ let source = ap (λ (k : Move). k.0) (bounce-other bounce t m other) in (omega arith, omega arith)
    ]

emitting_waiting : (T : ℕ → Type 0) (size bounce : ℕ) (moves : List Move) (t : ℕ) (pass : Pass) → T bounce → IsPending pass.pending → IsApart bounce pass.pending → Emitting T size bounce moves pass → bounce < size → t < size → is_source pass.pending t ≡ true → Emitting T size bounce moves (waiting bounce t pass)
emitting_waiting T size bounce moves t pass meets is apart emitting room below source = record {
  does = λ p past.
      origin-push pass.emitted (t, bounce) (at_once (renamed bounce t pass.pending) p)
      ∙ ap (λ (o : Option Move). origin pass.emitted (before_move (t, bounce) (source_or o p))) (move_into-renamed bounce t pass.pending p)
      ∙ ap (origin pass.emitted) (waits bounce t pass.pending p (move_into pass.pending p) refl past apart)
      ∙ emitting.does p past;
  ordered = InOrder-push bounce pass.pending pass.emitted (t, bounce) emitting.settled source emitting.ordered;
  settled =
      Settled-push bounce pass.pending (renamed bounce t pass.pending) pass.emitted (t, bounce) emitting.settled
      (λ s past free. no_source-stays bounce t pass.pending s is past free) (λ past. absurd (past refl));
  below = LieBelow-push size pass.emitted (t, bounce) emitting.below below room;
  pending_below = λ p n into.
      let old = unrenamed bounce t pass.pending p n into in
      let ends = emitting.pending_below p old.move old.into in
      subst (λ (k : Move). (k.0 < size) × (k.1 < size)) (sym old.is) (renamed_below size bounce t old.move room ends.0 ends.1);
  meet = Meet-push T pass.emitted (t, bounce) emitting.meet meets;
  pending_meet = λ p n into.
      let old = unrenamed bounce t pass.pending p n into in
      subst T (sym (ap (λ (k : Move). k.1) old.is ∙ target-with_bounce bounce t old.move)) (emitting.pending_meet p old.move old.into);
}

-- A cycle is the path from t of the renamed moves.

abbrev renamed_pass : ℕ → ℕ → Pass → Pass
renamed_pass bounce t pass = record { emitted = pass.emitted; pending = renamed bounce t pass.pending }

next-renamed : (bounce t : ℕ) (rest : List Move) (m : Move) → move_into rest t ≡ None → move_into rest bounce ≡ None → move_into (renamed bounce t rest) (with_bounce bounce t m).0 ≡ renamed_move bounce t (move_into rest m.0)
next-renamed bounce t rest m none free = elim (cases_eq m.0 t) [
  | inl is ↦
      ap (λ (k : Move). move_into (renamed bounce t rest) k.0) (bounce-here bounce t m is) ∙ into-renamed bounce t rest bounce None free
      ∙ ap (renamed_move bounce t) (sym (ap (move_into rest) is ∙ none))
  | inr other ↦ ap (λ (k : Move). move_into (renamed bounce t rest) k.0) (bounce-other bounce t m other) ∙ move_into-renamed bounce t rest m.0
]

cycle_as_path : (bounce t n x : ℕ) (o : Option Move) (pass : Pass) → move_into pass.pending x ≡ o → ((x ≡ t) ⊎ (move_into pass.pending t ≡ None)) → move_into pass.pending bounce ≡ None → path_from n (renamed_move bounce t o) (renamed_pass bounce t pass) ≡ renamed_pass bounce t (cycle_from n bounce t o pass)
cycle_as_path bounce t zero x o pass into first free = refl
cycle_as_path bounce t (suc n) x None pass into first free = refl
cycle_as_path bounce t (suc n) x (Some m) pass into first free =
    let target = target-move_into pass.pending x m into in
    let rest = without_target pass.pending m.1 in
    let k = with_bounce bounce t m in
    let next : Pass = record { emitted = pass.emitted ++ k ∷ []; pending = rest } in
    let none : move_into rest t ≡ None =
    elim first [
      | inl is ↦ ap (move_into rest) (sym (target ∙ is)) ∙ move_into-without_same pass.pending m.1
      | inr gone ↦ none_into rest t (λ l here. not_none l (sym gone ∙ (move_into-from_without pass.pending m.1 t l here).1))
    ] in
    let clear : move_into rest bounce ≡ None = none_into rest bounce (λ l here. not_none l (sym free ∙ (move_into-from_without pass.pending m.1 bounce l here).1)) in
    let rest_is : without_target (renamed bounce t pass.pending) k.1 ≡ renamed bounce t rest =
    ap (without_target (renamed bounce t pass.pending)) (target-with_bounce bounce t m) ∙ without-renamed bounce t pass.pending m.1 in
    let go_on : List Move → Pass = λ ms. path_from n (move_into ms k.0) (record { emitted = pass.emitted ++ k ∷ []; pending = ms }) in
    ap go_on rest_is
    ∙ ap (λ (o : Option Move). path_from n o (renamed_pass bounce t next)) (next-renamed bounce t rest m none clear)
    ∙ cycle_as_path bounce t n m.0 (move_into rest m.0) next refl (inr none) clear

-- where t is no source, nothing is renamed
renamed_none : (bounce t : ℕ) (pending : List Move) → is_source pending t ≡ false → renamed bounce t pending ≡ pending
renamed_none bounce t [] free = refl
renamed_none bounce t (m ∷ pending) free =
    let other : m.0 ≢ t = λ is. both_ways (is_source (m ∷ pending) t) free (ap (λ (b : Bool). b || is_source pending t) (eq-eqb m.0 t is)) in
    let free_rest : is_source pending t ≡ false = sym (ap (λ (b : Bool). b || is_source pending t) (ne_eqb m.0 t other)) ∙ free in
    ap₂ (λ (k : Move) (ms : List Move). k ∷ ms) (bounce-other bounce t m other) (renamed_none bounce t pending free_rest)

-- What holds between two cycles. Each cycle takes at least two moves and emits one more.
pub record Cyclic (T : ℕ → Type 0) (size bounce : ℕ) (moves : List Move) (most : ℕ) (pass : Pass) : Type 0 where
  pub emitting : Emitting T size bounce moves pass
  pub pending : IsPending pass.pending
  pub apart : IsApart bounce pass.pending
  pub closed : (q : ℕ) (m : Move) → move_into pass.pending q ≡ Some m → is_source pass.pending q ≡ true
  pub cost : 2 * length pass.emitted + 3 * length pass.pending ≤ most

-- what a cycle leaves
pub record CycleDone (T : ℕ → Type 0) (size bounce : ℕ) (moves : List Move) (most t : ℕ) (before after : Pass) : Type 0 where
  pub cyclic : Cyclic T size bounce moves most after
  pub gone : move_into after.pending t ≡ None
  pub kept : (q : ℕ) (m : Move) → move_into after.pending q ≡ Some m → move_into before.pending q ≡ Some m

module _ (T : ℕ → Type 0) (size bounce : ℕ) (moves : List Move) (most t : ℕ) (pass : Pass) (first : Move) (meets : T bounce) (room : bounce < size) (cyclic : Cyclic T size bounce moves most pass) (into : move_into pass.pending t ≡ Some first) where
  abbrev pending : List Move
  pending = pass.pending

  abbrev under_way : Pass
  under_way = record { emitted = pass.emitted ++ (t, bounce) ∷ []; pending = pass.pending }

  abbrev after : Pass
  after = cycle_from (length pending) bounce t (move_into pending t) under_way

  abbrev path : Pass
  path = path_from (length (renamed bounce t pending)) (move_into (renamed bounce t pending) t) (waiting bounce t pass)

  source : is_source pending t ≡ true
  source = cyclic.closed t first into

  t_apart : t ≢ bounce
  t_apart e = not_none first (sym cyclic.apart.target ∙ ap (move_into pending) (sym e) ∙ into)

  closed_renamed : (q : ℕ) (m : Move) → move_into (renamed bounce t pending) q ≡ Some m → (is_source (renamed bounce t pending) q ≡ true) ⊎ ((q ≡ t) ⊎ ⊥)
  closed_renamed q m here =
      let old = unrenamed bounce t pending q m here in
      elim (cases_eq q t) [
        | inl is ↦ inr (inl is)
        | inr other ↦ inl (source-renamed bounce t pending q cyclic.pending other (cyclic.closed q old.move old.into))
      ]

  done : PathDone T size bounce moves (λ _. ⊥) t (waiting bounce t pass) path
  done =
      let target = target-move_into pending t first into in
      let below = (cyclic.emitting.pending_below t first into).1 in
      path_done T size bounce moves (λ _. ⊥) (length (renamed bounce t pending)) t (move_into (renamed bounce t pending) t) (waiting bounce t pass)
      (omega arith) refl (no_source-renamed bounce t pending cyclic.pending cyclic.apart t_apart) (IsPending-renamed bounce t pending cyclic.pending cyclic.apart)
      (emitting_waiting T size bounce moves t pass meets cyclic.pending cyclic.apart cyclic.emitting room (omega arith) source) closed_renamed

  path_closed : (q : ℕ) (m : Move) → move_into path.pending q ≡ Some m → is_source path.pending q ≡ true
  path_closed q m here = elim (done.closed q m here) [ inl is ↦ is | inr none ↦ absurd none ]

  bounce_no_target : move_into path.pending bounce ≡ None
  bounce_no_target = none_into path.pending bounce (λ m here.
      let old = unrenamed bounce t pending bounce m (done.progress.kept bounce m here) in
      not_none old.move (sym cyclic.apart.target ∙ old.into))

  bounce_no_source : is_source path.pending bounce ≡ false
  bounce_no_source = elim (cases_Bool (is_source path.pending bounce)) [
    | inr free ↦ free
    | inl is ↦ absurd (target_of_source path.pending bounce done.progress.pending.targets path_closed is bounce_no_target)
  ]

  path_is : path ≡ renamed_pass bounce t after
  path_is =
      ap₂ (λ (n : ℕ) (o : Option Move). path_from n o (waiting bounce t pass)) (length-map pending (with_bounce bounce t)) (move_into-renamed bounce t pending t)
      ∙ cycle_as_path bounce t (length pending) t (move_into pending t) under_way refl (inl refl) cyclic.apart.target

  pending_is : path.pending ≡ renamed bounce t after.pending
  pending_is = ap (λ (p : Pass). p.pending) path_is

  once_after : TargetsOnce after.pending
  once_after = targets-from_renamed bounce t after.pending (subst TargetsOnce pending_is done.progress.pending.targets)

  -- t is no source after the cycle: else the bounce frame would be one
  t_no_source : is_source after.pending t ≡ false
  t_no_source = elim (cases_Bool (is_source after.pending t)) [
    | inr free ↦ free
    | inl is ↦
        let found = move_from after.pending t once_after is in
        let here = into-renamed bounce t after.pending found.move.1 (Some found.move) found.into in
        let from = ap (λ (k : Move). k.0) (bounce-here bounce t found.move found.from) in
        let bounces = subst (λ (q : ℕ). is_source (renamed bounce t after.pending) q ≡ true) from (is_source-move_into (renamed bounce t after.pending) found.move.1 (with_bounce bounce t found.move) here) in
        absurd (both_ways (is_source path.pending bounce) bounce_no_source (ap (λ (ms : List Move). is_source ms bounce) pending_is ∙ bounces))
  ]

  after_is : path ≡ after
  after_is = path_is ∙ ap (λ (ms : List Move). record { emitted = after.emitted; pending = ms }) (renamed_none bounce t after.pending t_no_source)

  kept_path : (q : ℕ) (m : Move) → move_into path.pending q ≡ Some m → move_into pending q ≡ Some m
  kept_path q m here =
      let old = unrenamed bounce t pending q m (done.progress.kept q m here) in
      elim (cases_eq old.move.0 t) [
        | inr other ↦ old.into ∙ ap (λ (k : Move). Some k) (sym (old.is ∙ bounce-other bounce t old.move other))
        | inl is ↦
            let from = ap (λ (k : Move). k.0) (old.is ∙ bounce-here bounce t old.move is) in
            let bounces = subst (λ (s : ℕ). is_source path.pending s ≡ true) from (is_source-move_into path.pending q m here) in
            absurd (both_ways (is_source path.pending bounce) bounce_no_source bounces)
      ]

  -- the cycle has at least two moves: the source of the first is a target too
  second : (o : Option Move) → move_into pending first.0 ≡ o → length path.pending + 2 ≤ length (renamed bounce t pending)
  second None none = absurd (target_of_source pending first.0 cyclic.pending.targets cyclic.closed (is_source-move_into pending t first into) none)
  second (Some k) some =
      let other = cyclic.apart.itself t first into in
      let same = bounce-other bounce t first other in
      let here = into-renamed bounce t pending t (Some first) into in
      let next = ap (λ (m : Move). move_into (renamed bounce t pending) m.0) same ∙ into-renamed bounce t pending first.0 (Some k) some in
      done.two (with_bounce bounce t first) (with_bounce bounce t k) here next (λ e. other (ap (λ (m : Move). m.0) (sym same) ∙ e))

  path_cost : 2 * length path.emitted + 3 * length path.pending ≤ most
  path_cost =
      let two_less = second (move_into pending first.0) refl in
      let size = length-map pending (with_bounce bounce t) in
      let one_more = length-append pass.emitted ((t, bounce) ∷ []) in
      let count = done.progress.count in
      let before = cyclic.cost in
      omega arith

  path_cyclic : CycleDone T size bounce moves most t pass path
  path_cyclic = record {
    cyclic = record {
      emitting = done.progress.emitting;
      pending = done.progress.pending;
      apart = IsApart-kept bounce pending path.pending kept_path cyclic.apart;
      closed = path_closed;
      cost = path_cost;
    };
    gone = done.gone;
    kept = kept_path;
  }

  pub cycle_done : CycleDone T size bounce moves most t pass after
  cycle_done = subst (CycleDone T size bounce moves most t pass) after_is path_cyclic

-- Cycles through all targets.

no_pending : (pending : List Move) → ((q : ℕ) (m : Move) → move_into pending q ≡ Some m → ⊥) → pending ≡ []
no_pending [] none = refl
no_pending (m ∷ pending) none = absurd (none m.1 m (cond-true (eqb m.1 m.1) (Some m) (move_into pending m.1) (eq-eqb m.1 m.1 refl)))

pub no_target : (pending : List Move) (p : ℕ) → move_into pending p ≡ None → is_target pending p ≡ false
no_target [] p none = refl
no_target (n ∷ pending) p none = elim (cases_eq n.1 p) [
  | inl is ↦ absurd (not_none n (sym none ∙ cond-true (eqb n.1 p) (Some n) (move_into pending p) (eq-eqb n.1 p is)))
  | inr other ↦
      ap (λ (b : Bool). b || is_target pending p) (ne_eqb n.1 p other)
      ∙ no_target pending p (sym (cond-false (eqb n.1 p) (Some n) (move_into pending p) (ne_eqb n.1 p other)) ∙ none)
]

-- the pass after the cycle through t, if there is one
abbrev round : ℕ → ℕ → Pass → Pass
round bounce t pass = cycle_from (length pass.pending) bounce t (move_into pass.pending t) (record { emitted = pass.emitted ++ (t, bounce) ∷ []; pending = pass.pending })

abbrev after_round : ℕ → ℕ → Pass → Pass
after_round bounce t pass = cond (is_target pass.pending t) (round bounce t pass) pass

record RoundDone (T : ℕ → Type 0) (size bounce : ℕ) (moves : List Move) (most : ℕ) (ts : List ℕ) (after : Pass) : Type 0 where
  cyclic : Cyclic T size bounce moves most after
  among : (q : ℕ) (m : Move) → move_into after.pending q ≡ Some m → Among ts q

round_done : (T : ℕ → Type 0) (size bounce : ℕ) (moves : List Move) (most : ℕ) → T bounce → bounce < size → (t : ℕ) (ts : List ℕ) (pass : Pass) → Cyclic T size bounce moves most pass → ((q : ℕ) (m : Move) → move_into pass.pending q ≡ Some m → Among (t ∷ ts) q) → (o : Option Move) → move_into pass.pending t ≡ o → RoundDone T size bounce moves most ts (after_round bounce t pass)
round_done T size bounce moves most meets room t ts pass cyclic among None none =
    let here : RoundDone T size bounce moves most ts pass = record {
      cyclic = cyclic;
      among = λ q m into. elim (among q m into) [ inl is ↦ absurd (not_none m (sym none ∙ ap (move_into pass.pending) (sym is) ∙ into)) | inr later ↦ later ];
    } in
    subst (RoundDone T size bounce moves most ts) (sym (cond-false (is_target pass.pending t) (round bounce t pass) pass (no_target pass.pending t none))) here
round_done T size bounce moves most meets room t ts pass cyclic among (Some first) some =
    let one = cycle_done T size bounce moves most t pass first meets room cyclic some in
    let here : RoundDone T size bounce moves most ts (round bounce t pass) = record {
      cyclic = one.cyclic;
      among = λ q m into.
          elim (among q m (one.kept q m into)) [
            | inl is ↦ absurd (not_none m (sym one.gone ∙ ap (move_into (round bounce t pass).pending) (sym is) ∙ into))
            | inr later ↦ later
          ];
    } in
    subst (RoundDone T size bounce moves most ts) (sym (cond-true (is_target pass.pending t) (round bounce t pass) pass (is_target-move_into pass.pending t first some))) here

-- No move is pending after the cycles through all page frames.
pub record AllDone (T : ℕ → Type 0) (size bounce : ℕ) (moves : List Move) (most : ℕ) (after : Pass) : Type 0 where
  pub cyclic : Cyclic T size bounce moves most after
  pub none : after.pending ≡ []

pub cycles_done : (T : ℕ → Type 0) (size bounce : ℕ) (moves : List Move) (most : ℕ) → T bounce → bounce < size → (ts : List ℕ) (pass : Pass) → Cyclic T size bounce moves most pass → ((q : ℕ) (m : Move) → move_into pass.pending q ≡ Some m → Among ts q) → AllDone T size bounce moves most (cycles_over bounce ts pass)
cycles_done T size bounce moves most meets room [] pass cyclic among = record { cyclic = cyclic; none = no_pending pass.pending among }
cycles_done T size bounce moves most meets room (t ∷ ts) pass cyclic among =
    let one = round_done T size bounce moves most meets room t ts pass cyclic among (move_into pass.pending t) refl in
    cycles_done T size bounce moves most meets room ts (after_round bounce t pass) one.cyclic one.among
