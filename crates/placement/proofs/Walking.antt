-- Passes over the tables: page frame by page frame, along a path, round a cycle.
use Rattle.std.proofs.Common.{◌≡◌, ℕ, ◌+◌, ◌<◌, zero, suc, true, false, not, ◌&&◌, List, [], ◌∷◌, ◌++◌, length, reverse, get_or, Option, Some, None, refl, sym, ap, ap₂, ◌∙◌, arith, subst}
use Rattle.std.specs.List.{range_with_len}
use Rattle.std.proofs.lemmas.Bool.{cond-true, cond-false, and_from, and_left, not_from_false}
use Rattle.std.proofs.lemmas.List.{reverse-append}
use Rattle.definitions.specs.Moves.{Move, Pass, move_into, is_source, is_target, without_target, emit, pass_over, path_from, paths_over, with_bounce, cycle_from, cycles_over}
use Rattle.placement.specs.declared.relocation.order.Order.{Order}
use Rattle.placement.specs.Pending.{TargetsOnce}
use Rattle.placement.specs.Tables.{IsAt, Follows}
use Rattle.placement.proofs.Pending.{target-move_into, length-without, without_none}
use Rattle.placement.proofs.Emitting.{is_target-move_into}
use Rattle.placement.proofs.Cycles.{no_target}
use Rattle.placement.proofs.Taking.{MoveAt, told_none, told_move, without_move, follows_more, follows_as}

-- the pass with this move taken out of the tables and put in order
abbrev pub emitted_move : ℕ → ℕ → ℕ → Pass → Pass
emitted_move from to t pass = record { emitted = pass.emitted ++ (from, to) ∷ []; pending = without_target pass.pending t }

-- Page frame by page frame.

pass_over-stays : (pass : Pass) (t : ℕ) → is_source pass.pending t ≡ true → pass_over (t ∷ []) pass ≡ pass
pass_over-stays pass t source = go (move_into pass.pending t) refl where
  go : (o : Option Move) → move_into pass.pending t ≡ o → emit pass o ≡ pass
  go None into = refl
  go (Some m) into =
      let kept = ap (is_source pass.pending) (target-move_into pass.pending t m into) ∙ source in
      cond-true (is_source pass.pending m.1) pass (record { emitted = pass.emitted ++ m ∷ []; pending = without_target pass.pending m.1 }) kept

pass_over-emits : (pass : Pass) (t s : ℕ) → is_source pass.pending t ≡ false → MoveAt pass.pending t s → pass_over (t ∷ []) pass ≡ emitted_move s t t pass
pass_over-emits pass t s free told =
    let m = told.move in
    let target = target-move_into pass.pending t m told.into in
    ap (emit pass) told.into
    ∙ cond-false (is_source pass.pending m.1) pass (record { emitted = pass.emitted ++ m ∷ []; pending = without_target pass.pending m.1 }) (ap (is_source pass.pending) target ∙ free)
    ∙ ap₂ (λ (x y : ℕ). emitted_move x y y pass) told.from target

pub follows_stays : (o : Order) (t : ℕ) → t < o.top → get_or o.leaves.items t false ≡ true → Follows o o (pass_over (t ∷ []))
follows_stays o t within leaves = record {
  top = refl;
  room = refl;
  at = λ pass at. subst (IsAt o) (sym (pass_over-stays pass t (sym (at.leaves t within) ∙ leaves))) at;
}

pub follows_none : (a b : Order) (t : ℕ) → t < a.top → get_or a.sources.items t None ≡ None → Follows a b (without_move t) → Follows a b (pass_over (t ∷ []))
follows_none a b t within none follows = follows_as a b (without_move t) (pass_over (t ∷ [])) follows (λ pass at.
    let empty = told_none a pass t at within none in
    ap (λ (ms : List Move). record { emitted = pass.emitted; pending = ms }) (without_none pass.pending t empty) ∙ sym (ap (emit pass) empty))

pub follows_emits : (a b c : Order) (t s : ℕ) → t < a.top → get_or a.leaves.items t false ≡ false → get_or a.sources.items t None ≡ Some s → Follows a b (without_move t) → Follows b c (λ pass. record pass { emitted = pass.emitted ++ (s, t) ∷ [] }) → Follows a c (pass_over (t ∷ []))
follows_emits a b c t s within free some taken put = follows_as a c (emitted_move s t t) (pass_over (t ∷ [])) (follows_more a b c (without_move t) (λ pass. record pass { emitted = pass.emitted ++ (s, t) ∷ [] }) taken put) (λ pass at.
    sym (pass_over-emits pass t s (sym (at.leaves t within) ∙ free) (told_move a pass t s at within some)))

-- Along a path or round a cycle: from the pass that the tables are at now, g goes on to where f leads from the pass that
-- they were at.

pub record Reached (o : Order) (g : Pass → Pass) (goal : Pass) : Type 0 where
  pub now : Pass
  pub at : IsAt o now
  pub same : g now ≡ goal

pub record Leads (old new : Order) (f g : Pass → Pass) : Type 0 where
  pub top : new.top ≡ old.top
  pub room : length new.moves.items ≡ length old.moves.items
  pub reached : (pass : Pass) → IsAt old pass → Reached new g (f pass)

leads_more : (a b c : Order) (f g h k : Pass → Pass) → Leads a b f g → Follows b c k → ((pass : Pass) → IsAt b pass → h (k pass) ≡ g pass) → Leads a c f h
leads_more a b c f g h k leads follows step = record {
  top = follows.top ∙ leads.top;
  room = follows.room ∙ leads.room;
  reached = λ pass at.
      let r = leads.reached pass at in
      record { now = k r.now; at = follows.at r.now r.at; same = step r.now r.at ∙ r.same };
}

leads_end : (a b c : Order) (f g k : Pass → Pass) → Leads a b f g → Follows b c k → ((pass : Pass) → IsAt b pass → k pass ≡ g pass) → Follows a c f
leads_end a b c f g k leads follows step = record {
  top = follows.top ∙ leads.top;
  room = follows.room ∙ leads.room;
  at = λ pass at.
      let r = leads.reached pass at in
      subst (IsAt c) (step r.now r.at ∙ r.same) (follows.at r.now r.at);
}

-- Along a path.

abbrev pub path_on : ℕ → Pass → Pass
path_on t pass = path_from (length pass.pending) (move_into pass.pending t) pass

path_ends : (n : ℕ) (pass : Pass) → path_from n None pass ≡ pass
path_ends zero pass = refl
path_ends (suc n) pass = refl

path_step : (pass : Pass) (t s : ℕ) → TargetsOnce pass.pending → MoveAt pass.pending t s → path_on s (emitted_move s t t pass) ≡ path_on t pass
path_step pass t s once told =
    let m = told.move in
    let target = target-move_into pass.pending t m told.into in
    let less = length-without pass.pending t m once told.into in
    let rest = without_target pass.pending t in
    let count : length pass.pending ≡ suc (length rest) = omega arith in
    let along : ℕ → ℕ → Pass = λ x y. path_from (length rest) (move_into (without_target pass.pending y) x) (emitted_move x y y pass) in
    sym (ap₂ (λ (n : ℕ) (o : Option Move). path_from n o pass) count told.into ∙ ap₂ along told.from target)

pub leads_path : (a b c d : Order) (f : Pass → Pass) (t s : ℕ) → t < b.top → get_or b.sources.items t None ≡ Some s → Leads a b f (path_on t) → Follows b c (without_move t) → Follows c d (λ pass. record pass { emitted = pass.emitted ++ (s, t) ∷ [] }) → Leads a d f (path_on s)
leads_path a b c d f t s within some leads taken put =
    leads_more a b d f (path_on t) (path_on s) (emitted_move s t t) leads
    (follows_more b c d (without_move t) (λ pass. record pass { emitted = pass.emitted ++ (s, t) ∷ [] }) taken put)
    (λ pass at. path_step pass t s at.pending.targets (told_move b pass t s at within some))

paths_over-one : (pass : Pass) (p : ℕ) → is_source pass.pending p ≡ false → path_on p pass ≡ paths_over (p ∷ []) pass
paths_over-one pass p free = go (move_into pass.pending p) refl where
  go : (o : Option Move) → move_into pass.pending p ≡ o → path_on p pass ≡ paths_over (p ∷ []) pass
  go None into =
      let starts = and_left (is_target pass.pending p) (not (is_source pass.pending p)) (no_target pass.pending p into) in
      ap (λ (o : Option Move). path_from (length pass.pending) o pass) into ∙ path_ends (length pass.pending) pass
      ∙ sym (cond-false (is_target pass.pending p && not (is_source pass.pending p)) (path_on p pass) pass starts)
  go (Some m) into =
      let starts = and_from (is_target pass.pending p) (not (is_source pass.pending p)) (is_target-move_into pass.pending p m into) (not_from_false (is_source pass.pending p) free) in
      sym (cond-true (is_target pass.pending p && not (is_source pass.pending p)) (path_on p pass) pass starts)

pub path_follows : (a b c : Order) (p t : ℕ) → p < a.top → t < b.top → get_or a.leaves.items p false ≡ false → get_or b.sources.items t None ≡ None → Leads a b (path_on p) (path_on t) → Follows b c (without_move t) → Follows a c (paths_over (p ∷ []))
path_follows a b c p t within below free none leads taken =
    follows_as a c (path_on p) (paths_over (p ∷ []))
    (leads_end a b c (path_on p) (path_on t) (without_move t) leads taken (λ pass at.
    let empty = told_none b pass t at below none in
    ap (λ (ms : List Move). record { emitted = pass.emitted; pending = ms }) (without_none pass.pending t empty)
    ∙ sym (path_ends (length pass.pending) pass) ∙ ap (λ (o : Option Move). path_from (length pass.pending) o pass) (sym empty)))
    (λ pass at. paths_over-one pass p (sym (at.leaves p within) ∙ free))

-- Round a cycle.

abbrev pub cycle_on : ℕ → ℕ → ℕ → Pass → Pass
cycle_on bounce t x pass = cycle_from (length pass.pending) bounce t (move_into pass.pending x) pass

cycle_ends : (n bounce t : ℕ) (pass : Pass) → cycle_from n bounce t None pass ≡ pass
cycle_ends zero bounce t pass = refl
cycle_ends (suc n) bounce t pass = refl

-- the pass with a move of the cycle put in order
abbrev pub bounced_move : Move → ℕ → Pass → Pass
bounced_move m t pass = record { emitted = pass.emitted ++ m ∷ []; pending = without_target pass.pending t }

cycle_step : (pass : Pass) (bounce start t s : ℕ) (put : Move) → TargetsOnce pass.pending → MoveAt pass.pending t s → put ≡ with_bounce bounce start (s, t) → cycle_on bounce start s (bounced_move put t pass) ≡ cycle_on bounce start t pass
cycle_step pass bounce start t s put once told is =
    let m = told.move in
    let target = target-move_into pass.pending t m told.into in
    let less = length-without pass.pending t m once told.into in
    let rest = without_target pass.pending t in
    let count : length pass.pending ≡ suc (length rest) = omega arith in
    let along : ℕ → ℕ → Pass = λ x y. cycle_from (length rest) bounce start (move_into (without_target pass.pending y) x) (bounced_move (with_bounce bounce start (x, y)) y pass) in
    ap (λ (k : Move). cycle_on bounce start s (bounced_move k t pass)) is
    ∙ sym (ap₂ (λ (n : ℕ) (o : Option Move). cycle_from n bounce start o pass) count told.into ∙ ap₂ along told.from target)

pub leads_cycle : (a b c d : Order) (f : Pass → Pass) (bounce start t s from : ℕ) → t < b.top → get_or b.sources.items t None ≡ Some s → (from, t) ≡ with_bounce bounce start (s, t) → Leads a b f (cycle_on bounce start t) → Follows b c (without_move t) → Follows c d (λ pass. record pass { emitted = pass.emitted ++ (from, t) ∷ [] }) → Leads a d f (cycle_on bounce start s)
leads_cycle a b c d f bounce start t s from within some is leads taken put =
    leads_more a b d f (cycle_on bounce start t) (cycle_on bounce start s) (bounced_move (from, t) t) leads
    (follows_more b c d (without_move t) (λ pass. record pass { emitted = pass.emitted ++ (from, t) ∷ [] }) taken put)
    (λ pass at. cycle_step pass bounce start t s (from, t) at.pending.targets (told_move b pass t s at within some) is)

pub cycle_begins : (a b c d : Order) (bounce start s from : ℕ) → start < a.top → get_or a.sources.items start None ≡ Some s → (from, start) ≡ with_bounce bounce start (s, start) → Follows a b (without_move start) → Follows b c (λ pass. record pass { emitted = pass.emitted ++ (start, bounce) ∷ [] }) → Follows c d (λ pass. record pass { emitted = pass.emitted ++ (from, start) ∷ [] }) → Leads a d (cycles_over bounce (start ∷ [])) (cycle_on bounce start s)
cycle_begins a b c d bounce start s from within some is taken waits put = record {
  top = put.top ∙ waits.top ∙ taken.top;
  room = put.room ∙ waits.room ∙ taken.room;
  reached = λ pass at.
      let told = told_move a pass start s at within some in
      let under_way : Pass = record { emitted = pass.emitted ++ (start, bounce) ∷ []; pending = pass.pending } in
      let after_wait : Pass = record { emitted = pass.emitted ++ (start, bounce) ∷ []; pending = without_target pass.pending start } in
      record {
        now = bounced_move (from, start) start under_way;
        at = put.at after_wait (waits.at (without_move start pass) (taken.at pass at));
        same =
            cycle_step under_way bounce start start s (from, start) at.pending.targets told is
            ∙ sym (cond-true (is_target pass.pending start) (cycle_on bounce start start under_way) pass (is_target-move_into pass.pending start told.move told.into));
      };
}

pub cycle_follows : (a b c : Order) (bounce start t : ℕ) (f : Pass → Pass) → t < b.top → get_or b.sources.items t None ≡ None → Leads a b f (cycle_on bounce start t) → Follows b c (without_move t) → Follows a c f
cycle_follows a b c bounce start t f below none leads taken =
    leads_end a b c f (cycle_on bounce start t) (without_move t) leads taken (λ pass at.
    let empty = told_none b pass t at below none in
    ap (λ (ms : List Move). record { emitted = pass.emitted; pending = ms }) (without_none pass.pending t empty)
    ∙ sym (cycle_ends (length pass.pending) bounce start pass) ∙ ap (λ (o : Option Move). cycle_from (length pass.pending) bounce start o pass) (sym empty))

pub no_cycle : (a b : Order) (bounce t : ℕ) → t < a.top → get_or a.sources.items t None ≡ None → Follows a b (without_move t) → Follows a b (cycles_over bounce (t ∷ []))
no_cycle a b bounce t within none taken = follows_as a b (without_move t) (cycles_over bounce (t ∷ [])) taken (λ pass at.
    let empty = told_none a pass t at within none in
    ap (λ (ms : List Move). record { emitted = pass.emitted; pending = ms }) (without_none pass.pending t empty)
    ∙ sym (cond-false (is_target pass.pending t) (cycle_on bounce t t (record { emitted = pass.emitted ++ (t, bounce) ∷ []; pending = pass.pending })) pass (no_target pass.pending t empty)))

-- One page frame more.

pub range-more : (a n : ℕ) → range_with_len a (n + 1) ≡ range_with_len a n ++ (a + n) ∷ []
range-more a zero =
    let at : a ≡ a + 0 = omega arith in
    ap (λ (x : ℕ). x ∷ []) at
range-more a (suc n) =
    let count : suc n + 1 ≡ suc (n + 1) = omega arith in
    let at : a + 1 + n ≡ a + suc n = omega arith in
    ap (range_with_len a) count ∙ ap (λ (xs : List ℕ). a ∷ xs) (range-more (a + 1) n ∙ ap (λ (x : ℕ). range_with_len (a + 1) n ++ x ∷ []) at)

-- the next page frame below
pub down-more : (a n : ℕ) → reverse (range_with_len a (n + 1)) ≡ reverse (range_with_len (a + 1) n) ++ a ∷ []
down-more a n =
    let count : n + 1 ≡ suc n = omega arith in
    ap (λ (k : ℕ). reverse (range_with_len a k)) count ∙ reverse-append (a ∷ []) (range_with_len (a + 1) n)

pub pass_over-append : (xs ys : List ℕ) (pass : Pass) → pass_over (xs ++ ys) pass ≡ pass_over ys (pass_over xs pass)
pass_over-append [] ys pass = refl
pass_over-append (x ∷ xs) ys pass = pass_over-append xs ys (emit pass (move_into pass.pending x))

pub paths_over-append : (xs ys : List ℕ) (pass : Pass) → paths_over (xs ++ ys) pass ≡ paths_over ys (paths_over xs pass)
paths_over-append [] ys pass = refl
paths_over-append (x ∷ xs) ys pass = paths_over-append xs ys (paths_over (x ∷ []) pass)

pub cycles_over-append : (bounce : ℕ) (xs ys : List ℕ) (pass : Pass) → cycles_over bounce (xs ++ ys) pass ≡ cycles_over bounce ys (cycles_over bounce xs pass)
cycles_over-append bounce [] ys pass = refl
cycles_over-append bounce (x ∷ xs) ys pass = cycles_over-append bounce xs ys (cycles_over bounce (x ∷ []) pass)

-- one page frame more in a pass F over page frames
pub follows_next : (F : List ℕ → Pass → Pass) → ((xs ys : List ℕ) (pass : Pass) → F (xs ++ ys) pass ≡ F ys (F xs pass)) → (a b c : Order) (xs ys : List ℕ) (p : ℕ) → ys ≡ xs ++ p ∷ [] → Follows a b (F xs) → Follows b c (F (p ∷ [])) → Follows a c (F ys)
follows_next F append a b c xs ys p is first second =
    follows_as a c (λ pass. F (p ∷ []) (F xs pass)) (F ys) (follows_more a b c (F xs) (F (p ∷ [])) first second)
    (λ pass at. sym (ap (λ (zs : List ℕ). F zs pass) is ∙ append xs (p ∷ []) pass))

-- the next page frame above
pub up-more : (p : ℕ) → range_with_len 0 (p + 1) ≡ range_with_len 0 p ++ p ∷ []
up-more p =
    let at : 0 + p ≡ p = omega arith in
    range-more 0 p ∙ ap (λ (x : ℕ). range_with_len 0 p ++ x ∷ []) at
