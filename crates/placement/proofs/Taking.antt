-- A pending move that is taken out of the tables.
use Rattle.std.proofs.Common.{◌≡◌, ℕ, ◌+◌, ◌<◌, ◌≤◌, Bool, false, List, length, take, set, get_or, length-set, Option, Some, None, refl, sym, ap, ap₂, ◌∙◌, inl, inr, arith, subst}
use Rattle.std.proofs.lemmas.Bool.{cases_eq}
use Rattle.std.proofs.lemmas.List.{get_or-set_same, get_or-set_other}
use Rattle.definitions.specs.Moves.{Move, Pass, move_into, is_source, without_target}
use Rattle.placement.specs.declared.relocation.order.Order.{Order}
use Rattle.placement.specs.Tables.{source_of, IsAt, HasPass, Follows}
use Rattle.placement.proofs.Pending.{not_none, same_some, move_into-without_same, move_into-without_other, move_into-from_without, length-without, without_none, IsPending-without, is_source-without_same, is_source-without_other}

-- the pass with the move into t taken away
abbrev pub without_move : ℕ → Pass → Pass
without_move t pass = record pass { pending = without_target pass.pending t }

no_source_of : (o : Option Move) → source_of o ≡ None → o ≡ None
no_source_of None e = refl
no_source_of (Some m) e = absurd (not_none m.0 (sym e))

-- the pending move that the table gives
pub record MoveAt (pending : List Move) (t s : ℕ) : Type 0 where
  pub move : Move
  pub into : move_into pending t ≡ Some move
  pub from : move.0 ≡ s

some_source_of : (pending : List Move) (t s : ℕ) (o : Option Move) → move_into pending t ≡ o → source_of o ≡ Some s → MoveAt pending t s
some_source_of pending t s None into e = absurd (not_none s e)
some_source_of pending t s (Some m) into e = record { move = m; into = into; from = same_some m.0 s e }

pub told_none : (o : Order) (pass : Pass) (t : ℕ) → IsAt o pass → t < o.top → get_or o.sources.items t None ≡ None → move_into pass.pending t ≡ None
told_none o pass t at within none = no_source_of (move_into pass.pending t) (sym (at.sources t within) ∙ none)

pub told_move : (o : Order) (pass : Pass) (t s : ℕ) → IsAt o pass → t < o.top → get_or o.sources.items t None ≡ Some s → MoveAt pass.pending t s
told_move o pass t s at within some = some_source_of pass.pending t s (move_into pass.pending t) refl (sym (at.sources t within) ∙ some)

pub at_least_one : (o : Order) (pass : Pass) (t s : ℕ) → IsAt o pass → t < o.top → get_or o.sources.items t None ≡ Some s → (s < o.top) × (1 ≤ o.pending)
at_least_one o pass t s at within some =
    let told = told_move o pass t s at within some in
    let below = (at.below t told.move told.into).0 in
    let from = told.from in
    let count = at.count in
    let less = length-without pass.pending t told.move at.pending.targets told.into in
    (omega arith, omega arith)

pub taken_none : (o : Order) (t : ℕ) → t < o.top → get_or o.sources.items t None ≡ None → Follows o o (without_move t)
taken_none o t within none = record {
  top = refl;
  room = refl;
  at = λ pass at.
      let same = without_none pass.pending t (told_none o pass t at within none) in
      subst (λ (pending : List Move). IsAt o (record { emitted = pass.emitted; pending = pending })) (sym same) at;
}

pub record IsTaken (old new : Order) (t s : ℕ) : Type 0 where
  pub sources : new.sources.items ≡ set old.sources.items t None
  pub leaves : new.leaves.items ≡ set old.leaves.items s false
  pub pending : new.pending + 1 ≡ old.pending
  pub moves : new.moves.items ≡ old.moves.items
  pub len : new.len ≡ old.len
  pub top : new.top ≡ old.top

pub taken_some : (old new : Order) (t s : ℕ) → t < old.top → get_or old.sources.items t None ≡ Some s → IsTaken old new t s → Follows old new (without_move t)
taken_some old new t s within some taken = record {
  top = taken.top;
  room = ap length taken.moves;
  at = after;
} where
  after : (pass : Pass) → IsAt old pass → IsAt new (without_move t pass)
  after pass at =
      let told = told_move old pass t s at within some in
      let rest = without_target pass.pending t in
      let less = length-without pass.pending t told.move at.pending.targets told.into in
      let count = at.count in
      let pending = taken.pending in
      let whole = taken.top in
      let targets_size = at.targets_size in
      let sources_size = at.sources_size in
      record {
        sources = λ p lt.
            ap (λ (xs : List (Option ℕ)). get_or xs p None) taken.sources
            ∙ elim (cases_eq p t) as (λ _. get_or (set old.sources.items t None) p None ≡ source_of (move_into rest p)) [
              | inl is ↦
                  ap (λ (q : ℕ). get_or (set old.sources.items t None) q None) is ∙ get_or-set_same old.sources.items t None None (omega arith)
                  ∙ sym (ap source_of (ap (move_into rest) is ∙ move_into-without_same pass.pending t))
              | inr other ↦
                  get_or-set_other old.sources.items t p None None other ∙ at.sources p (omega arith)
                  ∙ sym (ap source_of (move_into-without_other pass.pending t p other))
            ];
        leaves = λ p lt.
            let there = (at.below t told.move told.into).0 in
            let from = told.from in
            ap (λ (xs : List Bool). get_or xs p false) taken.leaves
            ∙ elim (cases_eq p s) as (λ _. get_or (set old.leaves.items s false) p false ≡ is_source rest p) [
              | inl is ↦
                  ap (λ (q : ℕ). get_or (set old.leaves.items s false) q false) is ∙ get_or-set_same old.leaves.items s false false (omega arith)
                  ∙ sym (ap (is_source rest) (is ∙ sym from) ∙ is_source-without_same pass.pending t told.move at.pending told.into)
              | inr other ↦
                  get_or-set_other old.leaves.items s p false false other ∙ at.leaves p (omega arith)
                  ∙ sym (is_source-without_other pass.pending t p told.move at.pending told.into (λ e. other (e ∙ from)))
            ];
        count = omega arith;
        emitted = ap₂ (λ (n : ℕ) (xs : List Move). take n xs) taken.len taken.moves ∙ at.emitted;
        len =
            let room = ap length taken.moves in
            let same = taken.len in
            let fits = at.len in
            omega arith;
        pending = IsPending-without pass.pending t at.pending;
        below = λ p m into.
            let ends = at.below p m (move_into-from_without pass.pending t p m into).1 in
            (omega arith, omega arith);
        targets_size =
            let same = ap length taken.sources ∙ length-set old.sources.items t None in
            omega arith;
        sources_size =
            let same = ap length taken.leaves ∙ length-set old.leaves.items s false in
            omega arith;
      }

-- Follows one after another.
pub follows_more : (a b c : Order) (f g : Pass → Pass) → Follows a b f → Follows b c g → Follows a c (λ pass. g (f pass))
follows_more a b c f g first second = record {
  top = second.top ∙ first.top;
  room = second.room ∙ first.room;
  at = λ pass at. second.at (f pass) (first.at pass at);
}

pub HasPass-follows : (old new : Order) (f : Pass → Pass) → Follows old new f → HasPass old → HasPass new
HasPass-follows old new f follows has = record { pass = f has.pass; at = follows.at has.pass has.at }

-- following under another name of the function
pub follows_as : (a b : Order) (f g : Pass → Pass) → Follows a b f → ((pass : Pass) → IsAt a pass → f pass ≡ g pass) → Follows a b g
follows_as a b f g follows same = record {
  top = follows.top;
  room = follows.room;
  at = λ pass at. subst (IsAt b) (same pass at) (follows.at pass at);
}
