use Rattle.std.proofs.Common.{◌≡◌, ◌+◌, ◌<◌, ◌∙◌, ℕ, Some, take, ap, get_or, sym, arith, subst}
use Rattle.definitions.specs.Moves.{Move, move_into}
use Rattle.placement.specs.declared.relocation.order.Order.{Order}
use Rattle.placement.specs.Pending.{begun}
use Rattle.placement.specs.Tables.{IsAt, IsSized}
use Rattle.placement.proofs.Loading.{IsLoaded, into-at, sized_loaded, loaded_itself, loaded_more, pending_at_most}
use Rattle.placement.proofs.relocation.order.Order.load.Goals as goal
use Rattle.placement.proofs.relocation.order.Order.load.Goals.{then-from-to, else-from-to}

pub index_mut-requires : goal.index_mut-requires
index_mut-requires c =
    let movable = c.requires.movable.1 in
    let at = into-at c.args.moves.now c.loop-from.from-index (0, 0) c.loop-from-test.true movable.pending.targets in
    let ends = movable.below (get_or c.args.moves.now c.loop-from.from-index (0, 0)).1 (get_or c.args.moves.now c.loop-from.from-index (0, 0)) at in
    let below = ends.1 in
    let size = c.loop-from.invariant.sized.sources in
    let top = c.loop-from.invariant.top in
    omega arith

pub index_mut-requires-then-from-to : goal.index_mut-requires-then-from-to
index_mut-requires-then-from-to c =
    let movable = c.requires.movable.1 in
    let at = into-at c.args.moves.now c.loop-from.from-index (0, 0) c.loop-from-test.true movable.pending.targets in
    let ends = movable.below (get_or c.args.moves.now c.loop-from.from-index (0, 0)).1 (get_or c.args.moves.now c.loop-from.from-index (0, 0)) at in
    let below = ends.0 in
    let size = c.loop-from.invariant.sized.leaves in
    let top = c.loop-from.invariant.top in
    omega arith

pub overflow_add-self : goal.overflow_add-self
overflow_add-self c =
    let most = pending_at_most c.loop-from.self c.args.moves.now c.loop-from.from-index c.args.self.now.top c.requires.movable.0 c.loop-from.invariant.at c.requires.movable.1 in
    omega arith

pub loop-from-preserved : goal.loop-from-preserved
loop-from-preserved c =
    let i = c.loop-from.from-index in
    let moves = c.args.moves.now in
    let old = c.loop-from.self in
    let new = c.if-from-to.self in
    let movable = c.requires.movable.1 in
    let top = c.loop-from.invariant.top in
    let within = c.loop-from-test.true in
    elim c.if-from-to.branch [
      | then-from-to w ↦
          let loaded : IsLoaded old new (get_or moves i (0, 0)) = record {
            sources = ap (λ (o : Order). o.sources.items) w.self-is;
            leaves = ap (λ (o : Order). o.leaves.items) w.self-is;
            pending = ap (λ (o : Order). o.pending) w.self-is;
            moves = ap (λ (o : Order). o.moves.items) w.self-is;
            len = ap (λ (o : Order). o.len) w.self-is;
            top = ap (λ (o : Order). o.top) w.self-is;
          } in
          let below : (p : ℕ) (m : Move) → move_into moves p ≡ Some m → (m.0 < old.top) × (m.1 < old.top) =
          λ p m into. let ends = movable.below p m into in (omega arith, omega arith) in
          record {
            at = loaded_more old new moves i (0, 0) within movable.pending below w.if-from-to.true loaded c.loop-from.invariant.at;
            sized = sized_loaded old new (get_or moves i (0, 0)) loaded c.loop-from.invariant.sized;
            top = loaded.top ∙ top;
            len = loaded.len ∙ c.loop-from.invariant.len;
          }
      | else-from-to w ↦
          record {
            at = subst (λ (o : Order). IsAt o (begun (take (i + 1) moves))) (sym w.self-is) (loaded_itself old moves i (0, 0) within w.if-from-to.false c.loop-from.invariant.at);
            sized = subst IsSized (sym w.self-is) c.loop-from.invariant.sized;
            top = ap (λ (o : Order). o.top) w.self-is ∙ top;
            len = ap (λ (o : Order). o.len) w.self-is ∙ c.loop-from.invariant.len;
          }
    ]

pub returns-clause-room : goal.returns-clause-room
returns-clause-room c =
    let most = pending_at_most c.loop-from.self c.args.moves.now c.loop-from.from-index c.args.self.now.top c.requires.movable.0 c.loop-from.invariant.at c.requires.movable.1 in
    let size = c.loop-from.invariant.sized.moves in
    let top = c.loop-from.invariant.top in
    let len = c.loop-from.invariant.len in
    omega arith
