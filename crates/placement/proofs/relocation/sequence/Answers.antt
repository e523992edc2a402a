use Rattle.std.proofs.Common.{◌≡◌, ◌≤◌, ◌∙◌, ℕ, List, Contains, length, ap, ap₂, sym, subst, arith}
use Rattle.definitions.specs.Moves.{Move, join_all, sequence}
use Rattle.definitions.specs.Zones.{top}
use Rattle.placement.specs.Listed.{Listed, LiesIn}
use Rattle.placement.specs.Pending.{IsMovable}
use Rattle.placement.specs.Relocation.{order_of, IsPerformable}
use Rattle.placement.proofs.Placements.{placement_movable}
use Rattle.placement.proofs.Relocating.{order_told, entries_told, told_below, order_fits, order_performable, same_assigned}
use Rattle.placement.proofs.relocation.sequence.Goals as goal
use Rattle.placement.proofs.relocation.sequence.Goals.{After-moves-2}

pub arrange-requires-clause-movable : goal.arrange-requires-clause-movable
arrange-requires-clause-movable c =
    let p = c.args.placement.now in
    let wide = c.work.inside.order.top in
    let view : wide ≡ c.args.work.now = c.work.view_is in
    let enough = c.requires.work in
    let high : top p.zones ≤ wide = omega arith in
    subst (λ (b : ℕ). IsMovable wide b c.moves.result.now) (sym c.bounce-bounce.ensures.bounce)
    (subst (λ (ms : List Move). IsMovable wide p.bounce ms) (sym c.moves.ensures.moves) (placement_movable p wide c.moves.ensures.placement high))

order : (c : After-moves-2) → c.moves-2.result.now ≡ sequence (top c.args.placement.now.zones) c.args.placement.now.bounce c.args.placement.now.moves
order c =
    let p = c.args.placement.now in
    let wide = c.work.inside.order.top in
    let view : wide ≡ c.args.work.now = c.work.view_is in
    let enough = c.requires.work in
    order_told p c.moves.ensures.placement wide c.bounce-bounce.result c.moves.result.now c.moves-2.result.now (omega arith)
    c.bounce-bounce.ensures.bounce c.moves.ensures.moves (c.moves-2.ensures ∙ c.arrange.ensures.order)

entries : (c : After-moves-2) → join_all c.bounce-bounce.result c.moves-2.result.now ≡ order_of c.args.placement.now
entries c = entries_told c.args.placement.now c.bounce-bounce.result c.moves-2.result.now c.bounce-bounce.ensures.bounce (order c)

pub write_runs-requires-clause-room : goal.write_runs-requires-clause-room
write_runs-requires-clause-room c =
    let same = ap length (entries (goal.at.write_runs-requires-clause-room c).After-moves-2) in
    let list = ap length c.requires.list in
    let fits = order_fits c.args.placement.now c.moves.ensures.placement in
    omega arith

pub write_runs-requires-clause-below : goal.write_runs-requires-clause-below
write_runs-requires-clause-below c =
    told_below c.args.placement.now c.moves.ensures.placement c.moves-2.result.now (order (goal.at.write_runs-requires-clause-below c).After-moves-2)

pub returns-clause-listed : goal.returns-clause-listed
returns-clause-listed c = subst (LiesIn c.write_runs.new.frames c.write_runs.new.list) (entries (goal.at.returns-clause-listed c).After-moves-2) c.write_runs.ensures.listed

pub returns-clause-ready : goal.returns-clause-ready
returns-clause-ready c =
    let p = c.args.placement.now in
    let frames = c.write_runs.ensures.list ∙ c.requires.list in
    let size = c.write_runs.ensures.size in
    let high = c.requires.frames in
    record {
      entries = order_of p;
      lies = subst (LiesIn c.write_runs.new.frames c.write_runs.new.list) (entries (goal.at.returns-clause-ready c).After-moves-2) c.write_runs.ensures.listed;
      performable = subst (λ (list : List ℕ). IsPerformable (length c.write_runs.new.frames) list (order_of p)) (sym frames)
          (order_performable p c.moves.ensures.placement (length c.write_runs.new.frames) (omega arith));
    }

pub returns-clause-list : goal.returns-clause-list
returns-clause-list c =
    let lies : LiesIn c.write_runs.new.frames c.write_runs.new.list (order_of c.args.placement.now) = subst (LiesIn c.write_runs.new.frames c.write_runs.new.list) (entries (goal.at.returns-clause-list c).After-moves-2) c.write_runs.ensures.listed in
    let made : List ℕ → ℕ → Listed = λ frames len. record { frames = frames; len = len } in
    ap₂ made c.write_runs.ensures.list lies.len

pub returns-clause-moves : goal.returns-clause-moves
returns-clause-moves c =
    let p = c.args.placement.now in
    let list = c.requires.list in
    same_assigned p c.moves.ensures.placement c.args.frames.now c.write_runs.new.frames c.write_runs.ensures.size
    (λ q past. c.write_runs.ensures.others q (subst (λ (xs : List ℕ). Contains xs q → ⊥) (sym list) past))
