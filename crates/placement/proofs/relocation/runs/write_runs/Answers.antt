use Rattle.std.proofs.Common.{◌≡◌, ◌+◌, ◌*◌, ◌<◌, ◌∙◌, ℕ, List, length, Contains, get_or, ap, sym, refl, subst, arith}
use Rattle.std.proofs.lemmas.Bool.{eqb-false}
use Rattle.definitions.specs.Moves.{Move, Entry}
use Rattle.definitions.specs.Tables.{frame}
use Rattle.placement.specs.Listed.{Listed}
use Rattle.placement.specs.Joining.{continued, LiesBelow}
use Rattle.placement.proofs.Writing.{written_first, written_longer, written_next, written_room, longer_below, length-rest, rest_item, written_as}
use Rattle.placement.proofs.relocation.runs.write_runs.Goals as goal
use Rattle.placement.proofs.relocation.runs.write_runs.Goals.{in-Some, in-None}

pub loop-next-init : goal.loop-next-init
loop-next-init c =
    let some = eqb-false (length c.args.moves.now) 0 (sym c.is_empty.ensures ∙ c.if-is_empty.false) in
    let most : 0 < length c.args.moves.now = omega arith in
    let ends = c.requires.below 0 (0, 0) most in
    let source = ends.0 in
    let target = ends.1 in
    record {
      written = written_first c.args.frames.now c.args.list.now c.args.bounce c.args.moves.now (0, 0) most c.requires.empty;
      below = (omega arith, omega arith);
      list = refl;
      others = λ p _. refl;
      size = refl;
    }

-- the next move is the one after those written
record Next (moves : List Move) (next : Move) (i : ℕ) : Type 0 where
  within : i + 1 < length moves
  item : next ≡ get_or moves (i + 1) (0, 0)
  below : (next.0 < 65536) × (next.1 < 65536)

pub continue_run-requires-clause-next : goal.continue_run-requires-clause-next
continue_run-requires-clause-next c =
    let moves = c.args.moves.now in
    let some = eqb-false (length moves) 0 (sym c.is_empty.ensures ∙ c.if-is_empty.false) in
    let most : 0 < length moves = omega arith in
    let size = length-rest moves most in
    let more = c.loop-next-test.true in
    let item = rest_item moves c.loop-next.next-index (0, 0) (omega arith) in
    subst (λ (m : Move). (m.0 < 65536) × (m.1 < 65536)) (sym item) (c.requires.below (c.loop-next.next-index + 1) (0, 0) (omega arith))

pub push-requires-clause-room : goal.push-requires-clause-room
push-requires-clause-room c =
    let same = ap length c.loop-next.invariant.list in
    let fits = c.requires.room in
    written_room c.loop-next.frames c.loop-next.list c.args.bounce (170 * length c.loop-next.list.frames) c.args.moves.now c.loop-next.run c.loop-next.next-index (omega arith) c.loop-next.invariant.written

pub loop-next-preserved : goal.loop-next-preserved
loop-next-preserved c =
    let moves = c.args.moves.now in
    let i = c.loop-next.next-index in
    let some = eqb-false (length moves) 0 (sym c.is_empty.ensures ∙ c.if-is_empty.false) in
    let most : 0 < length moves = omega arith in
    let size = length-rest moves most in
    let more = c.loop-next-test.true in
    let within : i + 1 < length moves = omega arith in
    let item = rest_item moves i (0, 0) (omega arith) in
    let found = c.continue_run.ensures ∙ ap (continued c.args.bounce c.loop-next.run) item in
    let ends = c.requires.below (i + 1) (0, 0) within in
    elim c.match-continue_run.branch [
      | in-Some w ↦
          let longer = sym found ∙ w.in-Some.is in
          record {
            written =
                written_as c.loop-next.frames c.match-continue_run.frames c.loop-next.list c.match-continue_run.list c.args.bounce moves w.in-Some.longer c.match-continue_run.run (i + 1)
                w.frames-is w.list-is w.run-is
                (written_longer c.loop-next.frames c.loop-next.list c.args.bounce moves c.loop-next.run w.in-Some.longer i (0, 0) within longer c.loop-next.invariant.written);
            below =
                subst (LiesBelow 65536) (sym w.run-is)
                (longer_below c.args.bounce c.loop-next.run w.in-Some.longer (get_or moves (i + 1) (0, 0)) longer ends c.loop-next.invariant.below);
            list = ap (λ (l : Listed). l.frames) w.list-is ∙ c.loop-next.invariant.list;
            others = λ p past. ap (λ (fs : List (List ℕ)). frame fs p) w.frames-is ∙ c.loop-next.invariant.others p past;
            size = ap (λ (fs : List (List ℕ)). length fs) w.frames-is ∙ c.loop-next.invariant.size;
          }
      | in-None w ↦
          let stops = sym found ∙ w.in-None.is in
          let next : Entry = ((get_or moves (i + 1) (0, 0)).0, (get_or moves (i + 1) (0, 0)).1, 1) in
          let run : c.match-continue_run.run ≡ next = w.run-is ∙ ap (λ (m : Move). let e : Entry = (m.0, m.1, 1) in e) item in
          let source = ends.0 in
          let target = ends.1 in
          let below : LiesBelow 65536 next = (omega arith, omega arith) in
          record {
            written =
                written_as w.push.new.frames c.match-continue_run.frames w.push.new.self c.match-continue_run.list c.args.bounce moves next c.match-continue_run.run (i + 1)
                w.frames-is w.list-is run
                (written_next c.loop-next.frames w.push.new.frames c.loop-next.list w.push.new.self c.args.bounce moves c.loop-next.run i (0, 0) within stops w.push.ensures.pushed c.loop-next.invariant.written);
            below = subst (LiesBelow 65536) (sym run) below;
            list = ap (λ (l : Listed). l.frames) (w.list-is ∙ w.push.ensures.list) ∙ c.loop-next.invariant.list;
            others = λ p past.
                ap (λ (fs : List (List ℕ)). frame fs p) w.frames-is
                ∙ w.push.ensures.others p (subst (λ (xs : List ℕ). Contains xs p → ⊥) (sym c.loop-next.invariant.list) past)
                ∙ c.loop-next.invariant.others p past;
            size = ap (λ (fs : List (List ℕ)). length fs) w.frames-is ∙ w.push.ensures.size ∙ c.loop-next.invariant.size;
          }
    ]
