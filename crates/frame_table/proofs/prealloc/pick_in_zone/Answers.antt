use Rattle.std.proofs.Common.{◌≡◌, ℕ, ◌-◌, List, [], ◌∷◌, ◌++◌, length, length-append, filter, take, sym, ap, ap₂, ◌∙◌, subst, arith}
use Rattle.std.specs.List.{Contains, range_with_len}
use Rattle.definitions.specs.Zones.{numbers}
use Rattle.frame_table.specs.Tests.{free_by_entry}
use Rattle.frame_table.proofs.Picks.{take-picked, length-picked, inserted_first, free-by_parts}
use Rattle.definitions.proofs.Picks.{picks_one, picks_none}
use Rattle.definitions.specs.Tables.{entry_at}
use Rattle.frame_sets.specs.FrameSet.{FrameSet}
use Rattle.frame_table.proofs.prealloc.pick_in_zone.Goals as goal
use Rattle.frame_table.proofs.prealloc.pick_in_zone.Goals.{then-eq, else-eq}

pub returns-then-left-eq0-clause-set : goal.returns-then-left-eq0-clause-set
returns-then-left-eq0-clause-set c =
    let view = c.args.view.now in
    let test = free_by_entry view.table view.frames.now in
    let start = c.args.zone.0 in
    let left = c.loop-p.invariant.left in
    let set_of : List (ℕ × ℕ) → List ℕ → FrameSet = λ zones members. record { zones = zones; members = members } in
    ap₂ set_of c.loop-p.invariant.zones
    (c.loop-p.invariant.members ∙ ap (λ t. c.args.set.now.members ++ t) (sym (take-picked test start c.loop-p.p c.args.zone.1 c.args.most c.loop-p.auto.p (omega arith) (omega arith))))

pub returns-then-left-eq0-clause-left : goal.returns-then-left-eq0-clause-left
returns-then-left-eq0-clause-left c =
    let view = c.args.view.now in
    let test = free_by_entry view.table view.frames.now in
    let more = length-picked test c.args.zone.0 c.loop-p.p c.args.zone.1 c.loop-p.auto.p (omega arith) in
    let left = c.loop-p.invariant.left in
    omega arith

pub set-requires : goal.set-requires
set-requires c =
    subst (λ (zones : List (ℕ × ℕ)). Contains (numbers zones) c.loop-p.p) (sym c.loop-p.invariant.zones) (c.requires.valid c.loop-p.p c.loop-p.auto.p (omega arith))

pub loop-p-preserved : goal.loop-p-preserved
loop-p-preserved c =
    let view = c.args.view.now in
    let test = free_by_entry view.table view.frames.now in
    let old = c.args.set.now.members in
    let most = c.args.most in
    let p = c.loop-p.p in
    let start = c.args.zone.0 in
    let from = c.loop-p.auto.p in
    let picked = filter test (range_with_len start (p - start)) in
    let left_is = c.loop-p.invariant.left in
    let some = c.if-left-eq0.false in
    let is : c.eq.result ≡ test p =
    c.eq.ensures ∙ free-by_parts (entry_at view.frames.now view.table p) c.entry.result.0.0 c.entry.result.1 c.entry.ensures.flags c.entry.ensures.owner in
    elim c.if-eq.branch [
      | then-eq w ↦
          let set_is = w.set-is ∙ w.set.ensures in
          let left_after = w.left-is in
          let more = ap length (picks_one test start p from (sym is ∙ w.if-eq.true)) in
          let sum = length-append picked (p ∷ []) in
          record {
            zones = ap (λ (set : FrameSet). set.zones) set_is ∙ c.loop-p.invariant.zones;
            members =
                ap (λ (set : FrameSet). set.members) set_is
                ∙ inserted_first test old c.loop-p.set.members start p most from c.requires.above c.loop-p.invariant.members (omega arith) (sym is ∙ w.if-eq.true);
            left = omega arith;
          }
      | else-eq w ↦
          let left_after = w.left-is in
          let same = picks_none test start p from (sym is ∙ w.if-eq.false) in
          let count = ap length same in
          record {
            zones = ap (λ (set : FrameSet). set.zones) w.set-is ∙ c.loop-p.invariant.zones;
            members = ap (λ (set : FrameSet). set.members) w.set-is ∙ c.loop-p.invariant.members ∙ ap (λ t. old ++ take most t) (sym same);
            left = omega arith;
          }
    ]
