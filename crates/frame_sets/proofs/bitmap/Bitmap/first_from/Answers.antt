use Rattle.std.proofs.Common.{ℕ, sym, ap, ◌∙◌, subst, arith}
use Rattle.std.proofs.lemmas.List.{get_or_read}
use Rattle.definitions.specs.Zones.{first_from}
use Rattle.frame_sets.specs.Bits.{AllClear, IsFirstBit}
use Rattle.frame_sets.specs.FrameSet.{FrameSet}
use Rattle.frame_sets.proofs.Search.{is_read, run_is_block, none_in_block, none_below, first_in_block, none_at_all}
use Rattle.frame_sets.proofs.bitmap.Bitmap.first_from.Goals as goal
use Rattle.frame_sets.proofs.bitmap.Bitmap.first_from.Goals.{then-p-start+in_default, else-p-start}

pub overflow_add-start : goal.overflow_add-start
overflow_add-start c =
    let items = c.self.inside.runs.ok.0 in
    let len = c.len-b-end.ensures in
    let block = run_is_block c.self.inside c.loop-b.b c.index.result.now c.self.invariant (omega arith) c.index.ensures in
    let low = block.2 in
    omega arith

pub first_bit-requires : goal.first_bit-requires
first_bit-requires c =
    let block = run_is_block c.self.inside c.loop-b.b c.index.result.now c.self.invariant (omega arith) c.index.ensures in
    let few = block.1 in
    let some = block.0 in
    let from = c.saturating_sub.ensures in
    let at = c.if-p-start.true in
    omega arith

pub overflow_add-result : goal.overflow_add-result
overflow_add-result c =
    let block = run_is_block c.self.inside c.loop-b.b c.index.result.now c.self.invariant (omega arith) c.index.ensures in
    let low = block.2 in
    let within = c.in-Some.ensures.within in
    omega arith

pub returns-in-Some : goal.returns-in-Some
returns-in-Some c =
    let read = is_read c.self.inside c.loop-b.b c.index.result.now c.index-then-p-start.result.now c.self.invariant (omega arith) c.index.ensures c.index-then-p-start.ensures in
    let first = subst (λ (from : ℕ). IsFirstBit c.index-then-p-start.result.now from c.in-Some.k) c.saturating_sub.ensures c.in-Some.ensures in
    let found = first_in_block c.self.inside c.loop-b.b c.args.p c.in-Some.k c.index.result.now c.index-then-p-start.result.now read c.loop-b.invariant first in
    sym found ∙ ap (λ (set : FrameSet). first_from set.members c.args.p) c.self.view_is

pub loop-b-preserved : goal.loop-b-preserved
loop-b-preserved c = elim c.if-p-start.branch [
  | then-p-start+in_default w ↦
      let words = w.index-then-p-start.result.now in
      let read = is_read c.self.inside c.loop-b.b c.index.result.now words c.self.invariant (omega arith) c.index.ensures w.index-then-p-start.ensures in
      let clear = subst (λ (from : ℕ). AllClear words from 32768) w.saturating_sub.ensures w.in_default.ensures in
      none_in_block c.self.inside c.loop-b.b c.args.p c.index.result.now words read c.loop-b.invariant clear
  | else-p-start w ↦
      let run_is = get_or_read c.self.inside.runs.items c.loop-b.b c.index.result.now (omega arith) c.index.ensures (0, 0) in
      none_below c.self.inside c.loop-b.b c.args.p c.index.result.now c.loop-b.invariant run_is w.if-p-start.false
]

pub returns : goal.returns
returns c =
    let items = c.self.inside.runs.ok.0 in
    let len = c.len-b-end.ensures in
    let none = none_at_all c.self.inside c.args.p c.loop-b.b c.self.invariant c.loop-b.invariant (omega arith) in
    sym none ∙ ap (λ (set : FrameSet). first_from set.members c.args.p) c.self.view_is
