use Rattle.std.proofs.Common.{◌-◌, ap, ◌∙◌, arith}
use Rattle.frame_sets.specs.FrameSet.{FrameSet}
use Rattle.definitions.specs.FrameSets.{removed}
use Rattle.frame_sets.proofs.Changes.{after_bit, IsKept-after, clear_after, len_after_clear}
use Rattle.frame_sets.proofs.Keeping.{kept_place, place_below, has_block}
use Rattle.frame_sets.proofs.bitmap.Bitmap.clear.Goals as goal

pub clear_bit-requires : goal.clear_bit-requires
clear_bit-requires c =
    let at = kept_place c.self.inside _ c.args.p (c.in-Some.b, c.in-Some.k) c.deref.ensures.value c.in-Some.ensures in
    place_below c.self.inside c.args.p (c.in-Some.b, c.in-Some.k) c.self.invariant at

pub overflow_sub-self : goal.overflow_sub-self
overflow_sub-self c =
    let is = c.from.ensures in
    let change = after_bit c.self.inside c.args.p 0 (c.in-Some.b, c.in-Some.k) c.index_mut.result.now c.clear_bit.new.block c.self.invariant c.deref.ensures.value c.in-Some.ensures c.index_mut.ensures.value c.clear_bit.ensures.after in
    let count = len_after_clear c.clear_bit.result change c.clear_bit.ensures.was in
    let some = count.0 in
    omega arith

pub invariant_of-self : goal.invariant_of-self
invariant_of-self c =
    let change = after_bit c.self.inside c.args.p 0 (c.in-Some.b, c.in-Some.k) c.index_mut.result.now c.clear_bit.new.block c.self.invariant c.deref.ensures.value c.in-Some.ensures c.index_mut.ensures.value c.clear_bit.ensures.after in
    let count = len_after_clear c.clear_bit.result change c.clear_bit.ensures.was in
    IsKept-after (c.self.inside.len - c.from.result) change (ap (λ n. c.self.inside.len - n) c.from.ensures ∙ count.1)

pub returns-in-Some : goal.returns-in-Some
returns-in-Some c =
    let change = after_bit c.self.inside c.args.p 0 (c.in-Some.b, c.in-Some.k) c.index_mut.result.now c.clear_bit.new.block c.self.invariant c.deref.ensures.value c.in-Some.ensures c.index_mut.ensures.value c.clear_bit.ensures.after in
    let with_p : FrameSet → FrameSet = λ set. record { zones = set.zones; members = removed set.members c.args.p } in
    clear_after (c.self.inside.len - c.from.result) change ∙ ap with_p c.self.view_is

pub returns-in_default : goal.returns-in_default
returns-in_default c = absurd (c.in_default.ensures (has_block c.self.inside c.args.self.now _ c.args.p c.self.invariant c.self.view_is c.deref.ensures.value c.requires))
