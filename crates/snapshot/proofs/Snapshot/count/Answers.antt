use Rattle.std.proofs.Common.{◌≡◌, ℕ, List, ◌<◌, length, get_or, sym, ap, ◌∙◌, subst, arith}
use Rattle.definitions.specs.ZoneFacts.{AreApart}
use Rattle.definitions.specs.Tables.{saveable_frames}
use Rattle.frame_sets.specs.FrameSet.{FrameSet}
use Rattle.snapshot.specs.Taken.{Taken}
use Rattle.snapshot.proofs.Copying.{saved_below}
use Rattle.snapshot.proofs.Few.{few_zeros}
use Rattle.frame_sets.proofs.Bounds.{few_members}
use Rattle.snapshot.proofs.Snapshot.count.Goals as goal

pub mark_zeros-requires-clause-within : goal.mark_zeros-requires-clause-within
mark_zeros-requires-clause-within c = λ k d lt.
    let view = c.args.view.now in
    let zones_are : c.self.inside.origs.zones ≡ view.zones.now = ap (λ (t : Taken). t.zones) c.self.view_is ∙ c.requires.zones in
    let set_is = c.mark_all.ensures.set in
    let members : c.mark_all.new.set.members ≡ saveable_frames view.zones.now view.table view.frames.now = ap (λ (set : FrameSet). set.members) set_is in
    let in_order : AreApart view.zones.now = subst AreApart (ap (λ (set : FrameSet). set.zones) set_is ∙ zones_are) c.len-n.ensures.set.zones.apart in
    let lt' : k < length (saveable_frames view.zones.now view.table view.frames.now) = subst (λ (xs : List ℕ). k < length xs) members lt in
    subst (λ (xs : List ℕ). get_or xs k d < length view.frames.now) (sym members)
    (saved_below view.zones.now view.table view.frames.now (length view.frames.now) k d in_order c.requires.within lt')

pub enough-requires : goal.enough-requires
enough-requires c =
    let most = few_members c.mark_all.new.set c.len-n.ensures.set in
    let n = c.len-n.ensures.len in
    omega arith

pub overflow_sub-result : goal.overflow_sub-result
overflow_sub-result c =
    let view = c.args.view.now in
    let n = c.len-n.ensures.len in
    let zeros = c.len-zeros.ensures.len in
    let marked = ap (λ (set : FrameSet). length set.members) c.mark_zeros.ensures in
    let most = few_zeros c.args.format view.frames.now c.mark_all.new.set.members in
    omega arith
