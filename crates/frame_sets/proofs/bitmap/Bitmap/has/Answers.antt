use Rattle.std.proofs.Common.{ℕ, List, subst, sym}
use Rattle.std.specs.List.{Contains}
use Rattle.definitions.specs.Zones.{numbers}
use Rattle.frame_sets.specs.FrameSet.{FrameSet}
use Rattle.frame_sets.proofs.Keeping.{kept_place, place_below, member_by_bit, no_member}
use Rattle.frame_sets.proofs.bitmap.Bitmap.has.Goals as goal

pub has_bit-requires : goal.has_bit-requires
has_bit-requires c =
    let at = kept_place c.self.inside _ c.args.p (c.in-Some.b, c.in-Some.k) c.deref.ensures.value c.in-Some.ensures in
    place_below c.self.inside c.args.p (c.in-Some.b, c.in-Some.k) c.self.invariant at

pub returns-in-Some : goal.returns-in-Some
returns-in-Some c =
    let at = kept_place c.self.inside _ c.args.p (c.in-Some.b, c.in-Some.k) c.deref.ensures.value c.in-Some.ensures in
    let by = member_by_bit c.self.inside c.args.p (c.in-Some.b, c.in-Some.k) c.index.result.now c.self.invariant at c.index.ensures in
    let Has : FrameSet → Type 0 = λ set. Contains set.members c.args.p in
    (λ test. subst Has c.self.view_is (by.0 (c.has_bit.ensures.0 test)), λ in'. c.has_bit.ensures.1 (by.1 (subst Has (sym c.self.view_is) in')))

pub returns-in-None : goal.returns-in-None
returns-in-None c =
    let Has : FrameSet → Type 0 = λ set. Contains set.members c.args.p in
    let outside = subst (λ (runs : List (ℕ × ℕ)). Contains (numbers runs) c.args.p → ⊥) c.deref.ensures.value c.in-None.ensures in
    (λ test. cc, λ in'. absurd (no_member c.self.inside c.args.p c.self.invariant outside (subst Has (sym c.self.view_is) in')))
