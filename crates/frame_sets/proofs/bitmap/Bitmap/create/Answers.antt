use Rattle.std.proofs.Common.{ℕ, List, refl, sym, ap, subst, arith}
use Rattle.definitions.specs.ZoneFacts.{AreApart}
use Rattle.definitions.proofs.ZoneBlocks.{AreApart-blocks}
use Rattle.frame_sets.specs.FrameSet.{FrameSet}
use Rattle.frame_sets.proofs.Empty.{members_of-empty, IsKept-empty}
use Rattle.frame_sets.proofs.bitmap.Bitmap.create.Goals as goal

pub invariant_of-result : goal.invariant_of-result
invariant_of-result c =
    let runs = c.in_ok-runs.ensures in
    let apart = subst AreApart (sym runs.0) (AreApart-blocks c.args.zones.now runs.1.apart) in
    let count = c.in_ok-bits.ensures.count in
    let len = c.len.ensures in
    let r = c.in_ok-runs.runs.ok.0 in
    let b = c.in_ok-bits.bits.ok.0 in
    IsKept-empty _ runs.1 apart runs.0 (omega arith) c.in_ok-bits.ensures.empty refl

pub returns : goal.returns
returns c =
    let runs = c.in_ok-runs.ensures in
    let apart = subst AreApart (sym runs.0) (AreApart-blocks c.args.zones.now runs.1.apart) in
    let set_of : List ℕ → FrameSet = λ members. record { zones = c.args.zones.now; members = members } in
    ap set_of (members_of-empty c.in_ok-runs.runs.items c.in_ok-bits.bits.items apart c.in_ok-bits.ensures.empty)
