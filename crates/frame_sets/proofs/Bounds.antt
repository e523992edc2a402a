-- A set's members are page frame numbers, so they are below 65536, and at most 65536 of them.
use Rattle.std.proofs.Common.{ℕ, ◌<◌, ◌≤◌, List, length, arith}
use Rattle.std.proofs.lemmas.List.Elements.{All-contains}
use Rattle.std.specs.List.{Contains}
use Rattle.definitions.specs.Zones.{numbers}
use Rattle.definitions.proofs.Ascending.{length-between}
use Rattle.definitions.proofs.ZoneNumbers.{below_top, top_at_most}
use Rattle.frame_sets.specs.FrameSet.{FrameSet, IsFrameSet}

pub member_below : (set : FrameSet) (p : ℕ) → IsFrameSet set → Contains set.members p → p < 65536
member_below set p h in' =
    let apart = h.zones.apart in
    let below = below_top set.zones p apart (All-contains (Contains (numbers set.zones)) set.members p h.valid in') in
    let most = top_at_most set.zones h.zones in
    omega arith

pub few_members : (set : FrameSet) → IsFrameSet set → length set.members ≤ 65536
few_members set h = omega (arith, length-between set.members 0 65536 h.ascending (λ p in'. (omega arith, member_below set p h in')) (omega arith))
