use Rattle.std.proofs.Common.{ℕ, List, ◌++◌, length, length-append, filter, take, sym, ap, ap₂, ◌∙◌, subst, arith}
use Rattle.std.specs.List.{Contains, range_with_len}
use Rattle.definitions.specs.Zones.{numbers, zone_at}
use Rattle.definitions.specs.Tables.{free_frames}
use Rattle.frame_table.specs.Tests.{free_by_entry}
use Rattle.definitions.proofs.FrameSets.{Contains-from_filter}
use Rattle.frame_table.proofs.Picks.{take-append, Contains-from_take}
use Rattle.definitions.proofs.ZoneWalk.{at_zone, valid_in_zone, below_zone, filter_one_zone_more, filter_all_zones}
use Rattle.frame_sets.specs.FrameSet.{FrameSet}
use Rattle.frame_table.proofs.prealloc.pick.Goals as goal

pub pick_in_zone-left-requires-clause-valid : goal.pick_in_zone-left-requires-clause-valid
pick_in_zone-left-requires-clause-valid c = λ p le lt.
    let zones = c.args.view.now.zones.now in
    let told = c.as_slice-zone-items in
    let j = c.loop-zone.zone-index in
    let at = at_zone zones told.result.now j told.ensures.pairs told.ensures.zones c.loop-zone-test.true in
    subst (λ (zs : List (ℕ × ℕ)). Contains (numbers zs) p) (sym c.loop-zone.invariant.zones) (valid_in_zone zones j (zone_at told.result.now j) p at le lt)

pub pick_in_zone-left-requires-clause-above : goal.pick_in_zone-left-requires-clause-above
pick_in_zone-left-requires-clause-above c = λ p in'.
    let view = c.args.view.now in
    let zones = view.zones.now in
    let told = c.as_slice-zone-items in
    let j = c.loop-zone.zone-index in
    let test = free_by_entry view.table view.frames.now in
    let at = at_zone zones told.result.now j told.ensures.pairs told.ensures.zones c.loop-zone-test.true in
    let picked = subst (λ (members : List ℕ). Contains members p) c.loop-zone.invariant.members in' in
    let free = Contains-from_take c.args.n (filter test (numbers (take j zones))) p picked in
    below_zone zones j (zone_at told.result.now j) p at (Contains-from_filter test (numbers (take j zones)) p free).0

pub pick_in_zone-left-requires-clause-table : goal.pick_in_zone-left-requires-clause-table
pick_in_zone-left-requires-clause-table c =
    let told = c.as_slice-zone-items in
    let at = at_zone c.args.view.now.zones.now told.result.now c.loop-zone.zone-index told.ensures.pairs told.ensures.zones c.loop-zone-test.true in
    omega (arith, at.below_top, c.requires.table)

pub loop-zone-preserved : goal.loop-zone-preserved
loop-zone-preserved c =
    let view = c.args.view.now in
    let zones = view.zones.now in
    let told = c.as_slice-zone-items in
    let j = c.loop-zone.zone-index in
    let zone = zone_at told.result.now j in
    let test = free_by_entry view.table view.frames.now in
    let n = c.args.n in
    let before = filter test (numbers (take j zones)) in
    let here = filter test (range_with_len zone.0 zone.1) in
    let at = at_zone zones told.result.now j told.ensures.pairs told.ensures.zones c.loop-zone-test.true in
    let more = filter_one_zone_more test zones j zone at in
    let sum = length-append before here in
    record {
      zones = ap (λ (set : FrameSet). set.zones) c.pick_in_zone-left.ensures.set ∙ c.loop-zone.invariant.zones;
      members =
          ap (λ (set : FrameSet). set.members) c.pick_in_zone-left.ensures.set
          ∙ ap₂ (λ (members : List ℕ) (left : ℕ). members ++ take left here) c.loop-zone.invariant.members c.loop-zone.invariant.left
          ∙ sym (take-append n before here) ∙ ap (take n) (sym more);
      left = omega (arith, c.loop-zone.invariant.left, c.pick_in_zone-left.ensures.left, ap length more, sum);
    }

pub returns : goal.returns
unfolding free_frames
returns c =
    let view = c.args.view.now in
    let told = c.as_slice-zone-items in
    let test = free_by_entry view.table view.frames.now in
    let set_of : List (ℕ × ℕ) → List ℕ → FrameSet = λ zones members. record { zones = zones; members = members } in
    ap₂ set_of (c.loop-zone.invariant.zones ∙ sym c.requires.zones)
    (c.loop-zone.invariant.members ∙ ap (take c.args.n) (filter_all_zones test view.zones.now told.result.now c.loop-zone.zone-index told.ensures.pairs c.loop-zone-test.false))
