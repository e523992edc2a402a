use Rattle.std.proofs.Common.{ℕ, List, ◌++◌, length, filter, take, sym, ap, ap₂, ◌∙◌, subst, arith}
use Rattle.std.specs.List.{Contains, range_with_len}
use Rattle.definitions.specs.Zones.{numbers, zone_at}
use Rattle.definitions.specs.Tables.{saveable_frames}
use Rattle.definitions.proofs.FrameSets.{Contains-from_filter}
use Rattle.definitions.proofs.ZoneWalk.{at_zone, valid_in_zone, below_zone, filter_one_zone_more, filter_all_zones}
use Rattle.frame_sets.specs.FrameSet.{FrameSet}
use Rattle.frame_table.specs.Tests.{saveable_by_entry}
use Rattle.frame_table.proofs.view.mark_all.Goals as goal

pub mark_zone-requires-clause-valid : goal.mark_zone-requires-clause-valid
mark_zone-requires-clause-valid c = λ p le lt.
    let zones = c.args.view.now.zones.now in
    let told = c.as_slice-zone-items in
    let j = c.loop-zone.zone-index in
    let at = at_zone zones told.result.now j told.ensures.pairs told.ensures.zones c.loop-zone-test.true in
    subst (λ (zs : List (ℕ × ℕ)). Contains (numbers zs) p) (sym c.loop-zone.invariant.zones) (valid_in_zone zones j (zone_at told.result.now j) p at le lt)

pub mark_zone-requires-clause-above : goal.mark_zone-requires-clause-above
mark_zone-requires-clause-above c = λ p in'.
    let view = c.args.view.now in
    let zones = view.zones.now in
    let told = c.as_slice-zone-items in
    let j = c.loop-zone.zone-index in
    let test = saveable_by_entry view.table view.frames.now in
    let at = at_zone zones told.result.now j told.ensures.pairs told.ensures.zones c.loop-zone-test.true in
    let picked = subst (λ (members : List ℕ). Contains members p) c.loop-zone.invariant.members in' in
    below_zone zones j (zone_at told.result.now j) p at (Contains-from_filter test (numbers (take j zones)) p picked).0

pub mark_zone-requires-clause-table : goal.mark_zone-requires-clause-table
mark_zone-requires-clause-table c =
    let told = c.as_slice-zone-items in
    let at = at_zone c.args.view.now.zones.now told.result.now c.loop-zone.zone-index told.ensures.pairs told.ensures.zones c.loop-zone-test.true in
    omega (arith, at.below_top, c.requires.table)

pub loop-zone-preserved : goal.loop-zone-preserved
loop-zone-preserved c =
    let view = c.args.view.now in
    let zones = view.zones.now in
    let told = c.as_slice-zone-items in
    let j = c.loop-zone.zone-index in
    let zone = zone_at told.result.now j in
    let test = saveable_by_entry view.table view.frames.now in
    let at = at_zone zones told.result.now j told.ensures.pairs told.ensures.zones c.loop-zone-test.true in
    record {
      zones = ap (λ (set : FrameSet). set.zones) c.mark_zone.ensures ∙ c.loop-zone.invariant.zones;
      members =
          ap (λ (set : FrameSet). set.members) c.mark_zone.ensures
          ∙ ap (λ t. t ++ filter test (range_with_len zone.0 zone.1)) c.loop-zone.invariant.members
          ∙ sym (filter_one_zone_more test zones j zone at);
    }

pub returns-clause-set : goal.returns-clause-set
unfolding saveable_frames
returns-clause-set c =
    let view = c.args.view.now in
    let told = c.as_slice-zone-items in
    let test = saveable_by_entry view.table view.frames.now in
    let set_of : List (ℕ × ℕ) → List ℕ → FrameSet = λ zones members. record { zones = zones; members = members } in
    ap₂ set_of (c.loop-zone.invariant.zones ∙ sym c.requires.zones)
    (c.loop-zone.invariant.members ∙ filter_all_zones test view.zones.now told.result.now c.loop-zone.zone-index told.ensures.pairs c.loop-zone-test.false)

pub returns-clause-count : goal.returns-clause-count
unfolding saveable_frames
returns-clause-count c =
    let view = c.args.view.now in
    let told = c.as_slice-zone-items in
    let test = saveable_by_entry view.table view.frames.now in
    c.len.ensures.len ∙ ap length (c.loop-zone.invariant.members ∙ filter_all_zones test view.zones.now told.result.now c.loop-zone.zone-index told.ensures.pairs c.loop-zone-test.false)
