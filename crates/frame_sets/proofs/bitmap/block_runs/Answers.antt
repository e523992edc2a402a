use Rattle.std.proofs.Common.{ℕ, List, ◌++◌, take, sym, ap, ◌∙◌}
use Rattle.definitions.specs.FrameSets.{zone_blocks, blocks}
use Rattle.definitions.specs.Zones.{zone_at}
use Rattle.definitions.proofs.ZoneBlocks.{blocks-nil, blocks-take_more}
use Rattle.definitions.proofs.ZoneWalk.{at_zone}
use Rattle.frame_sets.proofs.bitmap.block_runs.Goals as goal

pub loop-zone-init : goal.loop-zone-init
loop-zone-init c = c.new-runs.ensures.items ∙ sym blocks-nil

pub loop-zone-preserved : goal.loop-zone-preserved
loop-zone-preserved c =
    let zones = c.args.zones.now in
    let pairs = c.as_slice-zone-items.result.now in
    let j = c.loop-zone.zone-index in
    let at = at_zone zones pairs j c.as_slice-zone-items.ensures.pairs c.as_slice-zone-items.ensures.zones c.loop-zone-test.true in
    c.in_ok-add_blocks.ensures ∙ ap (λ (runs : List (ℕ × ℕ)). runs ++ zone_blocks (zone_at pairs j)) c.loop-zone.invariant
    ∙ ap (λ (zone : ℕ × ℕ). blocks (take j zones) ++ zone_blocks zone) (sym at.zone_is)
    ∙ sym (blocks-take_more zones j at.within)
