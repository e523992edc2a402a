use Rattle.std.proofs.Common.{sym, ◌∙◌}
use Rattle.std.proofs.lemmas.Bool.Decides.{same_from_decides}
use Rattle.machine.specs.HardFault.{hardware_of, is_region_at, region_at}
use Rattle.machine.proofs.PartRuns.{apart-behind, behind-apart}
use Rattle.machine.proofs.PartTests.{decides_region, decides_region_at}
use Rattle.machine.proofs.parts.is_region_at.Goals as goal

pub returns-then-is_region : goal.returns-then-is_region
returns-then-is_region c =
    let h = hardware_of c.args.parts.now in
    let k = c.args.k in
    let this = (decides_region h (region_at h.regions k)).0 (sym c.is_region.ensures ∙ c.if-is_region.true) in
    same_from_decides c.lies_apart.result (is_region_at h k) (
      λ e. (this, behind-apart h.regions k c.requires.within (c.lies_apart.ensures.0 e)),
      λ is. c.lies_apart.ensures.1 (apart-behind h.regions k c.requires.within (λ j lt. ((decides_region_at h j).0 (c.requires.before j lt)).0.some) this.some is.1),
    )
    (decides_region_at h k)
