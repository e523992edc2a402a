use Rattle.std.proofs.Common.{true, false, length, ◌≤◌, sym, ◌∙◌, refl, arith}
use Rattle.std.proofs.lemmas.Bool.{false≢true}
use Rattle.std.proofs.lemmas.Bool.Decides.{same_from_decides}
use Rattle.machine.specs.HardFault.{hardware_of, has_regions}
use Rattle.machine.proofs.PartTests.{decides_regions_by}
use Rattle.machine.proofs.parts.has_regions.Goals as goal

pub returns-then-not-is_region_at : goal.returns-then-not-is_region_at
returns-then-not-is_region_at c =
    let h = hardware_of c.args.parts.now in
    let at = c.is_region_at.ensures in
    same_from_decides false (has_regions h)
    (λ e. absurd (false≢true e), λ all. absurd (false≢true (sym c.if-not-is_region_at.true ∙ at ∙ all.1 c.loop-k.k c.loop-k-test.true)))
    (decides_regions_by h)

pub returns : goal.returns
returns c =
    let h = hardware_of c.args.parts.now in
    let over = c.loop-k-test.false in
    let few = c.if-parts-gt-MOST_REGIONS.false in
    same_from_decides true (has_regions h)
    (λ e. ((let le : length h.regions ≤ 64 = omega arith in le), λ k lt. c.loop-k.invariant k (omega arith)), λ all. refl)
    (decides_regions_by h)
