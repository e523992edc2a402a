use Rattle.std.proofs.Common.{sym, ◌∙◌}
use Rattle.std.proofs.lemmas.Bool.Decides.{same_from_decides}
use Rattle.machine.specs.HardFault.{hardware_of, is_region}
use Rattle.machine.proofs.PartRuns.{frames-region, region-frames}
use Rattle.machine.proofs.PartTests.{decides_flags, decides_region}
use Rattle.machine.proofs.parts.is_region.Goals as goal

pub has_frames-requires-clause-some : goal.has_frames-requires-clause-some
has_frames-requires-clause-some c = ((decides_flags c.args.region).0 (sym c.has_flags.ensures ∙ c.if-has_flags.true)).some

pub returns-then-has_flags : goal.returns-then-has_flags
returns-then-has_flags c =
    let h = hardware_of c.args.parts.now in
    let r = c.args.region in
    let flags = (decides_flags r).0 (sym c.has_flags.ensures ∙ c.if-has_flags.true) in
    same_from_decides c.has_frames.result (is_region h r)
    (λ e. region-frames h r flags (c.has_frames.ensures.0 e), λ is. c.has_frames.ensures.1 (frames-region h r is))
    (decides_region h r)
