use Rattle.std.proofs.Common.{length, arith}
use Rattle.std.proofs.lemmas.Grind.{common_steps}
use Rattle.sector_disk.proofs.Padded.{is_padded}
use Rattle.sector_disk.proofs.sectors.copy_first.Goals as goal

pub returns : goal.returns
returns c =
    is_padded (length c.args.into.now) c.args.from.now c.loop-s.into (grind (arith, common_steps, c.loop-s.auto.into, c.copy_from_slice.ensures.after)) c.requires c.loop-s.invariant.first
    (λ i le lt. c.loop-s.invariant.zeros i le (omega (arith, c.loop-s-test.false)))
