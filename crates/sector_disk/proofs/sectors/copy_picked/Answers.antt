use Rattle.std.proofs.Common.{◌≡◌, length, arith}
use Rattle.sector_disk.proofs.SectorLaws.{All-picked, All-from_nil}
use Rattle.sector_disk.proofs.sectors.copy_picked.Goals as goal

pub returns-clause-whole : goal.returns-clause-whole
returns-clause-whole c =
    All-picked (λ bytes. length bytes ≡ 512) c.args.first c.args.pick c.args.into.now c.args.from.now c.loop-s.into (record { size = c.loop-s.auto.into; each = λ s lt. c.loop-s.invariant.done s (omega arith) }) c.requires.same_length
    (All-from_nil (λ bytes. length bytes ≡ 512) c.args.into.now c.told-into) (All-from_nil (λ bytes. length bytes ≡ 512) c.args.from.now c.told-from)
