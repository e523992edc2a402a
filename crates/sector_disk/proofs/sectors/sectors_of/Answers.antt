use Rattle.std.proofs.Common.{◌≡◌, sym, subst, length, All, arith}
use Rattle.definitions.specs.Disk.{DiskImage}
use Rattle.sector_disk.proofs.SectorLaws.{first_chunks-whole}
use Rattle.sector_disk.proofs.sectors.sectors_of.Goals as goal

pub returns-clause-whole : goal.returns-clause-whole
returns-clause-whole c =
    subst (λ (xs : DiskImage). All (λ bytes. length bytes ≡ 512) xs) (sym c.as_chunks.ensures.front)
    (first_chunks-whole 512 _ c.as_bytes.result.now (omega arith))
