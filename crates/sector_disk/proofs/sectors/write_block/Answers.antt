use Rattle.std.proofs.Common.{◌≡◌, ◌∙◌, sym, subst, length, All}
use Rattle.definitions.specs.Disk.{DiskImage}
use Rattle.sector_disk.proofs.SectorLaws.{All-put_mid, All-from_nil, takes_page}
use Rattle.sector_disk.proofs.sectors.write_block.Goals as goal

pub returns-clause-within : goal.returns-clause-within
returns-clause-within c =
    takes_page c.args.b c.args.page.now c.args.sectors.now c.copy_from_slice.new.self c.requires (c.copy_from_slice.ensures.after ∙ c.sectors_of.ensures.sectors)

pub returns-clause-whole : goal.returns-clause-whole
returns-clause-whole c =
    All-put_mid (λ bytes. length bytes ≡ 512) _ _ c.args.sectors.now c.copy_from_slice.new.self (All-from_nil (λ bytes. length bytes ≡ 512) c.args.sectors.now c.told-sectors)
    (subst (λ (xs : DiskImage). All (λ bytes. length bytes ≡ 512) xs) (sym c.copy_from_slice.ensures.after) c.sectors_of.ensures.whole)
