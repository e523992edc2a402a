use Rattle.std.proofs.Common.{◌≡◌, length}
use Rattle.sector_disk.proofs.SectorLaws.{All-put_mid, All-from_nil, takes_picked}
use Rattle.sector_disk.proofs.sectors.write_picked.Goals as goal

pub returns-clause-within : goal.returns-clause-within
returns-clause-within c =
    takes_picked c.args.pick c.args.b c.args.page.now c.args.sectors.now c.sectors_of.result.now c.copy_picked.new.into c.requires c.sectors_of.ensures.sectors c.copy_picked.ensures.picked

pub returns-clause-whole : goal.returns-clause-whole
returns-clause-whole c =
    All-put_mid (λ bytes. length bytes ≡ 512) _ _ c.args.sectors.now c.copy_picked.new.into (All-from_nil (λ bytes. length bytes ≡ 512) c.args.sectors.now c.told-sectors) c.copy_picked.ensures.whole
