use Rattle.std.proofs.Common.{◌∙◌, ◌*◌, sym, ap, length, arith}
use Rattle.std.proofs.lemmas.List.{with_items_is}
use Rattle.sector_disk.specs.Sectors.{padded}
use Rattle.sector_disk.specs.ContentLaws.{length-padded}
use Rattle.sector_disk.proofs.Contents.{syncs_kept}
use Rattle.sector_disk.proofs.mem_disk.MemDiskDisk.sync.Goals as goal

pub returns-clause-synced : goal.returns-clause-synced
returns-clause-synced c =
    let d = c.args.self.now in
    syncs_kept (padded (8 * d.blocks) d.durable.items) (padded (8 * d.blocks) d.live.items) _
    (length-padded (8 * d.blocks) d.durable.items (omega (arith, d.same_length, d.within)) ∙ sym (length-padded (8 * d.blocks) d.live.items d.within))
    (ap (padded (8 * d.blocks)) (with_items_is d.durable c.sync_sectors.new.durable (omega (arith, ap length c.sync_sectors.ensures, d.same_length, c.deref.ensures.len)) ∙ c.sync_sectors.ensures ∙ c.deref.ensures.value))
