use Rattle.std.proofs.Common.{◌∙◌, ◌*◌, sym, ap, length, refl, arith}
use Rattle.std.proofs.lemmas.List.{with_items_is}
use Rattle.sector_disk.specs.Sectors.{padded}
use Rattle.sector_disk.specs.ContentLaws.{length-padded}
use Rattle.sector_disk.proofs.Contents.{restarts_kept}
use Rattle.sector_disk.proofs.Padded.{picks_first}
use Rattle.sector_disk.proofs.mem_disk.MemDiskDisk.restart.Goals as goal

pub returns-clause-picked : goal.returns-clause-picked
returns-clause-picked c =
    let d = c.args.self.now in
    picks_first (8 * d.blocks) c.args.pick d.durable.items d.live.items c.deref_mut.result.now c.deref_mut-2.result.now c.restart_sectors.new.live _ c.deref_mut.ensures.value c.deref_mut-2.ensures.value
    (with_items_is d.live c.restart_sectors.new.live (omega (arith, c.restart_sectors.ensures.picked.size, c.deref_mut.ensures.len, d.same_length)))
    d.same_length d.within c.restart_sectors.ensures.picked

pub returns-clause-restarted : goal.returns-clause-restarted
returns-clause-restarted c =
    let d = c.args.self.now in
    restarts_kept (padded (8 * d.blocks) d.durable.items) (padded (8 * d.blocks) d.live.items) (padded (8 * d.blocks) c.restart_sectors.new.live) _ _ c.args.pick
    (ap (padded (8 * d.blocks)) (with_items_is d.durable c.restart_sectors.new.durable (omega (arith, ap length c.restart_sectors.ensures.durable, c.restart_sectors.ensures.picked.size, c.deref_mut.ensures.len)) ∙ c.restart_sectors.ensures.durable))
    (ap (padded (8 * d.blocks)) (with_items_is d.live c.restart_sectors.new.live (omega (arith, c.restart_sectors.ensures.picked.size, c.deref_mut.ensures.len, d.same_length))))
    (length-padded (8 * d.blocks) d.durable.items (omega (arith, d.same_length, d.within)) ∙ sym (length-padded (8 * d.blocks) d.live.items d.within))
    (picks_first (8 * d.blocks) c.args.pick d.durable.items d.live.items c.deref_mut.result.now c.deref_mut-2.result.now c.restart_sectors.new.live c.restart_sectors.new.live c.deref_mut.ensures.value c.deref_mut-2.ensures.value
    refl d.same_length d.within c.restart_sectors.ensures.picked)
