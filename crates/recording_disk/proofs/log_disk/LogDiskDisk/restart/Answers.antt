use Rattle.std.proofs.Common.{◌∙◌, ◌*◌, sym, subst, arith}
use Rattle.std.proofs.lemmas.List.{with_items_is}
use Rattle.definitions.specs.Disk.{DiskImage}
use Rattle.sector_disk.specs.MemDisk.{durable_sectors, live_sectors}
use Rattle.sector_disk.specs.Sectors.{AreSectors, IsPicked}
use Rattle.sector_disk.specs.RecordedLaws.{held_whole}
use Rattle.recording_disk.proofs.Recordings.{reads_new, synced_new, content_restarts}
use Rattle.recording_disk.proofs.log_disk.LogDiskDisk.restart.Goals as goal

pub invariant_of-self-clause-start_whole : goal.invariant_of-self-clause-start_whole
invariant_of-self-clause-start_whole c =
    let is = with_items_is c.args.self.now.start c.copy_live.new.into (omega (arith, c.copy_live.auto.into, c.deref_mut.ensures.len)) in
    subst (AreSectors (8 * c.restart.new.self.blocks)) (sym is) c.copy_live.ensures.whole

pub invariant_of-self-clause-live : goal.invariant_of-self-clause-live
invariant_of-self-clause-live c =
    let is = with_items_is c.args.self.now.start c.copy_live.new.into (omega (arith, c.copy_live.auto.into, c.deref_mut.ensures.len)) in
    reads_new _ (live_sectors c.restart.new.self) c.clear.new.self.items c.clear.ensures.items (sym (is ∙ c.copy_live.ensures.sectors))

pub invariant_of-self-clause-synced : goal.invariant_of-self-clause-synced
invariant_of-self-clause-synced c =
    let is = with_items_is c.args.self.now.start c.copy_live.new.into (omega (arith, c.copy_live.auto.into, c.deref_mut.ensures.len)) in
    synced_new _ (durable_sectors c.restart.new.self) c.clear.new.self.items c.clear.ensures.items (c.restart.ensures.durable ∙ sym (is ∙ c.copy_live.ensures.sectors))

pub returns-clause-restarted : goal.returns-clause-restarted
returns-clause-restarted c =
    let d = c.args.self.now in
    let is = with_items_is d.start c.copy_live.new.into (omega (arith, c.copy_live.auto.into, c.deref_mut.ensures.len)) in
    content_restarts d.disk.blocks c.args.pick d.start.items d.log.items (durable_sectors d.disk) (live_sectors d.disk) _ c.clear.new.self.items
    (held_whole d.disk.blocks d.start.items d.log.items d.start_whole d.pages_whole) d.synced d.live
    (subst (λ (v : DiskImage). IsPicked c.args.pick (durable_sectors d.disk) (live_sectors d.disk) v) (sym (is ∙ c.copy_live.ensures.sectors)) c.restart.ensures.picked) c.clear.ensures.items
