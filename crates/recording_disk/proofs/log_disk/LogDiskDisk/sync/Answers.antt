use Rattle.std.proofs.Common.{◌∙◌, sym, ap, refl, arith}
use Rattle.sector_disk.specs.MemDisk.{live_sectors}
use Rattle.definitions.specs.Disk.{as_it_reads}
use Rattle.sector_disk.specs.Recorded.{as_synced}
use Rattle.recording_disk.proofs.Recordings.{live_sync, held_failed_sync, synced_sync, whole_push, blocks_push, time_recorded}
use Rattle.sector_disk.specs.declared.recorded.Recorded.TheVariants.{Sync, FailedSync}
use Rattle.recording_disk.proofs.log_disk.LogDiskDisk.sync.Goals as goal

pub invariant_of-self-clause-live : goal.invariant_of-self-clause-live
invariant_of-self-clause-live c =
    let d = c.args.self.now in
    c.in-Ok.ensures.live ∙ live_sync d.start.items d.log.items c.push_reserved.new.self.items (live_sectors d.disk) c.push_reserved.ensures.items d.live

pub invariant_of-self-clause-synced : goal.invariant_of-self-clause-synced
invariant_of-self-clause-synced c =
    let d = c.args.self.now in
    c.in-Ok.ensures.durable ∙ synced_sync d.start.items d.log.items c.push_reserved.new.self.items (live_sectors d.disk) c.push_reserved.ensures.items d.live

pub returns-in-Ok-clause-time : goal.returns-in-Ok-clause-time
returns-in-Ok-clause-time c =
    let d = c.args.self.now in
    time_recorded d.start.items d.log.items c.push_reserved.new.self.items Sync c.push_reserved.ensures.items

pub returns-in-Err-clause-time : goal.returns-in-Err-clause-time
returns-in-Err-clause-time c =
    let d = c.args.self.now in
    time_recorded d.start.items d.log.items c.push_reserved-in-Err.new.self.items FailedSync c.push_reserved-in-Err.ensures.items

pub invariant_of-self-clause-pages_whole : goal.invariant_of-self-clause-pages_whole
invariant_of-self-clause-pages_whole c =
    let d = c.args.self.now in
    whole_push d.log.items c.push_reserved.new.self.items Sync c.push_reserved.ensures.items refl d.pages_whole

pub invariant_of-self-clause-blocks_inside : goal.invariant_of-self-clause-blocks_inside
invariant_of-self-clause-blocks_inside c =
    let d = c.args.self.now in
    blocks_push d.disk.blocks c.sync-answer.new.self.blocks d.log.items c.push_reserved.new.self.items Sync c.push_reserved.ensures.items (omega arith) d.blocks_inside c.sync-answer.ensures.called.blocks

pub invariant_of-self-in-Err-clause-blocks_inside : goal.invariant_of-self-in-Err-clause-blocks_inside
invariant_of-self-in-Err-clause-blocks_inside c =
    let d = c.args.self.now in
    blocks_push d.disk.blocks c.sync-answer.new.self.blocks d.log.items c.push_reserved-in-Err.new.self.items FailedSync c.push_reserved-in-Err.ensures.items (omega arith) d.blocks_inside c.sync-answer.ensures.called.blocks

pub invariant_of-self-in-Err-clause-pages_whole : goal.invariant_of-self-in-Err-clause-pages_whole
invariant_of-self-in-Err-clause-pages_whole c =
    let d = c.args.self.now in
    whole_push d.log.items c.push_reserved-in-Err.new.self.items FailedSync c.push_reserved-in-Err.ensures.items refl d.pages_whole

pub invariant_of-self-in-Err-clause-live : goal.invariant_of-self-in-Err-clause-live
invariant_of-self-in-Err-clause-live c =
    let d = c.args.self.now in
    c.in-Err.ensures.live ∙ d.live ∙ ap as_it_reads (sym (held_failed_sync d.start.items d.log.items c.push_reserved-in-Err.new.self.items c.push_reserved-in-Err.ensures.items))

pub invariant_of-self-in-Err-clause-synced : goal.invariant_of-self-in-Err-clause-synced
invariant_of-self-in-Err-clause-synced c =
    let d = c.args.self.now in
    c.in-Err.ensures.failed ∙ d.synced ∙ ap as_synced (sym (held_failed_sync d.start.items d.log.items c.push_reserved-in-Err.new.self.items c.push_reserved-in-Err.ensures.items))
