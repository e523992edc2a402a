use Rattle.std.proofs.Common.{◌∙◌, arith}
use Rattle.sector_disk.specs.MemDisk.{durable_sectors, live_sectors}
use Rattle.sector_disk.proofs.Padded.{same_size}
use Rattle.sector_disk.specs.RecordedLaws.{held_whole}
use Rattle.sector_disk.specs.Recorded.{held_after}
use Rattle.sector_disk.proofs.Contents.{on_ok, on_err}
use Rattle.recording_disk.proofs.Recordings.{block_inside, write_of, failed_write_of, live_write, live_failed_write, synced_write, synced_failed_write, whole_push, blocks_push, content_writes, content_fails_to_write, time_recorded}
use Rattle.sector_disk.specs.declared.recorded.Recorded.TheVariants.{Write, FailedWrite}
use Rattle.recording_disk.proofs.log_disk.LogDiskDisk.write.Goals as goal

pub invariant_of-self-clause-pages_whole : goal.invariant_of-self-clause-pages_whole
invariant_of-self-clause-pages_whole c =
    let d = c.args.self.now in
    let entry = write_of d.log.items c.push_reserved.new.self.items c.args.b c.from_bytes-page.result c.args.from.now c.push_reserved.ensures.items (c.from_bytes-page.ensures.bytes ∙ c.as_bytes.ensures.bytes) in
    whole_push d.log.items c.push_reserved.new.self.items (Write c.args.b c.args.from.now) entry c.as_bytes.ensures.page d.pages_whole

pub invariant_of-self-clause-blocks_inside : goal.invariant_of-self-clause-blocks_inside
invariant_of-self-clause-blocks_inside c =
    let d = c.args.self.now in
    let entry = write_of d.log.items c.push_reserved.new.self.items c.args.b c.from_bytes-page.result c.args.from.now c.push_reserved.ensures.items (c.from_bytes-page.ensures.bytes ∙ c.as_bytes.ensures.bytes) in
    blocks_push d.disk.blocks c.write-answer.new.self.blocks d.log.items c.push_reserved.new.self.items (Write c.args.b c.args.from.now) entry (omega (arith, c.requires)) d.blocks_inside c.write-answer.ensures.called.blocks

pub invariant_of-self-clause-live : goal.invariant_of-self-clause-live
invariant_of-self-clause-live c =
    let d = c.args.self.now in
    let whole = held_whole d.disk.blocks d.start.items d.log.items d.start_whole d.pages_whole in
    let le = block_inside d.disk.blocks c.args.b (held_after d.start.items d.log.items) whole c.requires in
    let entry = write_of d.log.items c.push_reserved.new.self.items c.args.b c.from_bytes-page.result c.args.from.now c.push_reserved.ensures.items (c.from_bytes-page.ensures.bytes ∙ c.as_bytes.ensures.bytes) in
    let kept = c.write-answer.new.self in
    live_write d.start.items d.log.items c.push_reserved.new.self.items c.args.b c.args.from.now (durable_sectors d.disk) (live_sectors d.disk) (durable_sectors kept) (live_sectors kept) entry
    (same_size d.disk) (same_size kept) le d.live c.in-Ok.ensures.written

pub invariant_of-self-clause-synced : goal.invariant_of-self-clause-synced
invariant_of-self-clause-synced c =
    let d = c.args.self.now in
    let whole = held_whole d.disk.blocks d.start.items d.log.items d.start_whole d.pages_whole in
    let le = block_inside d.disk.blocks c.args.b (held_after d.start.items d.log.items) whole c.requires in
    let entry = write_of d.log.items c.push_reserved.new.self.items c.args.b c.from_bytes-page.result c.args.from.now c.push_reserved.ensures.items (c.from_bytes-page.ensures.bytes ∙ c.as_bytes.ensures.bytes) in
    synced_write d.disk.blocks d.start.items d.log.items c.push_reserved.new.self.items c.args.b c.args.from.now (durable_sectors d.disk) (durable_sectors c.write-answer.new.self) entry whole le d.synced c.write-answer.ensures.durable

pub returns-in-Ok-clause-written : goal.returns-in-Ok-clause-written
returns-in-Ok-clause-written c =
    let d = c.args.self.now in
    let whole = held_whole d.disk.blocks d.start.items d.log.items d.start_whole d.pages_whole in
    let le = block_inside d.disk.blocks c.args.b (held_after d.start.items d.log.items) whole c.requires in
    let entry = write_of d.log.items c.push_reserved.new.self.items c.args.b c.from_bytes-page.result c.args.from.now c.push_reserved.ensures.items (c.from_bytes-page.ensures.bytes ∙ c.as_bytes.ensures.bytes) in
    on_ok c.write-answer.result (content_writes d.start.items d.log.items c.push_reserved.new.self.items c.args.b c.args.from.now entry le)

pub returns-in-Ok-clause-time : goal.returns-in-Ok-clause-time
returns-in-Ok-clause-time c =
    let d = c.args.self.now in
    let entry = write_of d.log.items c.push_reserved.new.self.items c.args.b c.from_bytes-page.result c.args.from.now c.push_reserved.ensures.items (c.from_bytes-page.ensures.bytes ∙ c.as_bytes.ensures.bytes) in
    time_recorded d.start.items d.log.items c.push_reserved.new.self.items (Write c.args.b c.args.from.now) entry

pub invariant_of-self-in-Err-clause-pages_whole : goal.invariant_of-self-in-Err-clause-pages_whole
invariant_of-self-in-Err-clause-pages_whole c =
    let d = c.args.self.now in
    let entry = failed_write_of d.log.items c.push_reserved-in-Err.new.self.items c.args.b c.from_bytes-page.result c.args.from.now c.armed_pick-pick.result d.disk.calls.pick c.push_reserved-in-Err.ensures.items (c.from_bytes-page.ensures.bytes ∙ c.as_bytes.ensures.bytes) (c.armed_pick-pick.ensures.pick ∙ c.write-answer.ensures.called.pick) in
    whole_push d.log.items c.push_reserved-in-Err.new.self.items (FailedWrite c.args.b c.args.from.now d.disk.calls.pick) entry c.as_bytes.ensures.page d.pages_whole

pub invariant_of-self-in-Err-clause-blocks_inside : goal.invariant_of-self-in-Err-clause-blocks_inside
invariant_of-self-in-Err-clause-blocks_inside c =
    let d = c.args.self.now in
    let entry = failed_write_of d.log.items c.push_reserved-in-Err.new.self.items c.args.b c.from_bytes-page.result c.args.from.now c.armed_pick-pick.result d.disk.calls.pick c.push_reserved-in-Err.ensures.items (c.from_bytes-page.ensures.bytes ∙ c.as_bytes.ensures.bytes) (c.armed_pick-pick.ensures.pick ∙ c.write-answer.ensures.called.pick) in
    blocks_push d.disk.blocks c.write-answer.new.self.blocks d.log.items c.push_reserved-in-Err.new.self.items (FailedWrite c.args.b c.args.from.now d.disk.calls.pick) entry (omega (arith, c.requires)) d.blocks_inside c.write-answer.ensures.called.blocks

pub invariant_of-self-in-Err-clause-live : goal.invariant_of-self-in-Err-clause-live
invariant_of-self-in-Err-clause-live c =
    let d = c.args.self.now in
    let whole = held_whole d.disk.blocks d.start.items d.log.items d.start_whole d.pages_whole in
    let le = block_inside d.disk.blocks c.args.b (held_after d.start.items d.log.items) whole c.requires in
    let entry = failed_write_of d.log.items c.push_reserved-in-Err.new.self.items c.args.b c.from_bytes-page.result c.args.from.now c.armed_pick-pick.result d.disk.calls.pick c.push_reserved-in-Err.ensures.items (c.from_bytes-page.ensures.bytes ∙ c.as_bytes.ensures.bytes) (c.armed_pick-pick.ensures.pick ∙ c.write-answer.ensures.called.pick) in
    let kept = c.write-answer.new.self in
    live_failed_write d.start.items d.log.items c.push_reserved-in-Err.new.self.items c.args.b c.args.from.now d.disk.calls.pick (durable_sectors d.disk) (live_sectors d.disk) (durable_sectors kept) (live_sectors kept) entry
    (same_size d.disk) (same_size kept) le d.live c.in-Err.ensures.failed c.in-Err.ensures.picked

pub invariant_of-self-in-Err-clause-synced : goal.invariant_of-self-in-Err-clause-synced
invariant_of-self-in-Err-clause-synced c =
    let d = c.args.self.now in
    let whole = held_whole d.disk.blocks d.start.items d.log.items d.start_whole d.pages_whole in
    let le = block_inside d.disk.blocks c.args.b (held_after d.start.items d.log.items) whole c.requires in
    let entry = failed_write_of d.log.items c.push_reserved-in-Err.new.self.items c.args.b c.from_bytes-page.result c.args.from.now c.armed_pick-pick.result d.disk.calls.pick c.push_reserved-in-Err.ensures.items (c.from_bytes-page.ensures.bytes ∙ c.as_bytes.ensures.bytes) (c.armed_pick-pick.ensures.pick ∙ c.write-answer.ensures.called.pick) in
    synced_failed_write d.disk.blocks d.start.items d.log.items c.push_reserved-in-Err.new.self.items c.args.b c.args.from.now d.disk.calls.pick (durable_sectors d.disk) (durable_sectors c.write-answer.new.self) entry whole le d.synced c.write-answer.ensures.durable

pub returns-in-Err-clause-failed : goal.returns-in-Err-clause-failed
returns-in-Err-clause-failed c =
    let d = c.args.self.now in
    let whole = held_whole d.disk.blocks d.start.items d.log.items d.start_whole d.pages_whole in
    let le = block_inside d.disk.blocks c.args.b (held_after d.start.items d.log.items) whole c.requires in
    let entry = failed_write_of d.log.items c.push_reserved-in-Err.new.self.items c.args.b c.from_bytes-page.result c.args.from.now c.armed_pick-pick.result d.disk.calls.pick c.push_reserved-in-Err.ensures.items (c.from_bytes-page.ensures.bytes ∙ c.as_bytes.ensures.bytes) (c.armed_pick-pick.ensures.pick ∙ c.write-answer.ensures.called.pick) in
    on_err c.write-answer.result (content_fails_to_write d.start.items d.log.items c.push_reserved-in-Err.new.self.items c.args.b c.args.from.now d.disk.calls.pick entry le)

pub returns-in-Err-clause-time : goal.returns-in-Err-clause-time
returns-in-Err-clause-time c =
    let d = c.args.self.now in
    let entry = failed_write_of d.log.items c.push_reserved-in-Err.new.self.items c.args.b c.from_bytes-page.result c.args.from.now c.armed_pick-pick.result d.disk.calls.pick c.push_reserved-in-Err.ensures.items (c.from_bytes-page.ensures.bytes ∙ c.as_bytes.ensures.bytes) (c.armed_pick-pick.ensures.pick ∙ c.write-answer.ensures.called.pick) in
    time_recorded d.start.items d.log.items c.push_reserved-in-Err.new.self.items (FailedWrite c.args.b c.args.from.now d.disk.calls.pick) entry
