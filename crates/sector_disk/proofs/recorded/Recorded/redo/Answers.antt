use Rattle.sector_disk.proofs.Recordings.{redo_write, redo_failed_write, redo_sync}
use Rattle.sector_disk.proofs.recorded.Recorded.redo.Goals as goal

pub returns-in-Write : goal.returns-in-Write
returns-in-Write c = λ blocks held whole kept.
    let inside = rw c.in-Write.is at c.requires.inside in
    rw c.in-Write.is (redo_write blocks c.in-Write.b c.in-Write.page held c.args.durable.now c.args.live.now c.write_block.new.sectors c.requires.same_length inside c.write_block.ensures.others c.write_block.ensures.within whole kept)

pub returns-in-FailedWrite : goal.returns-in-FailedWrite
returns-in-FailedWrite c = λ blocks held whole kept.
    let inside = rw c.in-FailedWrite.is at c.requires.inside in
    rw c.in-FailedWrite.is (redo_failed_write blocks c.in-FailedWrite.b c.in-FailedWrite.page c.in-FailedWrite.pick held c.args.durable.now c.args.live.now c.write_picked.new.sectors c.requires.same_length inside c.write_picked.ensures.others c.write_picked.ensures.within whole kept)

pub returns-in-Sync : goal.returns-in-Sync
returns-in-Sync c = λ blocks held whole kept. rw c.in-Sync.is (redo_sync held c.args.durable.now c.args.live.now c.copy_from_slice.new.self c.copy_from_slice.ensures.after kept)
