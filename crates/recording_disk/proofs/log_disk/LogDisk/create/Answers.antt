use Rattle.std.proofs.Common.{rules, ◌∙◌, sym}
use Rattle.sector_disk.specs.MemDisk.{durable_sectors, live_sectors}
use Rattle.recording_disk.proofs.Recordings.{reads_new, synced_new}
use Rattle.recording_disk.proofs.log_disk.LogDisk.create.Goals as goal

pub invariant_of-result-clause-live : goal.invariant_of-result-clause-live
invariant_of-result-clause-live c =
    reads_new c.in_ok-start.start.items (live_sectors c.in_ok-disk.disk) c.in_ok-log.log.items (search rules) (c.in_ok-disk.ensures.live ∙ sym c.in_ok-start.ensures)

pub invariant_of-result-clause-synced : goal.invariant_of-result-clause-synced
invariant_of-result-clause-synced c =
    synced_new c.in_ok-start.start.items (durable_sectors c.in_ok-disk.disk) c.in_ok-log.log.items (search rules) (c.in_ok-disk.ensures.durable ∙ sym c.in_ok-start.ensures)
