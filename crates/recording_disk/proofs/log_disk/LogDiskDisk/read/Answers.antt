use Rattle.std.proofs.Common.{◌≡◌, ◌∙◌, subst, OnOk}
use Rattle.sector_disk.specs.MemDisk.{durable_sectors, live_sectors}
use Rattle.sector_disk.proofs.Padded.{same_size}
use Rattle.definitions.specs.Disk.{DiskImage, block}
use Rattle.sector_disk.proofs.Contents.{as_it_reads-content_of}
use Rattle.recording_disk.proofs.log_disk.LogDiskDisk.read.Goals as goal

pub returns-clause-bytes : goal.returns-clause-bytes
returns-clause-bytes c =
    let d = c.args.self.now in
    subst (λ (v : DiskImage). OnOk c.read.result (c.read.new.into ≡ block v c.args.b)) (as_it_reads-content_of (durable_sectors d.disk) (live_sectors d.disk) (same_size d.disk) ∙ d.live) c.read.ensures.bytes
