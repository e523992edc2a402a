use Rattle.overlay_disk.specs.OverlaidLaws.{Syncs-over}
use Rattle.overlay_disk.proofs.overlay.OverlayDisk.sync.Goals as goal

pub returns-clause-synced : goal.returns-clause-synced
returns-clause-synced g c = Syncs-over c.args.self.now.kept (g.B.ReadOnly.state c.args.self.now.below).content
