use Rattle.overlay_disk.specs.OverlaidLaws.{Restarts-over}
use Rattle.overlay_disk.proofs.overlay.OverlayDisk.restart.Goals as goal

pub returns-clause-restarted : goal.returns-clause-restarted
returns-clause-restarted g c =
    let below = g.B.ReadOnly.state c.args.self.now.below in
    Restarts-over below.blocks c.args.self.now.kept below.content (g.met.B.ReadOnly.well_formed c.args.self.now.below)
