use Rattle.expanded_disk.specs.Laid.{blocks_for}
use Rattle.expanded_disk.specs.LaidLaws.{IsContent-expanded}
use Rattle.expanded_disk.proofs.Refusals.{restarts}
use Rattle.expanded_disk.proofs.disk.ExpandedDiskDisk.restart.Goals as goal

pub returns-clause-restarted : goal.returns-clause-restarted
returns-clause-restarted g c =
    let state = g.K.Original.state in
    let self = c.args.self.now in
    restarts (blocks_for self.index.pages) self.at self.refused state.content self.inside (IsContent-expanded state.blocks state.content self.at self.index self.indexed)
