use Rattle.expanded_disk.specs.Laid.{blocks_for}
use Rattle.expanded_disk.specs.LaidLaws.{IsContent-expanded}
use Rattle.expanded_disk.proofs.Refusals.{fails_with, unmarred}
use Rattle.expanded_disk.proofs.disk.ExpandedDisk.into_source.Goals as goal

pub returns : goal.returns
returns g c =
    let state = g.K.Original.state in
    let self = c.args.self in
    record {
      cause = λ header is none some tells.
          let unrefused = unmarred (blocks_for self.index.pages) header self.at self.refused state.content tells self.inside
          (IsContent-expanded state.blocks state.content self.at self.index self.indexed) is in
          fails_with state.faults (g.B.ReadOnly.state self.source.below).faults self.faults state.content (self.cause some none unrefused) some tells;
    }
