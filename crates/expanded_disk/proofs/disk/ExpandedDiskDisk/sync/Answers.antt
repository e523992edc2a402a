use Rattle.std.proofs.Common.{sym, ◌∙◌}
use Rattle.expanded_disk.proofs.Refusals.{syncs_through}
use Rattle.expanded_disk.proofs.disk.ExpandedDiskDisk.sync.Goals as goal

pub returns-clause-synced : goal.returns-clause-synced
returns-clause-synced g c =
    let self = c.args.self.now in
    syncs_through self.at self.refused g.K.Original.state.content (sym c.is_some.ensures ∙ c.if-is_some.false)
